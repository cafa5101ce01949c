-- Objects: what is read has the table of an object, and what has that table is read.
use Rattle.std.proofs.Common.{◌≡◌, ℕ, ◌+◌, ◌*◌, ◌/◌, ◌%◌, ◌≤◌, Bool, true, false, List, [], ◌∷◌, ◌++◌, length, take, drop, refl, sym, ap, subst, ◌∙◌, arith}
use Rattle.std.specs.Prelude.{◌==◌}
use Rattle.std.proofs.lemmas.List.{take_at, drop_at, drop-drop, length-append, length-drop, length-take-le, take-append-drop}
use Rattle.stream_syntax.specs.Fields.{Field, HasFields, FitsFields}
use Rattle.stream_syntax.specs.PixelCodes.{bits_of}
use Rattle.stream_syntax.specs.Segments.{Object, object_fields, bytes_fields, padding, flag}
use Rattle.stream_syntax.specs.SegmentTests.{coding_method, object_size}
use Rattle.stream_syntax.specs.Tests.{word_at}
use Rattle.segments.specs.Reading.{object_in}
use Rattle.segments.proofs.Bits.{take_byte, put_byte, take_word, put_word}
use Rattle.segments.proofs.Shapes.{AreBytes, AreBytes-drop, AreBytes-take, AreBytes-tail, fields_bytes, no_bytes, nothing_left, take_4_2_1, put_4_2_1, flag_back, flag_there, flag_fits}

-- ---- bytes as they are

pub bytes_laid : (bytes more : List ℕ) (fields : List Field) → AreBytes bytes → HasFields fields (bits_of more)
    × FitsFields fields
    → HasFields (bytes_fields bytes ++ fields) (bits_of (bytes ++ more)) × FitsFields (bytes_fields bytes ++ fields)
bytes_laid [] more fields fits has = has
bytes_laid (b ∷ bytes) more fields fits has =
    let rest = bytes_laid bytes more fields (AreBytes-tail b bytes fits) has in
    (put_byte b (bytes_fields bytes ++ fields) (bytes ++ more) (fits 0) rest.0, (fits 0, rest.1))

-- what has the table of bytes, and then other rows, is these bytes and then others
pub record Split (bytes all : List ℕ) (fields : List Field) : Type 0 where
  pub more : List ℕ
  pub parts : all ≡ bytes ++ more
  pub has : HasFields fields (bits_of more)
  pub fit : FitsFields fields

pub bytes_again : (bytes all : List ℕ) (fields : List Field) → AreBytes all
    → FitsFields (bytes_fields bytes ++ fields)
    → HasFields (bytes_fields bytes ++ fields) (bits_of all) → Split bytes all fields
bytes_again [] all fields fits fit has = record { more = all; parts = refl; has = has; fit = fit }
bytes_again (b ∷ bytes) [] fields fits fit has = absurd (omega (arith, fields_bytes _ [] has))
bytes_again (b ∷ bytes) (c ∷ all) fields fits fit has =
    let first = take_byte b c (bytes_fields bytes ++ fields) all fit.0 (fits 0) has in
    let rest = bytes_again bytes all fields (AreBytes-tail c all fits) fit.1 first.1 in
    record {
      more = rest.more;
      parts = ap (λ (n : ℕ). n ∷ all) first.0
          ∙ ap (λ (s : List ℕ). b ∷ s) rest.parts;
      has = rest.has;
      fit = rest.fit;
    }

-- ---- the byte that makes the length even

abbrev pub pad_bytes : Bool → List ℕ
pad_bytes false = []
pad_bytes true = 0 ∷ []

pad_laid : (padded : Bool) → HasFields (padding padded) (bits_of (pad_bytes padded)) × FitsFields (padding padded)
pad_laid false = (nothing_left, tt)
pad_laid true = (put_byte 0 [] [] (omega arith) nothing_left, (omega arith, tt))

pad_again : (padded : Bool) (bytes : List ℕ) → AreBytes bytes → HasFields (padding padded) (bits_of bytes)
    → bytes ≡ pad_bytes padded
pad_again false bytes fits has = no_bytes bytes has
pad_again true [] fits has = absurd (omega (arith, fields_bytes _ [] has))
pad_again true (b ∷ bytes) fits has =
    let first = take_byte 0 b [] bytes (omega arith) (fits 0) has in
    let nothing = no_bytes bytes first.1 in
    rw (first.0, nothing) refl

-- ---- an object that is read

-- the blocks and what follows them
abbrev pub Ends : List ℕ → ℕ → ℕ → Bool → Type 0
Ends rest top bottom padded = drop bottom (drop top rest) ≡ pad_bytes padded

cut : (rest : List ℕ) (top bottom : ℕ) (padded : Bool) → Ends rest top bottom padded
    → rest ≡ take top rest ++ (take bottom (drop top rest) ++ pad_bytes padded)
cut rest top bottom padded ends =
    sym (take-append-drop top rest)
    ∙ ap (λ (s : List ℕ). take top rest ++ s)
    (sym (take-append-drop bottom (drop top rest))
    ∙ ap (λ (s : List ℕ). take bottom (drop top rest) ++ s) ends)

object_cells : (padded : Bool) (o1 o0 flags t1 t0 b1 b0 : ℕ) (rest bottom : List ℕ)
    → AreBytes (o1 ∷ o0 ∷ flags ∷ t1 ∷ t0 ∷ b1 ∷ b0 ∷ rest)
    → (t1 * 256 + t0) + (b1 * 256 + b0) ≤ length rest → flags / 4 % 4 ≡ 0
    → Ends rest (t1 * 256 + t0) (b1 * 256 + b0) padded → bottom ≡ take (b1 * 256 + b0) (drop (t1 * 256 + t0) rest)
    → HasFields
    (object_fields padded
    (record {
      object = o1 * 256
          + o0;
      version = flags / 16;
      see_through = flags / 2 % 2 == 1;
      top = take (t1 * 256 + t0) rest;
      bottom = bottom;
    })) (bits_of (o1 ∷ o0 ∷ flags ∷ t1 ∷ t0 ∷ b1 ∷ b0 ∷ rest))
    × FitsFields
    (object_fields padded
    (record {
      object = o1 * 256
          + o0;
      version = flags / 16;
      see_through = flags / 2 % 2 == 1;
      top = take (t1 * 256 + t0) rest;
      bottom = bottom;
    }))
object_cells padded o1 o0 flags t1 t0 b1 b0 rest bottom fits long method ends bottom-is =
    let fits-rest : AreBytes rest = AreBytes-drop 7 (o1 ∷ o0 ∷ flags ∷ t1 ∷ t0 ∷ b1 ∷ b0 ∷ rest) fits in
    let fits-bottom : AreBytes bottom =
    subst AreBytes (sym bottom-is)
    (AreBytes-take (b1 * 256 + b0) (drop (t1 * 256 + t0) rest) (AreBytes-drop (t1 * 256 + t0) rest fits-rest)) in
    let parts : rest ≡ take (t1 * 256 + t0) rest ++ (bottom ++ pad_bytes padded) =
    cut rest (t1 * 256 + t0) (b1 * 256 + b0) padded ends
    ∙ ap (λ (s : List ℕ). take (t1 * 256 + t0) rest ++ (s ++ pad_bytes padded)) (sym bottom-is) in
    let top-long : length (take (t1 * 256 + t0) rest) ≡ t1 * 256 + t0 =
    length-take-le (t1 * 256 + t0) rest (omega arith) in
    let bottom-long : length bottom ≡ b1 * 256 + b0 =
    ap length bottom-is
    ∙ length-take-le (b1 * 256 + b0) (drop (t1 * 256 + t0) rest) (omega (arith, length-drop (t1 * 256 + t0) rest))
    in
    let p1 = bytes_laid bottom (pad_bytes padded) (padding padded) fits-bottom (pad_laid padded) in
    let p2 =
    bytes_laid (take (t1 * 256 + t0) rest) (bottom ++ pad_bytes padded) (bytes_fields bottom ++ padding padded)
    (AreBytes-take (t1 * 256 + t0) rest fits-rest) p1 in
    let p3 : HasFields (bytes_fields (take (t1 * 256 + t0) rest) ++ (bytes_fields bottom ++ padding padded))
    (bits_of rest) = subst
    (λ (s : List ℕ). HasFields
    (bytes_fields (take (t1 * 256 + t0) rest) ++ (bytes_fields bottom ++ padding padded)) (bits_of s)) (sym parts)
    p2.0 in
    let p4 = put_word b1 b0 _ rest (fits 5) (fits 6) p3 in
    let p5 = put_word t1 t0 _ (b1 ∷ b0 ∷ rest) (fits 3) (fits 4) p4 in
    let p6 = put_4_2_1 flags 0 _ (t1 ∷ t0 ∷ b1 ∷ b0 ∷ rest) (fits 2) method p5 in
    let p7 = put_word o1 o0 _ (flags ∷ t1 ∷ t0 ∷ b1 ∷ b0 ∷ rest) (fits 0) (fits 1) p6 in (
      rw (top-long, bottom-long, flag_there (flags / 2 % 2) (omega arith)) p7,
      (
        omega (arith, fits 0, fits 1),
        (
          omega
              (arith, fits 2),
          (
            omega
                arith,
            (
              flag_fits
                  _,
              (tt, (omega (arith, top-long, fits 3, fits 4), (omega (arith, bottom-long, fits 5, fits 6), p2.1))),
            ),
          ),
        ),
      ),
    )

pub object_laid : (padded : Bool) (body : List ℕ) → AreBytes body → 7 ≤ length body
    → 7 + word_at 3 body + word_at 5 body ≤ length body → coding_method body ≡ 0
    → Ends (drop 7 body) (word_at 3 body) (word_at 5 body) padded
    → HasFields (object_fields padded (object_in body)) (bits_of body)
    × FitsFields (object_fields padded (object_in body))
object_laid padded (o1 ∷ o0 ∷ flags ∷ t1 ∷ t0 ∷ b1 ∷ b0 ∷ rest) fits head long method ends =
    let at : drop (7 + (t1 * 256 + t0)) (o1 ∷ o0 ∷ flags ∷ t1 ∷ t0 ∷ b1 ∷ b0 ∷ rest)
    ≡ drop (t1 * 256 + t0) rest = sym
    (drop-drop (t1 * 256 + t0) 7 (o1 ∷ o0 ∷ flags ∷ t1 ∷ t0 ∷ b1 ∷ b0 ∷ rest)) in
    object_cells padded o1 o0 flags t1 t0 b1 b0 rest
    (take (b1 * 256 + b0) (drop (7 + (t1 * 256 + t0)) (o1 ∷ o0 ∷ flags ∷ t1 ∷ t0 ∷ b1 ∷ b0 ∷ rest)))
    fits (omega arith) method ends (ap (take (b1 * 256 + b0)) at)
object_laid padded [] fits head long method ends = absurd (omega arith)
object_laid padded (a ∷ []) fits head long method ends = absurd (omega arith)
object_laid padded (a ∷ b ∷ []) fits head long method ends = absurd (omega arith)
object_laid padded (a ∷ b ∷ c ∷ []) fits head long method ends = absurd (omega arith)
object_laid padded (a ∷ b ∷ c ∷ d ∷ []) fits head long method ends = absurd (omega arith)
object_laid padded (a ∷ b ∷ c ∷ d ∷ e ∷ []) fits head long method ends = absurd (omega arith)
object_laid padded (a ∷ b ∷ c ∷ d ∷ e ∷ f ∷ []) fits head long method ends = absurd (omega arith)

-- ---- what has the table is read

pad_long : (padded : Bool) → length (pad_bytes padded) ≤ 1
pad_long false = omega arith
pad_long true = omega arith

-- the blocks of what has the table of an object
pub record BlocksAt (object : Object) (padded : Bool) (rest : List ℕ) : Type 0 where
  pub top : take (length object.top) rest ≡ object.top
  pub bottom : take (length object.bottom) (drop (length object.top) rest) ≡ object.bottom
  pub ends : drop (length object.bottom) (drop (length object.top) rest) ≡ pad_bytes padded
  pub long : length rest ≡ length object.top + length object.bottom + length (pad_bytes padded)

blocks_at : (object : Object) (padded : Bool) (rest : List ℕ) → AreBytes rest
    → FitsFields (bytes_fields object.top ++ (bytes_fields object.bottom ++ padding padded))
    → HasFields (bytes_fields object.top ++ (bytes_fields object.bottom ++ padding padded)) (bits_of rest)
    → BlocksAt object padded rest
blocks_at object padded rest fits fit has =
    let first = bytes_again object.top rest (bytes_fields object.bottom ++ padding padded) fits fit has in
    let after : drop (length object.top) rest ≡ first.more =
    ap (drop (length object.top)) first.parts ∙ drop_at object.top first.more (length object.top) refl in
    let fits-more : AreBytes first.more = subst AreBytes after (AreBytes-drop (length object.top) rest fits) in
    let second = bytes_again object.bottom first.more (padding padded) fits-more first.fit first.has in
    let after2 : drop (length object.bottom) first.more ≡ second.more =
    ap (drop (length object.bottom)) second.parts
    ∙ drop_at object.bottom second.more (length object.bottom) refl in
    let pad : second.more ≡ pad_bytes padded =
    pad_again padded second.more (subst AreBytes after2 (AreBytes-drop (length object.bottom) first.more fits-more))
    second.has in
    record {
      top = ap (take (length object.top)) first.parts ∙ take_at object.top first.more (length object.top) refl;
      bottom =
          ap (take (length object.bottom)) after ∙ ap (take (length object.bottom)) second.parts
          ∙ take_at object.bottom second.more (length object.bottom) refl;
      ends = ap (drop (length object.bottom)) after ∙ after2 ∙ pad;
      long =
          omega (
            arith,
            ap length first.parts,
            length-append object.top first.more,
            ap length
                second.parts,
            length-append object.bottom second.more,
            ap length pad,
          );
    }

pub object_again : (padded : Bool) (value : Object) (body : List ℕ) → AreBytes body
    → FitsFields (object_fields padded value)
    → HasFields (object_fields padded value) (bits_of body)
    → (object_in body ≡ value) × (7 ≤ length body) × (coding_method body ≡ 0)
    × (length body ≡ object_size body + length (pad_bytes padded))
    × Ends (drop 7 body) (word_at 3 body) (word_at 5 body) padded
object_again padded value (o1 ∷ o0 ∷ flags ∷ t1 ∷ t0 ∷ b1 ∷ b0 ∷ rest) fits fit has =
    let a = take_word value.object o1 o0 _ _ fit.0 (fits 0) (fits 1) has in
    let b =
    take_4_2_1 flags value.version 0 (flag value.see_through) _ _ (fits 2) fit.1.0 (omega arith) fit.1.1.1.0 a.1 in
    let c = take_word (length value.top) t1 t0 _ _ fit.1.1.1.1.1.0 (fits 3) (fits 4) b.3 in
    let d =
    take_word (length value.bottom) b1 b0 (bytes_fields value.top ++ (bytes_fields value.bottom ++ padding padded))
    rest fit.1.1.1.1.1.1.0 (fits 5) (fits 6) c.1 in
    let e =
    blocks_at value padded rest (AreBytes-drop 7 (o1 ∷ o0 ∷ flags ∷ t1 ∷ t0 ∷ b1 ∷ b0 ∷ rest) fits)
    fit.1.1.1.1.1.1.1 d.1 in
    let at : drop (7 + length value.top) (o1 ∷ o0 ∷ flags ∷ t1 ∷ t0 ∷ b1 ∷ b0 ∷ rest)
    ≡ drop (length value.top) rest = sym
    (drop-drop (length value.top) 7 (o1 ∷ o0 ∷ flags ∷ t1 ∷ t0 ∷ b1 ∷ b0 ∷ rest)) in
    let see = flag_back (flags / 2 % 2) value.see_through b.2 in (
      rw (a.0, b.0, see, c.0, d.0, e.top, at, e.bottom) refl,
      omega arith,
      b.1,
      omega (arith, e.long, c.0, d.0),
      rw
          (c.0, d.0) e.ends,
    )
object_again padded value [] fits fit has = absurd (omega (arith, fields_bytes _ [] has))
object_again padded value (a ∷ []) fits fit has = absurd (omega (arith, fields_bytes _ (a ∷ []) has))
object_again padded value (a ∷ b ∷ []) fits fit has = absurd (omega (arith, fields_bytes _ (a ∷ b ∷ []) has))
object_again padded value (a ∷ b ∷ c ∷ []) fits fit has =
    absurd (omega (arith, fields_bytes _ (a ∷ b ∷ c ∷ []) has))
object_again padded value (a ∷ b ∷ c ∷ d ∷ []) fits fit has =
    absurd (omega (arith, fields_bytes _ (a ∷ b ∷ c ∷ d ∷ []) has))
object_again padded value (a ∷ b ∷ c ∷ d ∷ e ∷ []) fits fit has =
    absurd (omega (arith, fields_bytes _ (a ∷ b ∷ c ∷ d ∷ e ∷ []) has))
object_again padded value (a ∷ b ∷ c ∷ d ∷ e ∷ f ∷ []) fits fit has =
    absurd (omega (arith, fields_bytes _ (a ∷ b ∷ c ∷ d ∷ e ∷ f ∷ []) has))
