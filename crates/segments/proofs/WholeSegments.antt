-- Whole segments over their heads: what is read is a segment with its value, a segment with a value is read, and bytes
-- have one value or one fault.
use Rattle.std.proofs.Common.{◌≡◌, ℕ, ◌+◌, ◌<◌, ◌≤◌, List, [], ◌∷◌, ◌++◌, All, length, take, drop, None, refl, sym, ap, subst, ◌∙◌, append_assoc, arith, inl, inr}
use Rattle.std.specs.Prelude.{not}
use Rattle.std.proofs.lemmas.Bool.{cases_lt, ltb-false, le-ltb, eqb-true, eq-eqb}
use Rattle.std.proofs.lemmas.Grind.{flat_map-append}
use Rattle.std.proofs.lemmas.List.{length-drop, length-take-le, drop-take, get_or-take, get_or_past}
use Rattle.std.proofs.lemmas.List.Elements.{All-get_or, All-from_get_or}
use Rattle.std.proofs.Math.Seq.{take-add}
use Rattle.stream_syntax.specs.Fields.{Field, HasFields, no_row, row_first, FitsFields}
use Rattle.stream_syntax.specs.PixelCodes.{bits, bits_of}
use Rattle.stream_syntax.specs.Segments.{SegmentValue, head_fields, segment_fields, byte_count, IsBody, IsValid, IsSegment}
use Rattle.stream_syntax.specs.SegmentTests.{frame_tests, body_of}
use Rattle.stream_syntax.specs.Tests.{first_fault, byte_at, word_at}
use Rattle.segments.proofs.Bits.{take_byte, take_word}
use Rattle.segments.proofs.Heads.{head_is_laid}
use Rattle.segments.proofs.Passing.{none_from, none_there, or_false, or_there, not_false}
use Rattle.segments.proofs.Shapes.{AreBytes, AreBytes-drop, AreBytes-take, widths-sum, fields_bytes}
use Rattle.segments.proofs.Whole.{Laid, Reads, body_again}

-- ---- tables one after the other

has_append : {first second : List Field} {a b : List ℕ} → HasFields first a → HasFields second b
    → HasFields (first ++ second) (a ++ b)
has_append no_row more = more
has_append {b = b} (row_first row rest is has e) more = row_first row (rest ++ b) is (has_append has more)
    (ap (λ (s : List ℕ). s ++ b) e ∙ append_assoc row rest b)

bits_of-append : (a b : List ℕ) → bits_of (a ++ b) ≡ bits_of a ++ bits_of b
unfolding bits_of
bits_of-append a b = flat_map-append (bits 8) a b

pub byte_count_is : (fields : List Field) (bytes : List ℕ) → HasFields fields (bits_of bytes)
    → byte_count fields ≡ length bytes
byte_count_is fields bytes has = omega (arith, widths-sum fields, fields_bytes fields bytes has)

-- ---- the head

abbrev pub HeadAsks : List ℕ → Type 0
HeadAsks bytes = (byte_at 0 bytes ≡ 15) × (6 ≤ length bytes) × (6 + word_at 4 bytes ≤ length bytes)

pub head_asks : (bytes : List ℕ) → first_fault (frame_tests bytes) ≡ None → HeadAsks bytes
head_asks bytes none =
    let a = none_from _ _ _ none in
    let b = none_from _ _ _ a.1 in
    let c = or_false _ _ b.0 in
    (eqb-true _ _ (not_false _ a.0), ltb-false _ _ c.0, ltb-false _ _ c.1)

pub head_passes : (bytes : List ℕ) → HeadAsks bytes → first_fault (frame_tests bytes) ≡ None
head_passes bytes (sync, long, whole) =
    none_there _ _ _ (ap not (eq-eqb (byte_at 0 bytes) 15 sync))
    (none_there _ _ _
    (or_there _ _ (le-ltb (length bytes) 6 long) (le-ltb (length bytes) (6 + word_at 4 bytes) whole)) refl)

pub body_length : (bytes : List ℕ) → HeadAsks bytes → length (body_of bytes) ≡ word_at 4 bytes
body_length bytes asks = length-take-le (word_at 4 bytes) (drop 6 bytes) (omega (arith, length-drop 6 bytes, asks.2))

-- ---- what is read is a segment

pub is_segment : (bytes : List ℕ) (value : SegmentValue) → AreBytes bytes
    → first_fault (frame_tests bytes) ≡ None → Laid (byte_at 1 bytes) (body_of bytes) value
    → IsSegment (take (6 + word_at 4 bytes) bytes) value
is_segment bytes value fits none laid =
    let asks = head_asks bytes none in
    let size : byte_count laid.fields ≡ word_at 4 bytes =
    byte_count_is laid.fields (body_of bytes) laid.has ∙ body_length bytes asks in
    let head : HasFields (head_fields (byte_at 1 bytes) (word_at 2 bytes) (byte_count laid.fields))
    (bits_of (take 6 bytes)) = rw size (head_is_laid bytes fits asks.0 asks.1) in
    let parts : bits_of (take (6 + word_at 4 bytes) bytes) ≡ bits_of (take 6 bytes) ++ bits_of (body_of bytes) =
    ap bits_of (take-add 6 (word_at 4 bytes) bytes) ∙ bits_of-append (take 6 bytes) (body_of bytes) in
    record {
      each =
          All-from_get_or (λ (b : ℕ). b < 256) (take (6 + word_at 4 bytes) bytes) 0
          (λ i lt. AreBytes-take (6 + word_at 4 bytes) bytes fits i);
      kind = byte_at 1 bytes;
      page = word_at 2 bytes;
      body = laid.fields;
      is_body = laid.is_body;
      fits = (omega arith, (fits 1, (omega (arith, fits 2, fits 3), (omega (arith, size, fits 4, fits 5), laid.fits))));
      laid =
          subst (HasFields (segment_fields (byte_at 1 bytes) (word_at 2 bytes) laid.fields)) (sym parts)
          (has_append head laid.has);
      valid = laid.valid;
    }

-- ---- a segment is read

bytes_of_all : (bytes : List ℕ) → All (λ (b : ℕ). b < 256) bytes → AreBytes bytes
bytes_of_all bytes each i =
    elim (cases_lt i (length bytes)) [
      | inl lt ↦ All-get_or (λ (b : ℕ). b < 256) bytes i 0 lt each
      | inr le ↦ rw (get_or_past bytes i 0 le) (omega arith)
    ]

abbrev Again : List ℕ → SegmentValue → Type 0
Again segment value = (byte_at 0 segment ≡ 15) × (6 ≤ length segment)
    × (length segment ≡ 6 + word_at 4 segment) × Reads (byte_at 1 segment) (drop 6 segment) value

cells_again : (segment : List ℕ) (value : SegmentValue) (kind page : ℕ) (body : List Field) → AreBytes segment
    → IsBody value kind body → FitsFields (segment_fields kind page body)
    → HasFields (segment_fields kind page body) (bits_of segment) → IsValid value → Again segment value
cells_again (a ∷ b ∷ c ∷ d ∷ e ∷ f ∷ rest) value kind page body bytes is fits has valid =
    let first = take_byte 15 a _ _ (omega arith) (bytes 0) has in
    let second = take_byte kind b _ _ fits.1.0 (bytes 1) first.1 in
    let third = take_word page c d _ _ fits.1.1.0 (bytes 2) (bytes 3) second.1 in
    let fourth = take_word (byte_count body) e f body rest fits.1.1.1.0 (bytes 4) (bytes 5) third.1 in
    let size = byte_count_is body rest fourth.1 in
    let reads =
    body_again value kind rest body (AreBytes-drop 6 (a ∷ b ∷ c ∷ d ∷ e ∷ f ∷ rest) bytes) is
    fits.1.1.1.1 fourth.1 valid in
    (first.0, omega arith, omega (arith, size, fourth.0), subst (λ (k : ℕ). Reads k rest value) (sym second.0) reads)
cells_again [] value kind page body bytes is fits has valid = absurd (omega (arith, fields_bytes _ [] has))
cells_again (a ∷ []) value kind page body bytes is fits has valid =
    absurd (omega (arith, fields_bytes _ (a ∷ []) has))
cells_again (a ∷ b ∷ []) value kind page body bytes is fits has valid =
    absurd (omega (arith, fields_bytes _ (a ∷ b ∷ []) has))
cells_again (a ∷ b ∷ c ∷ []) value kind page body bytes is fits has valid =
    absurd (omega (arith, fields_bytes _ (a ∷ b ∷ c ∷ []) has))
cells_again (a ∷ b ∷ c ∷ d ∷ []) value kind page body bytes is fits has valid =
    absurd (omega (arith, fields_bytes _ (a ∷ b ∷ c ∷ d ∷ []) has))
cells_again (a ∷ b ∷ c ∷ d ∷ e ∷ []) value kind page body bytes is fits has valid =
    absurd (omega (arith, fields_bytes _ (a ∷ b ∷ c ∷ d ∷ e ∷ []) has))

pub segment_again : (bytes : List ℕ) (size : ℕ) (value : SegmentValue) → size ≤ length bytes
    → IsSegment (take size bytes) value
    → (first_fault (frame_tests bytes) ≡ None) × (size ≡ 6 + word_at 4 bytes)
    × Reads (byte_at 1 bytes) (body_of bytes) value
segment_again bytes size value le is =
    let again =
    cells_again (take size bytes) value is.kind is.page is.body (bytes_of_all (take size bytes) is.each) is.is_body
    is.fits is.laid is.valid in
    let long : length (take size bytes) ≡ size = length-take-le size bytes le in
    let six : 6 ≤ size = omega (arith, again.1, long) in
    let word : word_at 4 (take size bytes) ≡ word_at 4 bytes =
    rw (get_or-take size bytes 4 0 (omega arith), get_or-take size bytes 5 0 (omega arith)) refl in
    let whole : size ≡ 6 + word_at 4 bytes = omega (arith, again.2, long, word) in
    let sync : byte_at 0 bytes ≡ 15 = sym (get_or-take size bytes 0 0 (omega arith)) ∙ again.0 in
    let rest : drop 6 (take size bytes) ≡ body_of bytes =
    ap (λ (n : ℕ). drop 6 (take n bytes)) whole ∙ drop-take 6 (word_at 4 bytes) bytes in
    let kind : byte_at 1 (take size bytes) ≡ byte_at 1 bytes = get_or-take size bytes 1 0 (omega arith) in (
      head_passes bytes (sync, omega arith, omega arith),
      whole,
      subst (λ (k : ℕ). Reads k (body_of bytes) value) kind
          (subst (λ (b : List ℕ). Reads (byte_at 1 (take size bytes)) b value) rest again.3),
    )

-- the segment type is the second byte
kind_by_cells : (segment : List ℕ) (kind page : ℕ) (body : List Field) → AreBytes segment
    → FitsFields (segment_fields kind page body) → HasFields (segment_fields kind page body) (bits_of segment)
    → kind ≡ byte_at 1 segment
kind_by_cells (a ∷ b ∷ rest) kind page body bytes fits has =
    let first = take_byte 15 a _ _ (omega arith) (bytes 0) has in
    sym (take_byte kind b _ _ fits.1.0 (bytes 1) first.1).0
kind_by_cells [] kind page body bytes fits has = absurd (omega (arith, fields_bytes _ [] has))
kind_by_cells (a ∷ []) kind page body bytes fits has = absurd (omega (arith, fields_bytes _ (a ∷ []) has))

pub kind_there : (segment : List ℕ) (value : SegmentValue) (is : IsSegment segment value)
    → is.kind ≡ byte_at 1 segment
kind_there segment value is =
    kind_by_cells segment is.kind is.page is.body (bytes_of_all segment is.each) is.fits is.laid
