-- A walk over a string, code after code: where it stands, its steps, and its end.
use Rattle.std.proofs.Common.{◌≡◌, ◌∙◌, refl, sym, ap, subst, ℕ, ◌+◌, ◌-◌, ◌*◌, ◌/◌, ◌<◌, List, [], ◌∷◌, ◌++◌, length, drop, Option, Some, None, append_assoc, arith}
use Rattle.std.specs.Prelude.{flat_map, All, replicate}
use Rattle.std.proofs.lemmas.List.{length-append, append-nil, length-replicate}
use Rattle.std.proofs.lemmas.List.Concat.{flat_map-append}
use Rattle.std.proofs.lemmas.List.Elements.{All-head, All-tail}
use Rattle.sub_base.specs.declared.depth.Depth.{Depth}
use Rattle.sub_base.specs.declared.depth.Depth.TheVariants.{Two, Four, Eight}
use Rattle.sub_base.specs.Depth.{bits_of as code_bits}
use Rattle.stream_syntax.specs.PixelCodes.{bits_of, Code, pixel, one_zero, two_zeros, zeros, short_run, middle_run, long_run, IsCode, pixel_count, colour_of, pixels_of, spelled, ending, string_of, IsString}
use Rattle.string_painting.specs.Codes.{codes_in_byte}
use Rattle.code_strings.specs.Widths.{width_of}
use Rattle.code_strings.proofs.Bits.{length-bits_of, bits_of-append, drop-next}
use Rattle.code_strings.proofs.Tokens.{end_width, length-spelled, length-ending, nothing}
use Rattle.code_strings.proofs.Strings.{string_of-cons, not_end}
use Rattle.code_strings.specs.declared.token.Token.{Token}
use Rattle.code_strings.specs.declared.token.Token.TheVariants.{Pixels, End}
use Rattle.string_painting.specs.Painting.{LaysPixels, pixels_of_codes}
use Rattle.string_painting.specs.Private.Reading.{token_at}
use Rattle.string_painting.specs.Private.Spelling.{field_count, end_count}
use Rattle.string_painting.proofs.Codes.{code_stands, end_stands}
use Rattle.string_painting.proofs.Laying.{LaysPixels-append, LaysPixels-none}

-- codes and ends have whole fields
whole_fields : (depth : Depth) (code : Code) → width_of depth code ≡ code_bits depth * field_count depth code
whole_fields Two (pixel code) = refl
whole_fields Two one_zero = refl
whole_fields Two two_zeros = refl
whole_fields Two (zeros field) = refl
whole_fields Two (short_run field code) = refl
whole_fields Two (middle_run field code) = refl
whole_fields Two (long_run field code) = refl
whole_fields Four (pixel code) = refl
whole_fields Four one_zero = refl
whole_fields Four two_zeros = refl
whole_fields Four (zeros field) = refl
whole_fields Four (short_run field code) = refl
whole_fields Four (middle_run field code) = refl
whole_fields Four (long_run field code) = refl
whole_fields Eight (pixel code) = refl
whole_fields Eight one_zero = refl
whole_fields Eight two_zeros = refl
whole_fields Eight (zeros field) = refl
whole_fields Eight (short_run field code) = refl
whole_fields Eight (middle_run field code) = refl
whole_fields Eight (long_run field code) = refl

whole_end : (depth : Depth) → end_width depth ≡ code_bits depth * end_count depth
whole_end Two = refl
whole_end Four = refl
whole_end Eight = refl

-- a walk over the string of some codes, which begins the bytes: the codes before the place are painted, the others are
-- spelled from there on
pub record IsAt (depth : Depth) (string : List ℕ) (codes : List Code) (rest : List ℕ) (place : ℕ) (region : Depth)
    (over : ℕ → ℕ → ℕ) (width start x : ℕ) (old now : List ℕ) : Type 0 where
  pub before : List Code
  pub after : List Code
  pub split : codes ≡ before ++ after
  pub each : All (IsCode depth) after
  pub come : code_bits depth * place ≡ length (flat_map (spelled depth) before)
  pub left : drop (code_bits depth * place) (bits_of string) ≡ string_of depth after ++ rest
  pub column : x ≡ start + length (pixels_of_codes depth before)
  pub painted : LaysPixels region over width start (pixels_of_codes depth before) old now

-- at the start of a string
pub at_start : (depth : Depth) (string front behind : List ℕ) (codes : List Code) (region : Depth)
    (over : ℕ → ℕ → ℕ) (width start : ℕ) (row : List ℕ) → string ≡ front ++ behind → (s : IsString depth codes front)
    → IsAt depth string codes (s.fill ++ bits_of behind) 0 region over width start start row row
at_start depth string front behind codes region over width start row e s = record {
  before = [];
  after = codes;
  split = refl;
  each = s.each;
  come = none depth;
  left =
      ap (λ (n : ℕ). drop n (bits_of string)) (none depth) ∙ ap bits_of e ∙ bits_of-append front behind
      ∙ ap (λ (t : List ℕ). t ++ bits_of behind) s.text ∙ append_assoc (string_of depth codes) s.fill (bits_of behind);
  column = omega arith;
  painted = LaysPixels-none region over width start row;
} where
  none : (depth : Depth) → code_bits depth * 0 ≡ 0
  none Two = refl
  none Four = refl
  none Eight = refl

same_found : (s t : Token) (a b : ℕ) → ◌≡◌ {A = Option (Token × ℕ)} (Some (s, a)) (Some (t, b)) → (s ≡ t) × (a ≡ b)
same_found s t a b e =
    let f : ◌≡◌ {A = Token × ℕ} (s, a) (t, b) = cc in
    (ap (λ (p : Token × ℕ). p.0) f, ap (λ (p : Token × ℕ). p.1) f)

-- what the walk finds: an end where no code is left, else the next code
pub record IsEnd (depth : Depth) (place next : ℕ) (before codes : List Code) : Type 0 where
  pub all : codes ≡ before
  pub on : next ≡ place + end_count depth

found_end : (depth : Depth) (string rest : List ℕ) (place next : ℕ) (before after codes : List Code)
    → codes ≡ before ++ after → All (IsCode depth) after
    → drop (code_bits depth * place) (bits_of string) ≡ string_of depth after ++ rest
    → token_at depth string place ≡ Some (End, next) → IsEnd depth place next before codes
found_end depth string rest place next before [] codes split each left read =
    let stands = end_stands depth string rest place left in
    record {
      all = split ∙ append-nil before;
      on = (same_found End End next (place + end_count depth) (sym read ∙ stands)).1;
    }
found_end depth string rest place next before (code ∷ after) codes split each left read =
    let stands =
    code_stands depth code (All-head (IsCode depth) code after each) string _ place
    (left ∙ string_of-cons depth code after rest) in
    absurd (not_end _ _
    (same_found (Pixels (pixel_count depth code) (colour_of code)) End (place + field_count depth code) next
    (sym stands ∙ read)).0)

-- somewhere in a string something is read
found_some : (depth : Depth) (string rest : List ℕ) (place : ℕ) (after : List Code) → All (IsCode depth) after
    → drop (code_bits depth * place) (bits_of string) ≡ string_of depth after ++ rest
    → token_at depth string place ≡ None → ⊥
found_some depth string rest place [] each left read =
    nothing _ (sym read ∙ end_stands depth string rest place left)
found_some depth string rest place (code ∷ after) each left read =
    nothing _
    (sym read ∙ code_stands depth code (All-head (IsCode depth) code after each) string _ place
    (left ∙ string_of-cons depth code after rest))

pub record IsNext (depth : Depth) (string rest : List ℕ) (place next count read : ℕ) (after : List Code) : Type 0 where
  pub code : Code
  pub more : List Code
  pub is : after ≡ code ∷ more
  pub each : All (IsCode depth) more
  pub pixels : pixels_of depth code ≡ replicate count read
  pub on : code_bits depth * next ≡ code_bits depth * place + length (spelled depth code)
  pub left : drop (code_bits depth * next) (bits_of string) ≡ string_of depth more ++ rest

times-add : (depth : Depth) (a b : ℕ) → code_bits depth * (a + b) ≡ code_bits depth * a + code_bits depth * b
times-add Two a b = omega arith
times-add Four a b = omega arith
times-add Eight a b = omega arith

found_next : (depth : Depth) (string rest : List ℕ) (place next count read : ℕ) (after : List Code)
    → All (IsCode depth) after
    → drop (code_bits depth * place) (bits_of string) ≡ string_of depth after ++ rest
    → token_at depth string place ≡ Some (Pixels count read, next)
    → IsNext depth string rest place next count read after
found_next depth string rest place next count read [] each left found =
    absurd (not_end _ _
    (same_found (Pixels count read) End next (place + end_count depth)
    (sym found ∙ end_stands depth string rest place left)).0)
found_next depth string rest place next count read (code ∷ more) each left found =
    let at = left ∙ string_of-cons depth code more rest in
    let stands = code_stands depth code (All-head (IsCode depth) code more each) string _ place at in
    let same =
    same_found (Pixels count read) (Pixels (pixel_count depth code) (colour_of code)) next
    (place + field_count depth code) (sym found ∙ stands) in
    let alike : Pixels count read ≡ Pixels (pixel_count depth code) (colour_of code) = same.0 in
    let number : count ≡ pixel_count depth code = cc in
    let colour : read ≡ colour_of code = cc in
    let on : code_bits depth * next ≡ code_bits depth * place + length (spelled depth code) =
    ap (λ (n : ℕ). code_bits depth * n) same.1 ∙ times-add depth place (field_count depth code)
    ∙ ap (λ (n : ℕ). code_bits depth * place + n) (sym (length-spelled depth code ∙ whole_fields depth code)) in
    record {
      code = code;
      more = more;
      is = refl;
      each = All-tail (IsCode depth) code more each;
      pixels = sym (ap (λ (n : ℕ). replicate n read) number ∙ ap (replicate (pixel_count depth code)) colour);
      on = on;
      left =
          ap (λ (n : ℕ). drop n (bits_of string)) on
          ∙ drop-next (bits_of string) (spelled depth code) _ (code_bits depth * place) (length (spelled depth code)) at
          refl;
    }

-- a list of codes with one more at its end
spelled-push : (depth : Depth) (codes : List Code) (code : Code)
    → flat_map (spelled depth) (codes ++ code ∷ []) ≡ flat_map (spelled depth) codes ++ spelled depth code
spelled-push depth codes code =
    flat_map-append (spelled depth) codes (code ∷ [])
    ∙ ap (λ (t : List ℕ). flat_map (spelled depth) codes ++ t) (append-nil (spelled depth code))

pixels-push : (depth : Depth) (codes : List Code) (code : Code)
    → pixels_of_codes depth (codes ++ code ∷ []) ≡ pixels_of_codes depth codes ++ pixels_of depth code
pixels-push depth codes code =
    flat_map-append (pixels_of depth) codes (code ∷ [])
    ∙ ap (λ (t : List ℕ). pixels_of_codes depth codes ++ t) (append-nil (pixels_of depth code))

-- a code is read, and its pixels are painted
pub at_next : (depth : Depth) (string : List ℕ) (codes : List Code) (rest : List ℕ) (place next count read : ℕ)
    (region : Depth) (over : ℕ → ℕ → ℕ) (width start x : ℕ) (old now new : List ℕ)
    → IsAt depth string codes rest place region over width start x old now
    → token_at depth string place ≡ Some (Pixels count read, next)
    → LaysPixels region over width x (replicate count read) now new
    → IsAt depth string codes rest next region over width start (x + count) old new
at_next depth string codes rest place next count read region over width start x old now new a found p =
    let n = found_next depth string rest place next count read a.after a.each a.left found in
    let pixels : pixels_of_codes depth (a.before ++ n.code ∷ []) ≡ pixels_of_codes depth a.before
    ++ replicate count read =
    pixels-push depth a.before n.code ∙ ap (λ (t : List ℕ). pixels_of_codes depth a.before ++ t) n.pixels in
    record {
      before = a.before ++ n.code ∷ [];
      after = n.more;
      split =
          a.split ∙ ap (λ (t : List Code). a.before ++ t) n.is ∙ sym (append_assoc a.before (n.code ∷ []) n.more);
      each = n.each;
      come =
          n.on ∙ ap (λ (k : ℕ). k + length (spelled depth n.code)) a.come
          ∙ sym (ap length (spelled-push depth a.before n.code)
          ∙ length-append (flat_map (spelled depth) a.before) (spelled depth n.code));
      left = n.left;
      column =
          omega (
            arith,
            a.column,
            ap length pixels,
            length-append (pixels_of_codes depth a.before) (replicate count read),
            length-replicate count read,
          );
      painted =
          subst (λ (t : List ℕ). LaysPixels region over width start t old new) (sym pixels)
          (LaysPixels-append region over width start x (pixels_of_codes depth a.before) (replicate count read) old now
          new
          a.column a.painted p);
    }

-- the end is read: all is painted, and the string has so many bytes
pub record IsDone (depth : Depth) (codes : List Code) (front : List ℕ) (next : ℕ) (region : Depth)
    (over : ℕ → ℕ → ℕ) (width start x : ℕ) (old now : List ℕ) : Type 0 where
  pub painted : LaysPixels region over width start (pixels_of_codes depth codes) old now
  pub size : (next + (codes_in_byte depth - 1)) / codes_in_byte depth ≡ length front
  pub column : x ≡ start + length (pixels_of_codes depth codes)

started : (depth : Depth) (place next bits_before front fill : ℕ) → next ≡ place + end_count depth
    → code_bits depth * place ≡ bits_before
    → 8 * front ≡ bits_before + code_bits depth * end_count depth + fill → fill < 8
    → (next + (codes_in_byte depth - 1)) / codes_in_byte depth ≡ front
started Two place next bits_before front fill a b d e = omega arith
started Four place next bits_before front fill a b d e = omega arith
started Eight place next bits_before front fill a b d e = omega arith

pub at_end : (depth : Depth) (string front behind : List ℕ) (codes : List Code) (place next : ℕ)
    (region : Depth) (over : ℕ → ℕ → ℕ) (width start x : ℕ) (old now : List ℕ) (s : IsString depth codes front)
    → IsAt depth string codes (s.fill ++ bits_of behind) place region over width start x old now
    → token_at depth string place ≡ Some (End, next)
    → IsDone depth codes front next region over width start x old now
at_end depth string front behind codes place next region over width start x old now s a found =
    let n = found_end depth string (s.fill ++ bits_of behind) place next a.before a.after codes a.split a.each a.left
    found in
    let long : 8 * length front ≡ length (flat_map (spelled depth) codes) + code_bits depth * end_count depth
    + length s.fill =
    sym (length-bits_of front) ∙ ap length s.text ∙ length-append (string_of depth codes) s.fill
    ∙ ap (λ (k : ℕ). k + length s.fill) (length-append (flat_map (spelled depth) codes) (ending depth)
    ∙ ap (λ (k : ℕ). length (flat_map (spelled depth) codes) + k) (length-ending depth ∙ whole_end depth)) in
    record {
      painted =
          subst (λ (t : List Code). LaysPixels region over width start (pixels_of_codes depth t) old now) (sym n.all)
          a.painted;
      size =
          started depth place next (length (flat_map (spelled depth) codes)) (length front) (length s.fill) n.on
          (a.come ∙ ap (λ (t : List Code). length (flat_map (spelled depth) t)) (sym n.all)) long s.short;
      column = a.column ∙ ap (λ (t : List Code). start + length (pixels_of_codes depth t)) (sym n.all);
    }

-- in a string the walk does not stop before its end
pub at_none : (depth : Depth) (string : List ℕ) (codes : List Code) (rest : List ℕ) (place : ℕ) (region : Depth)
    (over : ℕ → ℕ → ℕ) (width start x : ℕ) (old now : List ℕ)
    → IsAt depth string codes rest place region over width start x old now → token_at depth string place ≡ None → ⊥
at_none depth string codes rest place region over width start x old now a none =
    found_some depth string rest place a.after a.each a.left none
