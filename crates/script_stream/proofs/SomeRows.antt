-- Each row of pixels has a string.
use Rattle.std.proofs.Common.{◌≡◌, ◌∙◌, refl, sym, ap, subst, ℕ, zero, suc, ◌+◌, ◌-◌, ◌*◌, ◌/◌, ◌%◌, ◌<◌, List, [], ◌∷◌, ◌++◌, length, get_or, take, drop, All, arith}
use Rattle.std.specs.Prelude.{flat_map, replicate}
use Rattle.std.proofs.lemmas.List.{length-append, length-drop, length-replicate, length-take, take-append-drop}
use Rattle.std.proofs.lemmas.Nat.{mod_below}
use Rattle.sub_base.specs.Depth.{code_count}
use Rattle.sub_base.specs.declared.depth.Depth.{Depth}
use Rattle.sub_base.specs.declared.depth.Depth.TheVariants.{Two, Four, Eight}
use Rattle.stream_syntax.specs.Fields.{number_of}
use Rattle.stream_syntax.specs.PixelCodes.{Code, IsRowString, bits, bits_of, ending, long_run, middle_run, one_zero, pixel, short_run, spelled, string_of, two_zeros, zeros}
use Rattle.pixel_codes.specs.Private.Rows.{codes_of, runs_of}
use Rattle.code_strings.proofs.Bits.{IsBits, bits-mod, bits-number_of}
use Rattle.pixel_codes.proofs.RowStrings.{row_string}

-- ---- bits

IsBits-append : (xs ys : List ℕ) → IsBits xs → IsBits ys → IsBits (xs ++ ys)
unfolding IsBits
IsBits-append [] ys h k = k
IsBits-append (x ∷ xs) ys h k = (h.0, IsBits-append xs ys h.1 k)

IsBits-drop : (n : ℕ) (xs : List ℕ) → IsBits xs → IsBits (drop n xs)
unfolding IsBits
IsBits-drop zero xs h = h
IsBits-drop (suc n) [] h = tt
IsBits-drop (suc n) (x ∷ xs) h = IsBits-drop n xs h.1

IsBits-take : (n : ℕ) (xs : List ℕ) → IsBits xs → IsBits (take n xs)
unfolding IsBits
IsBits-take zero xs h = tt
IsBits-take (suc n) [] h = tt
IsBits-take (suc n) (x ∷ xs) h = (h.0, IsBits-take n xs h.1)

IsBits-bits : (count v : ℕ) → IsBits (bits count v)
unfolding IsBits bits
IsBits-bits zero v = tt
IsBits-bits (suc count) v =
    IsBits-append (bits count (v / 2)) (v % 2 ∷ []) (IsBits-bits count (v / 2)) (mod_below v 2 (omega arith), tt)

IsBits-zeros : (n : ℕ) → IsBits (replicate n 0)
unfolding IsBits
IsBits-zeros zero = tt
IsBits-zeros (suc n) = (omega arith, IsBits-zeros n)

IsBits-none : IsBits []
unfolding IsBits
IsBits-none = tt

-- numbers, one after another
two_fields : (a v b w : ℕ) → IsBits (bits a v ++ bits b w)
two_fields a v b w = IsBits-append (bits a v) (bits b w) (IsBits-bits a v) (IsBits-bits b w)

more_fields : (a v : ℕ) (xs : List ℕ) → IsBits xs → IsBits (bits a v ++ xs)
more_fields a v xs h = IsBits-append (bits a v) xs (IsBits-bits a v) h

spelled_bits : (depth : Depth) (code : Code) → IsBits (spelled depth code)
unfolding spelled
spelled_bits Two (pixel code) = IsBits-bits 2 code
spelled_bits Two one_zero = two_fields 2 0 2 1
spelled_bits Two two_zeros = more_fields 2 0 _ (two_fields 2 0 2 1)
spelled_bits Two (zeros field) = IsBits-none
spelled_bits Two (short_run field code) = more_fields 2 0 _ (more_fields 1 1 _ (two_fields 3 field 2 code))
spelled_bits Two (middle_run field code) =
    more_fields 2 0 _ (more_fields 2 0 _ (more_fields 2 2 _ (two_fields 4 field 2 code)))
spelled_bits Two (long_run field code) =
    more_fields 2 0 _ (more_fields 2 0 _ (more_fields 2 3 _ (two_fields 8 field 2 code)))
spelled_bits Four (pixel code) = IsBits-bits 4 code
spelled_bits Four one_zero = two_fields 4 0 4 12
spelled_bits Four two_zeros = two_fields 4 0 4 13
spelled_bits Four (zeros field) = more_fields 4 0 _ (two_fields 1 0 3 field)
spelled_bits Four (short_run field code) = more_fields 4 0 _ (more_fields 2 2 _ (two_fields 2 field 4 code))
spelled_bits Four (middle_run field code) = more_fields 4 0 _ (more_fields 4 14 _ (two_fields 4 field 4 code))
spelled_bits Four (long_run field code) = more_fields 4 0 _ (more_fields 4 15 _ (two_fields 8 field 4 code))
spelled_bits Eight (pixel code) = IsBits-bits 8 code
spelled_bits Eight one_zero = IsBits-none
spelled_bits Eight two_zeros = IsBits-none
spelled_bits Eight (zeros field) = more_fields 8 0 _ (two_fields 1 0 7 field)
spelled_bits Eight (short_run field code) = more_fields 8 0 _ (more_fields 1 1 _ (two_fields 7 field 8 code))
spelled_bits Eight (middle_run field code) = IsBits-none
spelled_bits Eight (long_run field code) = IsBits-none

ending_bits : (depth : Depth) → IsBits (ending depth)
unfolding ending
ending_bits Two = more_fields 2 0 _ (two_fields 2 0 2 0)
ending_bits Four = two_fields 4 0 4 0
ending_bits Eight = two_fields 8 0 8 0

codes_bits : (depth : Depth) (codes : List Code) → IsBits (flat_map (spelled depth) codes)
codes_bits depth [] = IsBits-none
codes_bits depth (code ∷ codes) =
    IsBits-append (spelled depth code) (flat_map (spelled depth) codes) (spelled_bits depth code)
    (codes_bits depth codes)

-- ---- whole bytes

-- bytes: at each place, and behind the last one
abbrev pub AreBytes : List ℕ → Type 0
AreBytes bytes = (i : ℕ) → get_or bytes i 0 < 256

pub bytes-cons : (byte : ℕ) (bytes : List ℕ) → byte < 256 → AreBytes bytes → AreBytes (byte ∷ bytes)
bytes-cons byte bytes here more zero = here
bytes-cons byte bytes here more (suc i) = more i

pub bytes-append : (xs ys : List ℕ) → AreBytes xs → AreBytes ys → AreBytes (xs ++ ys)
bytes-append [] ys first second = second
bytes-append (x ∷ xs) ys first second =
    bytes-cons x (xs ++ ys) (first 0) (bytes-append xs ys (λ i. first (suc i)) second)

-- bits that are whole bytes are those of bytes
packed : (n : ℕ) (xs : List ℕ) → IsBits xs → length xs ≡ 8 * n
    → (bytes : List ℕ) × (bits_of bytes ≡ xs) × AreBytes bytes
unfolding bits_of
packed zero [] h long = ([], refl, λ i. omega arith)
packed zero (x ∷ xs) h long = absurd (omega arith)
packed (suc n) xs h long =
    let front = take 8 xs in
    let eight : length front ≡ 8 = omega (arith, length-take 8 xs, long) in
    let byte = number_of front % 256 in
    let one : bits 8 byte ≡ front =
    bits-mod 8 (number_of front) ∙ ap (λ (k : ℕ). bits k (number_of front)) (sym eight)
    ∙ bits-number_of front (IsBits-take 8 xs h) in
    let rest = packed n (drop 8 xs) (IsBits-drop 8 xs h) (omega (arith, length-drop 8 xs, long)) in (
      byte ∷ rest.0,
      (λ i. one i ++ rest.1 i) ∙ take-append-drop 8 xs,
      bytes-cons byte rest.0 (mod_below (number_of front) 256 (omega arith)) rest.2,
    )

bits_of-none : bits_of [] ≡ []
unfolding bits_of
bits_of-none = refl

-- ---- the string of a row

-- bytes that spell the codes of a row are its string
string_is : (depth : Depth) (row bytes : List ℕ) (fill : ℕ) → All (λ code. code < code_count depth) row
    → AreBytes bytes → fill < 8
    → bits_of bytes ≡ string_of depth (codes_of depth (runs_of row)) ++ replicate fill 0
    → (string : List ℕ) × IsRowString depth row string × AreBytes string
string_is depth row bytes fill each own short text =
    let string =
    row_string depth row [] bytes fill each (λ i d within. small bytes i d within (own i)) (bytes, refl) short
    (text
    ∙ sym (ap
    (λ (bits : List ℕ). bits ++ (string_of depth (codes_of depth (runs_of row)) ++ replicate fill 0))
    bits_of-none)) in
    (string.0, string.2, subst AreBytes string.1 own)
  where
    small : (bytes : List ℕ) (i d : ℕ) → i < length bytes → get_or bytes i 0 < 256 → get_or bytes i d < 256
    small [] i d within low = absurd (omega (arith, within))
    small (byte ∷ bytes) zero d within low = low
    small (byte ∷ bytes) (suc i) d within low = small bytes i d (omega (arith, within)) low

-- bits, filled to whole bytes
filled : (text : List ℕ) → IsBits text
    → (fill : ℕ) × (bytes : List ℕ) × (fill < 8) × (bits_of bytes ≡ text ++ replicate fill 0) × AreBytes bytes
filled text are =
    let fill = (8 - length text % 8) % 8 in
    let zeros : List ℕ = replicate fill 0 in
    let whole : length (text ++ zeros) ≡ 8 * ((length text + 7) / 8) =
    omega (arith, length-append text zeros, length-replicate {A = ℕ} fill 0) in
    let bytes =
    packed ((length text + 7) / 8) (text ++ zeros) (IsBits-append text zeros are (IsBits-zeros fill)) whole in
    (fill, bytes.0, omega arith, bytes.1, bytes.2)

-- each row of pixels has a string
pub some_string : (depth : Depth) (row : List ℕ) → All (λ code. code < code_count depth) row
    → (string : List ℕ) × IsRowString depth row string × AreBytes string
some_string depth row each =
    let codes = codes_of depth (runs_of row) in
    let are =
    filled (string_of depth codes)
    (IsBits-append (flat_map (spelled depth) codes) (ending depth) (codes_bits depth codes) (ending_bits depth)) in
    string_is depth row are.1 are.0 each are.4 are.2 are.3
