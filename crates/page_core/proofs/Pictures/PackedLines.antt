-- A packed row of a region's codes is the bits of these codes, one after another, and then zeros.
use Rattle.std.proofs.Common.{◌≡◌, ◌∙◌, refl, sym, ap, ℕ, zero, suc, ◌+◌, ◌-◌, ◌*◌, ◌/◌, ◌%◌, ◌^◌, ◌<◌, ◌≤◌, List, [], ◌∷◌, ◌++◌, length, map, take, drop, get_or, arith, append_assoc, length-append, length-drop}
use Rattle.std.specs.Prelude.{replicate}
use Rattle.std.specs.List.{flat_map, range_with_len}
use Rattle.std.proofs.lemmas.List.{ext_get_or, get_or-replicate, get_or-take, get_or-drop, length-replicate, length-take-le, take-append-drop}
use Rattle.std.proofs.lemmas.List.FromFn.{length-map-range_with_len, get_or-map-range_with_len}
use Rattle.std.proofs.lemmas.List.{replicate-append-replicate}
use Rattle.sub_base.specs.Depth as depths
use Rattle.sub_base.specs.declared.depth.Depth.{Depth}
use Rattle.sub_base.specs.declared.depth.Depth.TheVariants.{Two, Four, Eight}
use Rattle.stream_syntax.specs.PixelCodes.{bits, bits_of}
use Rattle.decoder_model.specs.PackedRows.{ArePacked}
use Rattle.pixel_codes.proofs.Bits.{bits-add, bits-mod}
use Rattle.segments.proofs.Bits.{bits_of-cons}
use Rattle.pixel_store.specs.Codes.{codes_in_byte, code_in, packed_code}
use Rattle.sub_base.specs.Depth.{packed_length}

-- the codes of a byte, and of bytes
abbrev codes_of_byte : Depth → ℕ → List ℕ
codes_of_byte Two byte = code_in Two 0 byte ∷ code_in Two 1 byte ∷ code_in Two 2 byte ∷ code_in Two 3 byte ∷ []
codes_of_byte Four byte = code_in Four 0 byte ∷ code_in Four 1 byte ∷ []
codes_of_byte Eight byte = code_in Eight 0 byte ∷ []

abbrev codes_of : Depth → List ℕ → List ℕ
codes_of depth bytes = flat_map (codes_of_byte depth) bytes

-- ---- their bits

-- the first bits of a number, and the others
first_bits : (width rest number : ℕ)
    → bits (width + rest) number ≡ bits width (number / 2 ^ rest % 2 ^ width) ++ bits rest number
first_bits width rest number =
    bits-add width rest number ∙ ap (λ front. front ++ bits rest number) (sym (bits-mod width (number / 2 ^ rest)))

no_bits : (number : ℕ) → bits 0 number ≡ []
unfolding bits
no_bits number = refl

bits_of_byte : (depth : Depth) (byte : ℕ)
    → bits 8 byte ≡ flat_map (bits (depths.bits_of depth)) (codes_of_byte depth byte)
bits_of_byte Two byte =
    first_bits 2 6 byte
    ∙ ap (λ rest. bits 2 (code_in Two 0 byte) ++ rest)
    (first_bits 2 4 byte ∙ ap (λ rest. bits 2 (code_in Two 1 byte) ++ rest)
    (first_bits 2 2 byte
    ∙ ap (λ rest. bits 2 (code_in Two 2 byte) ++ rest)
    (first_bits 2 0 byte ∙ ap (λ rest. bits 2 (code_in Two 3 byte) ++ rest) (no_bits byte))))
bits_of_byte Four byte =
    first_bits 4 4 byte
    ∙ ap (λ rest. bits 4 (code_in Four 0 byte) ++ rest)
    (first_bits 4 0 byte ∙ ap (λ rest. bits 4 (code_in Four 1 byte) ++ rest) (no_bits byte))
bits_of_byte Eight byte = first_bits 8 0 byte ∙ ap (λ rest. bits 8 (code_in Eight 0 byte) ++ rest) (no_bits byte)

flat_map-append : {X Y : Type 0} (f : X → List Y) (xs ys : List X)
    → flat_map f (xs ++ ys) ≡ flat_map f xs ++ flat_map f ys
flat_map-append f [] ys = refl
flat_map-append f (x ∷ xs) ys =
    ap (λ rest. f x ++ rest) (flat_map-append f xs ys) ∙ sym (append_assoc (f x) (flat_map f xs) (flat_map f ys))

no_bytes : bits_of [] ≡ []
unfolding bits_of
no_bytes = refl

bits_of_codes : (depth : Depth) (bytes : List ℕ)
    → bits_of bytes ≡ flat_map (bits (depths.bits_of depth)) (codes_of depth bytes)
bits_of_codes depth [] = no_bytes
bits_of_codes depth (byte ∷ bytes) =
    bits_of-cons byte bytes
    ∙ ap (λ front. front ++ bits_of bytes) (bits_of_byte depth byte)
    ∙ ap (λ rest. flat_map (bits (depths.bits_of depth)) (codes_of_byte depth byte) ++ rest)
    (bits_of_codes depth bytes)
    ∙ sym (flat_map-append (bits (depths.bits_of depth)) (codes_of_byte depth byte) (codes_of depth bytes))

-- ---- the codes one by one

length-codes_of_byte : (depth : Depth) (byte : ℕ) → length (codes_of_byte depth byte) ≡ codes_in_byte depth
length-codes_of_byte Two byte = refl
length-codes_of_byte Four byte = refl
length-codes_of_byte Eight byte = refl

length-codes_of : (depth : Depth) (bytes : List ℕ)
    → length (codes_of depth bytes) ≡ length bytes * codes_in_byte depth
length-codes_of depth [] = omega arith
length-codes_of depth (byte ∷ bytes) =
    length-append (codes_of_byte depth byte) (codes_of depth bytes)
    ∙ ap (λ n. n + length (codes_of depth bytes)) (length-codes_of_byte depth byte)
    ∙ ap (λ n. codes_in_byte depth + n) (length-codes_of depth bytes) ∙ more (codes_in_byte depth) (length bytes)
  where
    more : (n m : ℕ) → n + m * n ≡ suc m * n
    more n m = grind arith

-- a code of the bytes behind the first one
behind : (depth : Depth) (byte : ℕ) (bytes : List ℕ) (x later : ℕ)
    → later % codes_in_byte depth ≡ x % codes_in_byte depth
    → later / codes_in_byte depth ≡ suc (x / codes_in_byte depth)
    → packed_code depth bytes x ≡ packed_code depth (byte ∷ bytes) later
behind depth byte bytes x later same next =
    ap (λ j. code_in depth j (get_or bytes (x / codes_in_byte depth) 0)) (sym same)
    ∙ ap (λ i. code_in depth (later % codes_in_byte depth) (get_or (byte ∷ bytes) i 0)) (sym next)

there : (depth : Depth) (bytes : List ℕ) (x : ℕ) → x < length bytes * codes_in_byte depth
    → get_or (codes_of depth bytes) x 0 ≡ packed_code depth bytes x
there depth [] x inside = absurd (omega arith)
there Two (byte ∷ bytes) zero inside = refl
there Two (byte ∷ bytes) (suc zero) inside = refl
there Two (byte ∷ bytes) (suc (suc zero)) inside = refl
there Two (byte ∷ bytes) (suc (suc (suc zero))) inside = refl
there Two (byte ∷ bytes) (suc (suc (suc (suc x)))) inside =
    there Two bytes x (omega arith) ∙ behind Two byte bytes x (suc (suc (suc (suc x)))) (omega arith) (omega arith)
there Four (byte ∷ bytes) zero inside = refl
there Four (byte ∷ bytes) (suc zero) inside = refl
there Four (byte ∷ bytes) (suc (suc x)) inside =
    there Four bytes x (omega arith) ∙ behind Four byte bytes x (suc (suc x)) (omega arith) (omega arith)
there Eight (byte ∷ bytes) zero inside = refl
there Eight (byte ∷ bytes) (suc x) inside =
    there Eight bytes x (omega arith) ∙ behind Eight byte bytes x (suc x) (omega arith) (omega arith)

-- ---- a row

bits_of_zero : (depth : Depth) → bits (depths.bits_of depth) 0 ≡ replicate (depths.bits_of depth) 0
unfolding bits
bits_of_zero Two = refl
bits_of_zero Four = refl
bits_of_zero Eight = refl

zeros_of : (depth : Depth) (count : ℕ)
    → flat_map (bits (depths.bits_of depth)) (replicate count 0) ≡ replicate (count * depths.bits_of depth) 0
zeros_of depth zero = ap (λ n. replicate n 0) (none (depths.bits_of depth))
  where
    none : (n : ℕ) → 0 ≡ 0 * n
    none n = grind arith
zeros_of depth (suc count) =
    ap (λ front. front ++ flat_map (bits (depths.bits_of depth)) (replicate count 0)) (bits_of_zero depth)
    ∙ ap (λ rest. replicate (depths.bits_of depth) 0 ++ rest) (zeros_of depth count)
    ∙ replicate-append-replicate (depths.bits_of depth) (count * depths.bits_of depth) 0
    ∙ ap (λ n. replicate n 0) (more (depths.bits_of depth) count)
  where
    more : (n m : ℕ) → n + m * n ≡ suc m * n
    more n m = grind arith

few_left : (depth : Depth) (n width : ℕ) → n ≡ packed_length depth width
    → n * 8 - width * depths.bits_of depth < 8
few_left Two n width size = omega arith
few_left Four n width size = omega arith
few_left Eight n width size = omega arith

room : (depth : Depth) (n width : ℕ) → n ≡ packed_length depth width → width ≤ n * codes_in_byte depth
room Two n width size = omega arith
room Four n width size = omega arith
room Eight n width size = omega arith

left_in_bits : (depth : Depth) (n width : ℕ) → width ≤ n * codes_in_byte depth
    → (n * codes_in_byte depth - width) * depths.bits_of depth ≡ n * 8 - width * depths.bits_of depth
left_in_bits Two n width inside = omega arith
left_in_bits Four n width inside = omega arith
left_in_bits Eight n width inside = omega arith

-- bytes that have a row's codes, and zeros behind them, are packed
pub packed_line : (depth : Depth) (bytes : List ℕ) (width : ℕ) (code_at : ℕ → ℕ)
    → length bytes ≡ packed_length depth width
    → ((x : ℕ) → x < width → packed_code depth bytes x ≡ code_at x)
    → ((x : ℕ) → width ≤ x → x < length bytes * codes_in_byte depth → packed_code depth bytes x ≡ 0)
    → ArePacked depth (map code_at (range_with_len 0 width)) bytes
packed_line depth bytes width code_at size codes zeros = record {
  left = length bytes * 8 - width * depths.bits_of depth;
  few = few_left depth (length bytes) width size;
  spelled =
      bits_of_codes depth bytes
      ∙ ap (flat_map (bits (depths.bits_of depth))) (sym (take-append-drop width (codes_of depth bytes)))
      ∙ flat_map-append (bits (depths.bits_of depth)) (take width (codes_of depth bytes))
      (drop width (codes_of depth bytes))
      ∙ ap (λ front. flat_map (bits (depths.bits_of depth)) front
      ++ flat_map (bits (depths.bits_of depth)) (drop width (codes_of depth bytes))) front
      ∙ ap (λ back. flat_map (bits (depths.bits_of depth)) (map code_at (range_with_len 0 width)) ++ back) back;
} where
  wide : width ≤ length bytes * codes_in_byte depth
  wide = room depth (length bytes) width size

  all : length (codes_of depth bytes) ≡ length bytes * codes_in_byte depth
  all = length-codes_of depth bytes

  front : take width (codes_of depth bytes) ≡ map code_at (range_with_len 0 width)
  front =
      let long : length (take width (codes_of depth bytes)) ≡ width =
      length-take-le width (codes_of depth bytes) (omega (arith, wide, all)) in
      ext_get_or 0 (take width (codes_of depth bytes)) (map code_at (range_with_len 0 width))
      (long ∙ sym (length-map-range_with_len code_at 0 width))
      (λ x inside.
      let narrow : x < width = omega (arith, long) in
      get_or-take width (codes_of depth bytes) x 0 narrow ∙ there depth bytes x (omega (arith, wide))
      ∙ codes x narrow
      ∙ sym (get_or-map-range_with_len code_at 0 width x x 0 narrow (omega arith)))

  back_zeros : drop width (codes_of depth bytes) ≡ replicate (length bytes * codes_in_byte depth - width) 0
  back_zeros =
      let long : length (drop width (codes_of depth bytes)) ≡ length bytes * codes_in_byte depth - width =
      length-drop width (codes_of depth bytes) ∙ ap (λ n. n - width) all in
      ext_get_or 0 (drop width (codes_of depth bytes)) (replicate (length bytes * codes_in_byte depth - width) 0)
      (long ∙ sym (length-replicate (length bytes * codes_in_byte depth - width) 0))
      (λ x inside.
      let within : x < length bytes * codes_in_byte depth - width = omega (arith, long) in
      get_or-drop width (codes_of depth bytes) x 0 ∙ there depth bytes (width + x) (omega (arith, wide))
      ∙ zeros (width + x) (omega arith) (omega arith)
      ∙ sym (get_or-replicate (length bytes * codes_in_byte depth - width) x 0 0 within))

  back : flat_map (bits (depths.bits_of depth)) (drop width (codes_of depth bytes))
      ≡ replicate (length bytes * 8 - width * depths.bits_of depth) 0
  back =
      ap (flat_map (bits (depths.bits_of depth))) back_zeros
      ∙ zeros_of depth (length bytes * codes_in_byte depth - width)
      ∙ ap (λ n. replicate n 0) (left_in_bits depth (length bytes) width wide)
