-- A field whose bits stand at its place is read.
use Rattle.std.proofs.Common.{◌≡◌, ◌∙◌, sym, ap, ℕ, suc, ◌+◌, ◌-◌, ◌*◌, ◌/◌, ◌%◌, ◌^◌, ◌<◌, ◌≤◌, true, ltb, List, ◌++◌, length, get_or, take, drop, Some, append_assoc, arith, drop-cons}
use Rattle.std.specs.Prelude.{flat_map}
use Rattle.std.proofs.lemmas.Bool.{lt-ltb}
use Rattle.std.proofs.lemmas.List.{take_at, drop_at, length-append, length-drop, drop-drop}
use Rattle.std.proofs.lemmas.Nat.{pow_pos, mod_below}
use Rattle.std.proofs.Math.Nat.{mod-eq_of_lt}
use Rattle.sub_base.specs.declared.depth.Depth.{Depth}
use Rattle.sub_base.specs.declared.depth.Depth.TheVariants.{Two, Four, Eight}
use Rattle.sub_base.specs.Depth.{bits_of as code_bits}
use Rattle.stream_syntax.specs.PixelCodes.{bits, bits_of}
use Rattle.stream_syntax.specs.Fields.{number_of}
use Rattle.string_painting.specs.Codes.{codes_in_byte, packed_code}
use Rattle.code_strings.proofs.Bits.{length-bits, length-bits_of, bits-add, bits-mod, number_of-bits, bits_of-drop_bytes, drop-next}
use Rattle.string_painting.specs.Private.Reading.{field_at}

-- two numbers with the same bits at their front are the same
same_number : (width a b : ℕ) (xs ys : List ℕ) → a < 2 ^ width → b < 2 ^ width
    → bits width a ++ xs ≡ bits width b ++ ys → a ≡ b
same_number width a b xs ys h k e =
    let f : bits width a ≡ bits width b =
    sym (take_at (bits width a) xs width (length-bits width a)) ∙ ap (take width) e
    ∙ take_at (bits width b) ys width (length-bits width b) in
    sym (mod-eq_of_lt h) ∙ sym (number_of-bits width a) ∙ ap number_of f ∙ number_of-bits width b ∙ mod-eq_of_lt k

-- the bits of a byte, about some of them
in_byte : (byte above width below : ℕ) → above + (width + below) ≡ 8
    → bits 8 byte ≡ bits above (byte / 2 ^ (width + below)) ++ (bits width (byte / 2 ^ below % 2 ^ width)
    ++ bits below byte)
in_byte byte above width below e =
    ap (λ (n : ℕ). bits n byte) (sym e) ∙ bits-add above (width + below) byte
    ∙ ap (λ (t : List ℕ). bits above (byte / 2 ^ (width + below)) ++ t)
    (bits-add width below byte ∙ ap (λ (t : List ℕ). t ++ bits below byte) (sym (bits-mod width (byte / 2 ^ below))))

-- the bits of a field on, by its byte and the bits above and below it there
from_field : (bytes : List ℕ) (i above width below place : ℕ) → i < length bytes → above + (width + below) ≡ 8
    → 8 * i + above ≡ place
    → drop place (bits_of bytes) ≡ bits width (get_or bytes i 0 / 2 ^ below % 2 ^ width)
    ++ (bits below (get_or bytes i 0) ++ bits_of (drop (suc i) bytes))
unfolding bits_of
from_field bytes i above width below place h e at =
    let byte = get_or bytes i 0 in
    let more = bits_of (drop (suc i) bytes) in
    let here = bits width (get_or bytes i 0 / 2 ^ below % 2 ^ width) in
    ap (λ (n : ℕ). drop n (bits_of bytes)) (sym at)
    ∙ sym (drop-drop above (8 * i) (bits_of bytes))
    ∙ ap (drop above) (bits_of-drop_bytes bytes i ∙ ap (flat_map (bits 8)) (drop-cons bytes i 0 h)
    ∙ ap (λ (t : List ℕ). t ++ more) (in_byte byte above width below e)
    ∙ append_assoc (bits above (byte / 2 ^ (width + below))) (here ++ bits below byte) more)
    ∙ drop_at (bits above (byte / 2 ^ (width + below))) ((here ++ bits below byte) ++ more) above (length-bits above _)
    ∙ append_assoc here (bits below byte) more

-- the place of a field in bits
spot : (depth : Depth) (place : ℕ)
    → (code_bits depth * (place % codes_in_byte depth)
    + (code_bits depth + (8 - code_bits depth * (place % codes_in_byte depth + 1))) ≡ 8)
    × (8 * (place / codes_in_byte depth) + code_bits depth * (place % codes_in_byte depth) ≡ code_bits depth * place)
spot Two place = (omega arith, omega arith)
spot Four place = (omega arith, omega arith)
spot Eight place = (omega arith, omega arith)

byte_inside : (depth : Depth) (place count : ℕ) → code_bits depth * place + code_bits depth ≤ 8 * count
    → place / codes_in_byte depth < count
byte_inside Two place count h = omega arith
byte_inside Four place count h = omega arith
byte_inside Eight place count h = omega arith

room : (depth : Depth) (place bits_all rest : ℕ) → bits_all - code_bits depth * place ≡ code_bits depth + rest
    → code_bits depth * place + code_bits depth ≤ bits_all
room Two place bits_all rest e = omega arith
room Four place bits_all rest e = omega arith
room Eight place bits_all rest e = omega arith

-- a field whose bits stand at its place is read
pub field_stands : (depth : Depth) (bytes rest : List ℕ) (place value : ℕ) → value < 2 ^ code_bits depth
    → drop (code_bits depth * place) (bits_of bytes) ≡ bits (code_bits depth) value ++ rest
    → field_at depth bytes place ≡ Some value
unfolding field_at
field_stands depth bytes rest place value fits e =
    let width = code_bits depth in
    let j = place % codes_in_byte depth in
    let i = place / codes_in_byte depth in
    let long : length (bits_of bytes) - code_bits depth * place ≡ code_bits depth + length rest =
    sym (length-drop (code_bits depth * place) (bits_of bytes)) ∙ ap length e
    ∙ length-append (bits (code_bits depth) value) rest
    ∙ ap (λ (n : ℕ). n + length rest) (length-bits (code_bits depth) value) in
    let enough : code_bits depth * place + code_bits depth ≤ 8 * length bytes =
    rw (← length-bits_of bytes) (room depth place (length (bits_of bytes)) (length rest) long) in
    let inside : place / codes_in_byte depth < length bytes = byte_inside depth place (length bytes) enough in
    let s = spot depth place in
    let here =
    from_field bytes i (code_bits depth * j) (code_bits depth) (8 - code_bits depth * (j + 1))
    (code_bits depth * place) inside s.0 s.1 in
    let same : packed_code depth bytes place ≡ value =
    same_number (code_bits depth) (packed_code depth bytes place) value _ rest
    (mod_below _ _ (pow_pos (code_bits depth))) fits (sym here ∙ e) in
    let t : ltb (place / codes_in_byte depth) (length bytes) ≡ true = lt-ltb _ _ inside in
    rw t (ap Some same)

next_place : (depth : Depth) (place next : ℕ) → place + 1 ≡ next
    → code_bits depth * place + code_bits depth ≡ code_bits depth * next
next_place Two place next e = omega arith
next_place Four place next e = omega arith
next_place Eight place next e = omega arith

-- one field on
pub with_field : {R : Type 0} (depth : Depth) (bytes rest : List ℕ) (place value next : ℕ)
    → drop (code_bits depth * place) (bits_of bytes) ≡ bits (code_bits depth) value ++ rest
    → value < 2 ^ code_bits depth → place + 1 ≡ next
    → (field_at depth bytes place ≡ Some value → drop (code_bits depth * next) (bits_of bytes) ≡ rest → R) → R
with_field depth bytes rest place value next e fits n k =
    k (field_stands depth bytes rest place value fits e)
    (ap (λ (i : ℕ). drop i (bits_of bytes)) (sym (next_place depth place next n))
    ∙ drop-next (bits_of bytes) (bits (code_bits depth) value) rest (code_bits depth * place) (code_bits depth) e
    (length-bits (code_bits depth) value))
