-- Codes of eight bits, which are whole bytes.
use Rattle.std.proofs.Common.{◌≡◌, ℕ, ◌+◌, ◌-◌, ◌*◌, ◌/◌, ◌<◌, false, eqb, ltb, List, length, Some, get_or, ap, subst, ◌∙◌, arith}
use Rattle.std.proofs.lemmas.Bool.{ltb-false, ltb-true}
use Rattle.std.proofs.lemmas.Bool.Decides.{nat_tests}
use Rattle.sub_base.specs.declared.depth.Depth.TheVariants.{Eight}
use Rattle.stream_syntax.specs.PixelCodes.{bits_of}
use Rattle.code_strings.specs.declared.token.Token.TheVariants.{Pixels}
use Rattle.code_strings.specs.Reading.{field_at, eight_at}
use Rattle.code_strings.specs.Reached.{Reached}
use Rattle.code_strings.proofs.Bits.{length-bits_of, byte_field, field_there}
use Rattle.code_strings.proofs.Tokens.{cases_bool}
use Rattle.code_strings.proofs.Told.{past_code}

-- past a single pixel
pub past_pixel : (bytes : List ℕ) (i : ℕ) → i < length bytes → 0 < get_or bytes i 0 → get_or bytes i 0 < 256
    → Reached Eight (bits_of bytes) (8 * i) → Reached Eight (bits_of bytes) (8 * (i + 1))
unfolding eight_at
past_pixel bytes i inside some small r =
    let xs = bits_of bytes in
    let first = get_or bytes i 0 in
    let f = byte_field bytes i inside small in
    let t : eqb first 0 ≡ false = grind (arith, nat_tests) in
    let n : 8 * i + 8 ≡ 8 * (i + 1) = omega arith in
    let is : eight_at xs (8 * i) ≡ Some (Pixels 1 first, 8 * i + 8) = simp (f, t) in
    past_code Eight bytes (8 * i) 1 first (8 * (i + 1)) r (is ∙ ap (λ (k : ℕ). Some (Pixels 1 first, k)) n)

-- past a run, with or without a code of its own
pub past_run : (bytes : List ℕ) (i : ℕ) → i + 2 < length bytes → get_or bytes i 0 ≡ 0 → 0 < get_or bytes (i + 1) 0
    → get_or bytes (i + 1) 0 < 256 → Reached Eight (bits_of bytes) (8 * i)
    → Reached Eight (bits_of bytes) (8 * (i + (2 + get_or bytes (i + 1) 0 / 128)))
unfolding eight_at
past_run bytes i inside zero some small r =
    let xs = bits_of bytes in
    let second = get_or bytes (i + 1) 0 in
    let f1 : field_at xs (8 * i) 8 ≡ Some 0 = byte_field bytes i (omega arith) (omega arith) ∙ ap Some zero in
    let here : 8 * (i + 1) ≡ 8 * i + 8 = omega arith in
    let f2 : field_at xs (8 * i + 8) 8 ≡ Some second =
    subst (λ (k : ℕ). field_at xs k 8 ≡ Some second) here (byte_field bytes (i + 1) (omega arith) small) in
    let t : eqb second 0 ≡ false = grind (arith, nat_tests) in
    cases_bool (ltb second 128)
    (λ u.
    let low = ltb-true second 128 u in
    let n : 8 * i + 16 ≡ 8 * (i + (2 + second / 128)) = omega arith in
    let is : eight_at xs (8 * i) ≡ Some (Pixels second 0, 8 * i + 16) = simp (f1, f2, t, u) in
    past_code Eight bytes (8 * i) second 0 (8 * (i + (2 + second / 128))) r
    (is ∙ ap (λ (k : ℕ). Some (Pixels second 0, k)) n))
    (λ u.
    let high = ltb-false second 128 u in
    let n : 8 * i + 24 ≡ 8 * (i + (2 + second / 128)) = omega arith in
    field_there xs (8 * i + 16) 8 (omega (arith, length-bits_of bytes)) λ code f3.
    let is : eight_at xs (8 * i) ≡ Some (Pixels (second - 128) code, 8 * i + 24) = simp (f1, f2, t, u, f3) in
    past_code Eight bytes (8 * i) (second - 128) code (8 * (i + (2 + second / 128))) r
    (is ∙ ap (λ (k : ℕ). Some (Pixels (second - 128) code, k)) n))
