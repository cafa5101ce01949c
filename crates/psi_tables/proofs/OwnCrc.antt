-- The CRC of bytes with their own CRC behind them is 0.
use Rattle.std.proofs.Common.{◌≡◌, ℕ, zero, suc, ◌+◌, ◌-◌, ◌*◌, ◌/◌, ◌%◌, ◌^◌, ◌<◌, Bool, true, false, List, [], ◌∷◌, ◌++◌, bit_xor, refl, sym, ap, subst, ◌∙◌, arith}
use Rattle.std.specs.Prelude.{◌==◌, if◌then◌else◌}
use Rattle.std.proofs.Math.Nat.{add-mul, div-lt_iff_lt-mul, mul_assoc, mul-lt-mul_of_pos_right}
use Rattle.std.proofs.Math.Numerals.{one-add}
use Rattle.std.proofs.lemmas.Bool.Decides.{nat_tests}
use Rattle.std.proofs.lemmas.List.{append-nil}
use Rattle.std.proofs.lemmas.Nat.{div-add-mod', mod_below, mod_low, pow_pos, shr_high, xor_lt}
use Rattle.byteorder.specs.Endian.{big_bytes}
use Rattle.pixel_codes.proofs.Bits.{bits-add, bits-join, bits-mod, bits_of-append}
use Rattle.segments.proofs.Bits.{bits_of-cons}
use Rattle.stream_syntax.specs.PixelCodes.{bits, bits_of}
use Rattle.psi_tables.specs.Crc.{crc_behind, crc_of, crc_step, polynomial}
use Rattle.psi_tables.proofs.CrcLaws.{crc_behind-append}

-- one bit that is shifted out as it comes
same_bit : (high low : ℕ) → high < 2 → low < 2 ^ 31 → crc_step (high * 2 ^ 31 + low) high ≡ low * 2
same_bit high low bit small =
    let top : (high * 2 ^ 31 + low) / 2 ^ 31 ≡ high = shr_high high 31 low small in
    let same : (high == high) ≡ true = grind (arith, nat_tests) in
    let twice : (high * 2 ^ 31 + low) * 2 ≡ high * 2 ^ 32 + low * 2 = omega arith in
    let rest : (high * 2 ^ 31 + low) * 2 % 2 ^ 32 ≡ low * 2 =
    ap (λ n. n % 2 ^ 32) twice ∙ mod_low high 32 (low * 2) (omega arith) in
    rw (top, same) rest

one_bit : (n : ℕ) → n < 2 → bits 1 n ≡ n ∷ []
unfolding bits
one_bit n small = let e : n % 2 ≡ n = omega arith in rw e refl

-- the highest bit, and the others
bits-first : (count high low : ℕ) → high < 2 → low < 2 ^ count
    → bits (suc count) (high * 2 ^ count + low) ≡ high ∷ bits count low
bits-first count high low bit small =
    ap (λ k. bits k (high * 2 ^ count + low)) (sym (one-add count)) ∙ bits-join 1 count high low small
    ∙ ap (λ xs. xs ++ bits count low) (one_bit high bit)

-- bits that fill the register from its top on, and zeros below, are gone once they come again
fed : (count p v : ℕ) → 2 ^ count * p ≡ 2 ^ 32 → v < 2 ^ count → crc_behind (v * p) (bits count v) ≡ 0
unfolding bits crc_behind
fed zero p v whole small = let none : v ≡ 0 = omega (arith, small) in rw none (omega arith)
fed (suc count) p v whole small =
    let q : ℕ = 2 ^ count in
    let high : ℕ = v / q in
    let low : ℕ = v % q in
    let is : high * q + low ≡ v = div-add-mod' v q in
    let twice : 2 ^ suc count ≡ 2 * q = omega arith in
    let half : q * p ≡ 2 ^ 31 = halved q p (ap (λ n. n * p) (sym twice) ∙ whole) in
    let less : low < q = mod_below v q (pow_pos count) in
    let bit : high < 2 =
    (div-lt_iff_lt-mul {k = q} {x = v} {y = 2} (pow_pos count)).1 (subst (λ n. v < n) twice small) in
    let start : v * p ≡ high * 2 ^ 31 + low * p =
    ap (λ n. n * p) (sym is) ∙ shared high q low p ∙ ap (λ n. high * n + low * p) half in
    let room : low * p < 2 ^ 31 = below q p low half less in
    let order : bits (suc count) v ≡ high ∷ bits count low =
    ap (bits (suc count)) (sym is) ∙ bits-first count high low bit less in
    ap (λ xs. crc_behind (v * p) xs) order
    ∙ ap (λ r. crc_behind r (bits count low))
    (ap (λ r. crc_step r high) start ∙ same_bit high (low * p) bit room ∙ mul_assoc low p 2)
    ∙ fed count (p * 2) low (sym (mul_assoc q p 2) ∙ omega (arith, half)) less
  where
    halved : (q p : ℕ) → 2 * q * p ≡ 2 ^ 32 → q * p ≡ 2 ^ 31
    halved q p e = omega (arith, e, mul_assoc 2 q p)

    shared : (high q low p : ℕ) → (high * q + low) * p ≡ high * (q * p) + low * p
    shared high q low p = add-mul (high * q) low p ∙ ap (λ n. n + low * p) (mul_assoc high q p)

    below : (q p low : ℕ) → q * p ≡ 2 ^ 31 → low < q → low * p < 2 ^ 31
    below q zero low half less = absurd (omega (arith, half))
    below q (suc p) low half less =
        omega (arith, half, mul-lt-mul_of_pos_right {m = low} {n = q} {k = suc p} less (omega arith))

-- the register is all zeros behind its own bits
crc_out : (register : ℕ) → register < 2 ^ 32 → crc_behind register (bits 32 register) ≡ 0
crc_out register small =
    let one : register * 1
    ≡ register = omega arith in subst (λ r. crc_behind r (bits 32 register) ≡ 0) one (fed 32 1 register refl small)

crc_step-below : (register bit : ℕ) → crc_step register bit < 2 ^ 32
crc_step-below register bit = by_test (register / 2 ^ 31 == bit)
  where
    shifted : register * 2 % 2 ^ 32 < 2 ^ 32
    shifted = mod_below (register * 2) (2 ^ 32) (omega arith)

    by_test : (same : Bool)
        → (if same then register * 2 % 2 ^ 32 else bit_xor (register * 2 % 2 ^ 32) polynomial) < 2 ^ 32
    by_test true = shifted
    by_test false = xor_lt 32 (register * 2 % 2 ^ 32) polynomial shifted (omega arith)

crc_behind-below : (register : ℕ) (xs : List ℕ) → register < 2 ^ 32 → crc_behind register xs < 2 ^ 32
unfolding crc_behind
crc_behind-below register [] small = small
crc_behind-below register (x ∷ xs) small = crc_behind-below (crc_step register x) xs (crc_step-below register x)

pub crc_below : (bytes : List ℕ) → crc_of bytes < 2 ^ 32
crc_below bytes = crc_behind-below (2 ^ 32 - 1) (bits_of bytes) (omega arith)

no_more : (xs : List ℕ) → xs ++ bits_of [] ≡ xs
unfolding bits_of
no_more xs = append-nil xs

four : (a b d e : ℕ) → bits_of (a ∷ b ∷ d ∷ e ∷ []) ≡ bits 8 a ++ (bits 8 b ++ (bits 8 d ++ bits 8 e))
four a b d e =
    bits_of-cons a (b ∷ d ∷ e ∷ []) ∙ ap (λ xs. bits 8 a ++ xs) (bits_of-cons b (d ∷ e ∷ []))
    ∙ ap (λ xs. bits 8 a ++ (bits 8 b ++ xs)) (bits_of-cons d (e ∷ []))
    ∙ ap (λ xs. bits 8 a ++ (bits 8 b ++ (bits 8 d ++ xs))) (bits_of-cons e [] ∙ no_more (bits 8 e))

-- four bytes are the bits of their number
four_bytes : (n : ℕ) → bits_of (big_bytes 4 n) ≡ bits 32 n
four_bytes n =
    let a : bits 32 n ≡ bits 8 (n / 2 ^ 24) ++ bits 24 n = bits-add 8 24 n in
    let b : bits 24 n ≡ bits 8 (n / 2 ^ 16) ++ bits 16 n = bits-add 8 16 n in
    let d : bits 16 n ≡ bits 8 (n / 2 ^ 8) ++ bits 8 n = bits-add 8 8 n in
    let e : bits_of (big_bytes 4 n) ≡ bits 8 (n / 2 ^ 24 % 2 ^ 8)
    ++ (bits 8 (n / 2 ^ 16 % 2 ^ 8) ++ (bits 8 (n / 2 ^ 8 % 2 ^ 8) ++ bits 8 (n % 2 ^ 8))) = four
    (n / 2 ^ 24 % 2 ^ 8) (n / 2 ^ 16 % 2 ^ 8) (n / 2 ^ 8 % 2 ^ 8) (n % 2 ^ 8) in
    e ∙ rw (bits-mod 8 (n / 2 ^ 24), bits-mod 8 (n / 2 ^ 16), bits-mod 8 (n / 2 ^ 8), bits-mod 8 n)
    (rw (a, b, d) refl)

pub written_crc : (bytes : List ℕ) → crc_of (bytes ++ big_bytes 4 (crc_of bytes)) ≡ 0
written_crc bytes =
    ap (crc_behind (2 ^ 32 - 1)) (bits_of-append bytes (big_bytes 4 (crc_of bytes)))
    ∙ crc_behind-append (2 ^ 32 - 1) (bits_of bytes) (bits_of (big_bytes 4 (crc_of bytes)))
    ∙ ap (crc_behind (crc_of bytes)) (four_bytes (crc_of bytes)) ∙ crc_out (crc_of bytes) (crc_below bytes)
