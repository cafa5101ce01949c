-- The CRC byte by byte.
use Rattle.std.proofs.Common.{◌≡◌, ℕ, suc, ◌+◌, ◌/◌, ◌%◌, ◌^◌, ◌<◌, List, [], ◌∷◌, ◌++◌, length, get_or, drop, refl, sym, ap, ◌∙◌, arith, drop-cons, add-one}
use Rattle.std.proofs.lemmas.List.{drop_all}
use Rattle.std.proofs.lemmas.Nat.{shr-shr}
use Rattle.stream_syntax.specs.PixelCodes.{bits, bits_of}
use Rattle.psi_tables.specs.Crc.{crc_behind, crc_step}

pub crc_behind-append : (register : ℕ) (xs ys : List ℕ)
    → crc_behind register (xs ++ ys) ≡ crc_behind (crc_behind register xs) ys
unfolding crc_behind
crc_behind-append register [] ys = refl
crc_behind-append register (x ∷ xs) ys = crc_behind-append (crc_step register x) xs ys

crc_byte : (register byte : ℕ) (bytes : List ℕ)
    → crc_behind register (bits_of (byte ∷ bytes))
    ≡ crc_behind (crc_behind register (bits 8 byte)) (bits_of bytes)
unfolding bits_of
crc_byte register byte bytes = crc_behind-append register (bits 8 byte) (bits_of bytes)

-- one byte further
pub crc_next : (register : ℕ) (bytes : List ℕ) (i : ℕ) → i < length bytes
    → crc_behind register (bits_of (drop i bytes))
    ≡ crc_behind (crc_behind register (bits 8 (get_or bytes i 0))) (bits_of (drop (i + 1) bytes))
crc_next register bytes i inside =
    ap (λ rest. crc_behind register (bits_of rest)) (drop-cons bytes i 0 inside)
    ∙ crc_byte register (get_or bytes i 0) (drop (suc i) bytes)
    ∙ ap (λ n. crc_behind (crc_behind register (bits 8 (get_or bytes i 0))) (bits_of (drop n bytes)))
    (sym (add-one i))

-- behind the last byte
pub crc_end : (register : ℕ) (bytes : List ℕ)
    → crc_behind register (bits_of (drop (length bytes) bytes)) ≡ register
unfolding bits_of crc_behind
crc_end register bytes = ap (λ rest. crc_behind register (bits_of rest)) (drop_all (length bytes) bytes (omega arith))

eight_bits : (byte : ℕ)
    → bits 8 byte ≡ byte / 2 ^ 7 % 2 ∷ byte / 2 ^ 6 % 2 ∷ byte / 2 ^ 5 % 2 ∷ byte / 2 ^ 4 % 2
    ∷ byte / 2 ^ 3 % 2 ∷ byte / 2 ^ 2 % 2 ∷ byte / 2 ^ 1 % 2 ∷ byte % 2 ∷ []
unfolding bits
eight_bits byte =
    rw (shr-shr byte 1 1, shr-shr byte 2 1, shr-shr byte 3 1, shr-shr byte 4 1, shr-shr byte 5 1, shr-shr byte 6 1) refl

eight_steps : (register a b c d e f g h : ℕ)
    → crc_behind register (a ∷ b ∷ c ∷ d ∷ e ∷ f ∷ g ∷ h ∷ [])
    ≡ crc_step (crc_step (crc_step (crc_step (crc_step (crc_step (crc_step (crc_step register a) b) c) d) e) f) g) h
unfolding crc_behind
eight_steps register a b c d e f g h = refl

-- the eight bits of a byte, one by one
pub crc_eight : (register byte : ℕ) → byte < 256
    → crc_step
    (crc_step
    (crc_step
    (crc_step
    (crc_step (crc_step (crc_step (crc_step register (byte / 2 ^ 7)) (byte / 2 ^ 6 % 2)) (byte / 2 ^ 5 % 2))
    (byte / 2 ^ 4 % 2)) (byte / 2 ^ 3 % 2)) (byte / 2 ^ 2 % 2)) (byte / 2 ^ 1 % 2)) (byte % 2)
    ≡ crc_behind register (bits 8 byte)
crc_eight register byte small =
    let eight = eight_bits byte in
    let top : byte / 2 ^ 7 ≡ byte / 2 ^ 7 % 2 = omega arith in
    ap (λ bit. crc_step
    (crc_step
    (crc_step
    (crc_step
    (crc_step (crc_step (crc_step (crc_step register bit) (byte / 2 ^ 6 % 2)) (byte / 2 ^ 5 % 2))
    (byte / 2 ^ 4 % 2)) (byte / 2 ^ 3 % 2)) (byte / 2 ^ 2 % 2)) (byte / 2 ^ 1 % 2)) (byte % 2)) top
    ∙ sym (ap (crc_behind register) eight
    ∙ eight_steps register (byte / 2 ^ 7 % 2) (byte / 2 ^ 6 % 2) (byte / 2 ^ 5 % 2) (byte / 2 ^ 4 % 2)
    (byte / 2 ^ 3 % 2) (byte / 2 ^ 2 % 2) (byte / 2 ^ 1 % 2) (byte % 2))
