-- Bits put behind one another.
use Rattle.std.proofs.Common.{◌≡◌, ℕ, zero, suc, ◌+◌, ◌-◌, ◌*◌, ◌/◌, ◌%◌, ◌^◌, ◌<◌, ◌≤◌, List, [], ◌∷◌, ◌++◌, refl, sym, ap, subst, ◌∙◌, append_assoc, arith}
use Rattle.std.specs.Prelude.{replicate}
use Rattle.std.proofs.lemmas.List.{append-nil}
use Rattle.std.proofs.lemmas.Nat.{pow_pos, pow-add, mul-le, shl_whole, shr_below}
use Rattle.std.proofs.Math.Pow.{pow_mono}
use Rattle.std.specs.Int.{w32, to_be_bytes}
use Rattle.stream_syntax.specs.PixelCodes.{bits, bits_of}
use Rattle.pixel_codes.specs.Lists.{Extends}
use Rattle.code_strings.proofs.Bits.{bits-add, bits-mod, bits-join, bits_of-append}

pub extends_none : (a : List ℕ) → Extends a a
extends_none a = ([], sym (append-nil a))

pub extends_trans : (a b c : List ℕ) → Extends a b → Extends b c → Extends a c
extends_trans a b c p q = (p.0 ++ q.0, q.1 ∙ ap (λ (t : List ℕ). t ++ q.0) p.1 ∙ append_assoc a p.0 q.0)

pub extends_push : (a b c : List ℕ) (x : ℕ) → Extends a b → c ≡ b ++ x ∷ [] → Extends a c
extends_push a b c x p e = extends_trans a b c p (x ∷ [], e)

-- a number moved up makes room for another
pub shifted : (v count width : ℕ) → v < 2 ^ count → count + width ≤ 64
    → v * 2 ^ width % 18446744073709551616 ≡ v * 2 ^ width
shifted v count width h k = shl_whole v count width 64 h k

pub joined_below : (v x count width : ℕ) → v < 2 ^ count → x < 2 ^ width
    → v * 2 ^ width + x < 2 ^ (count + width)
joined_below v x count width h k =
    let product = mul-le (v + 1) (2 ^ width) (2 ^ count) (2 ^ width) (omega arith) (omega arith) in
    let one : (v + 1) * 2 ^ width ≡ v * 2 ^ width + 2 ^ width = omega arith in
    omega (arith, product, one, pow-add 2 count width)

-- both fit a word
pub fits_word : (v x count width : ℕ) → v < 2 ^ count → x < 2 ^ width → count + width ≤ 63
    → v * 2 ^ width + x < 18446744073709551616
fits_word v x count width h k l =
    let p : 2 ^ (count + width)
    ≤ 2 ^ 63 = pow_mono {i = count + width} {j = 63} l in omega (arith, joined_below v x count width h k, p)

pub begun : (text : List ℕ) (v x count width : ℕ) → x < 2 ^ width
    → text ++ bits (count + width) (v * 2 ^ width + x) ≡ (text ++ bits count v) ++ bits width x
begun text v x count width h =
    ap (λ (t : List ℕ). text ++ t) (bits-join count width v x h)
    ∙ sym (append_assoc text (bits count v) (bits width x))

-- a byte of a number in more bits
pub high_byte : (all count : ℕ) → 8 ≤ count → all < 2 ^ count → all / 2 ^ (count - 8) < 256
high_byte all count h k =
    let e : 8 + (count - 8) ≡ count = omega arith in let f : all
    < 2 ^ (8 + (count - 8)) = subst (λ (n : ℕ). all < 2 ^ n) (sym e) k in shr_below all 8 (count - 8) f

pub byte_out : (out after : List ℕ) (all count : ℕ) → 8 ≤ count
    → after ≡ out ++ all / 2 ^ (count - 8) ∷ []
    → bits_of after ++ bits (count - 8) (all % 2 ^ (count - 8)) ≡ bits_of out ++ bits count all
unfolding bits_of
byte_out out after all count h e =
    let c : 8 + (count - 8) ≡ count = omega arith in
    ap (λ (t : List ℕ). bits_of t ++ bits (count - 8) (all % 2 ^ (count - 8))) e
    ∙ ap (λ (t : List ℕ). t ++ bits (count - 8) (all % 2 ^ (count - 8)))
    (bits_of-append out (all / 2 ^ (count - 8) ∷ [])
    ∙ ap (λ (t : List ℕ). bits_of out ++ t) (append-nil (bits 8 (all / 2 ^ (count - 8)))))
    ∙ ap (λ (t : List ℕ). (bits_of out ++ bits 8 (all / 2 ^ (count - 8))) ++ t) (bits-mod (count - 8) all)
    ∙ append_assoc (bits_of out) (bits 8 (all / 2 ^ (count - 8))) (bits (count - 8) all)
    ∙ ap (λ (t : List ℕ). bits_of out ++ t) (sym (bits-add 8 (count - 8) all) ∙ ap (λ (n : ℕ). bits n all) c)

turned : (n : ℕ) → let one : List ℕ = 0 ∷ [] in replicate n 0 ++ one ≡ 0 ∷ replicate n 0
turned zero = refl
turned (suc n) = let front : ℕ = 0 in ap (λ (t : List ℕ). front ∷ t) (turned n)

bits-zero : (count : ℕ) → bits count 0 ≡ replicate count 0
unfolding bits
bits-zero zero = refl
bits-zero (suc count) =
    let one : List ℕ = 0 ∷ [] in ap (λ (t : List ℕ). t ++ one) (bits-zero count) ∙ turned count

-- the last byte, filled with bits 0
pub filled : (out after : List ℕ) (value count : ℕ) → count ≤ 8
    → after ≡ out ++ value * 2 ^ (8 - count) ∷ []
    → bits_of after ≡ (bits_of out ++ bits count value) ++ replicate (8 - count) 0
unfolding bits_of
filled out after value count h e =
    let c : count + (8 - count) ≡ 8 = omega arith in
    let z : value * 2 ^ (8 - count) + 0 ≡ value * 2 ^ (8 - count) = omega arith in
    ap bits_of e ∙ bits_of-append out (value * 2 ^ (8 - count) ∷ [])
    ∙ ap (λ (t : List ℕ). bits_of out ++ t) (append-nil (bits 8 (value * 2 ^ (8 - count)))
    ∙ ap (λ (n : ℕ). bits 8 n) (sym z)
    ∙ ap (λ (n : ℕ). bits n (value * 2 ^ (8 - count) + 0)) (sym c)
    ∙ bits-join count (8 - count) value 0 (pow_pos (8 - count))
    ∙ ap (λ (t : List ℕ). bits count value ++ t) (bits-zero (8 - count)))
    ∙ sym (append_assoc (bits_of out) (bits count value) (replicate (8 - count) 0))

-- nothing to fill
pub unfilled : (out : List ℕ) (value count : ℕ) → count ≡ 0
    → bits_of out ≡ (bits_of out ++ bits count value) ++ replicate 0 0
unfolding bits
unfilled out value count e =
    let z : bits count value ≡ [] = ap (λ (n : ℕ). bits n value) e in
    sym (append-nil (bits_of out)) ∙ ap (λ (t : List ℕ). bits_of out ++ t) (sym z)
    ∙ sym (append-nil (bits_of out ++ bits count value))

pub fits_byte : (value count : ℕ) → value < 2 ^ count → count < 8 → value * 2 ^ (8 - count) < 256
fits_byte value count h k =
    let e : count + (8 - count)
    ≡ 8 = omega arith in let f = joined_below value 0 count (8 - count) h (pow_pos (8 - count)) in let g = rw e at f
    in omega (arith, g)

pub no_bits : (out : List ℕ) (value count : ℕ) → count ≡ 0 → bits_of out ++ bits count value ≡ bits_of out
unfolding bits
no_bits out value count e =
    let z : bits count value ≡ [] = ap (λ (n : ℕ). bits n value) e in ap (λ (t : List ℕ). bits_of out ++ t) z
    ∙ append-nil (bits_of out)

-- the bits of four bytes, the highest first
word_bits : (w : ℕ) → bits_of (to_be_bytes w32 w) ≡ bits 32 w
unfolding bits_of
word_bits w =
    let b3 = bits-mod 8 (w / 2 ^ 24) in
    let b2 = bits-mod 8 (w / 2 ^ 16) in
    let b1 = bits-mod 8 (w / 2 ^ 8) in
    let b0 = bits-mod 8 w in
    ap (λ (t : List ℕ). t
    ++ (bits 8 (w / 2 ^ 16 % 2 ^ 8) ++ (bits 8 (w / 2 ^ 8 % 2 ^ 8) ++ (bits 8 (w % 2 ^ 8) ++ [])))) b3
    ∙ ap (λ (t : List ℕ). bits 8 (w / 2 ^ 24) ++ (t ++ (bits 8 (w / 2 ^ 8 % 2 ^ 8) ++ (bits 8 (w % 2 ^ 8) ++ []))))
    b2
    ∙ ap (λ (t : List ℕ). bits 8 (w / 2 ^ 24) ++ (bits 8 (w / 2 ^ 16) ++ (t ++ (bits 8 (w % 2 ^ 8) ++ [])))) b1
    ∙ ap (λ (t : List ℕ). bits 8 (w / 2 ^ 24) ++ (bits 8 (w / 2 ^ 16) ++ (bits 8 (w / 2 ^ 8) ++ t)))
    (append-nil (bits 8 (w % 2 ^ 8)) ∙ b0)
    ∙ ap (λ (t : List ℕ). bits 8 (w / 2 ^ 24) ++ (bits 8 (w / 2 ^ 16) ++ t)) (sym (bits-add 8 8 w))
    ∙ ap (λ (t : List ℕ). bits 8 (w / 2 ^ 24) ++ t) (sym (bits-add 8 16 w))
    ∙ sym (bits-add 8 24 w)

-- four bytes of a number in more bits
pub word_out : (out after : List ℕ) (all count rest : ℕ) → 32 + rest ≡ count
    → after ≡ out ++ to_be_bytes w32 (all / 2 ^ rest)
    → bits_of after ++ bits rest (all % 2 ^ rest) ≡ bits_of out ++ bits count all
word_out out after all count rest c e =
    ap (λ (t : List ℕ). bits_of t ++ bits rest (all % 2 ^ rest)) e
    ∙ ap (λ (t : List ℕ). t ++ bits rest (all % 2 ^ rest))
    (bits_of-append out (to_be_bytes w32 (all / 2 ^ rest))
    ∙ ap (λ (t : List ℕ). bits_of out ++ t) (word_bits (all / 2 ^ rest)))
    ∙ ap (λ (t : List ℕ). (bits_of out ++ bits 32 (all / 2 ^ rest)) ++ t) (bits-mod rest all)
    ∙ append_assoc (bits_of out) (bits 32 (all / 2 ^ rest)) (bits rest all)
    ∙ ap (λ (t : List ℕ). bits_of out ++ t) (sym (bits-add 32 rest all) ∙ ap (λ (n : ℕ). bits n all) c)
