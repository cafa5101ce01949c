-- Words of 64 bits that show the bits from a place on, and steps over codes out of them.
use Rattle.std.proofs.Common.{◌≡◌, ℕ, zero, suc, ◌+◌, ◌-◌, ◌*◌, ◌/◌, ◌%◌, ◌^◌, ◌<◌, ◌≤◌, false, ltb, List, [], ◌∷◌, ◌++◌, length, get_or, take, drop, Some, refl, sym, ap, subst, ◌∙◌, append_assoc, arith}
use Rattle.std.specs.Int.{w64, from_be_bytes}
use Rattle.std.proofs.lemmas.Bool.{le-ltb}
use Rattle.std.proofs.lemmas.List.{take_at, drop_at, take_all, take-take, take-append-le, drop-drop}
use Rattle.std.proofs.lemmas.Nat.{pow_pos}
use Rattle.sub_base.specs.declared.depth.Depth.{Depth}
use Rattle.stream_syntax.specs.PixelCodes.{bits, bits_of}
use Rattle.code_strings.specs.Reading.{field_at}
use Rattle.code_strings.specs.Reached.{Reached, IsTold, ShowsBits}
use Rattle.code_strings.proofs.Bits.{length-bits, bits-add, bits-mod, bits-join, number_of-bits, bits_of-drop, bits_of-drop_bytes}

-- ---- what a word shows

-- fewer bits of it
pub shown_less : (xs : List ℕ) (place count word fewer : ℕ) → fewer ≤ count → ShowsBits word count xs place
    → ShowsBits word fewer xs place
shown_less xs place count word fewer h e =
    sym (take-take fewer count (bits 64 word) h) ∙ ap (take fewer) e ∙ take-take fewer count (drop place xs) h

-- the first eight bits of it are the field there
pub shown_byte : (xs : List ℕ) (place count word : ℕ) → 8 ≤ count → word < 2 ^ 64 → place + 8 ≤ length xs
    → ShowsBits word count xs place → field_at xs place 8 ≡ Some (word / 2 ^ 56)
unfolding field_at
shown_byte xs place count word h small room e =
    let t : ltb (length xs) (place + 8) ≡ false = le-ltb _ _ room in
    let first : take 8 (bits 64 word) ≡ bits 8 (word / 2 ^ 56) =
    ap (take 8) (bits-add 8 56 word)
    ∙ take_at (bits 8 (word / 2 ^ 56)) (bits 56 word) 8 (length-bits 8 (word / 2 ^ 56)) in
    let same : take 8 (drop place xs) ≡ bits 8 (word / 2 ^ 56) = sym (shown_less xs place count word 8 h e) ∙ first in
    let m : word / 2 ^ 56 % 2 ^ 8 ≡ word / 2 ^ 56 = omega arith in
    rw (t, same) (ap Some (number_of-bits 8 (word / 2 ^ 56) ∙ m))

drop-of_take : (n m : ℕ) (xs : List ℕ) → drop n (take m xs) ≡ take (m - n) (drop n xs)
drop-of_take zero m xs = let e : m - 0 ≡ m = omega arith in rw e refl
drop-of_take (suc n) zero xs = let e : 0 - suc n ≡ 0 = omega arith in rw e refl
drop-of_take (suc n) (suc m) [] = sym (take_all (suc m - suc n) [] (omega arith))
drop-of_take (suc n) (suc m) (x ∷ xs) = let e : suc m - suc n ≡ m - n = omega arith in rw e (drop-of_take n m xs)

-- moved up, it shows the bits further on
pub shown_further : (xs : List ℕ) (place count word steps : ℕ) → count ≤ 64 → steps ≤ 64
    → ShowsBits word count xs place → ShowsBits (word * 2 ^ steps % 2 ^ 64) (count - steps) xs (place + steps)
shown_further xs place count word steps c s e =
    let low = 64 - steps in
    let n : low + steps ≡ 64 = omega arith in
    let n' : steps + low ≡ 64 = omega arith in
    let v : word * 2 ^ steps ≡ word * 2 ^ steps + 0 = omega arith in
    let moved : bits 64 (word * 2 ^ steps % 2 ^ 64) ≡ bits low word ++ bits steps 0 =
    bits-mod 64 (word * 2 ^ steps)
    ∙ ap (λ (k : ℕ). bits k (word * 2 ^ steps)) (sym n)
    ∙ ap (bits (low + steps)) v
    ∙ bits-join low steps word 0 (pow_pos steps) in
    let behind : drop steps (bits 64 word) ≡ bits low word =
    ap (λ (k : ℕ). drop steps (bits k word)) (sym n')
    ∙ ap (drop steps) (bits-add steps low word)
    ∙ drop_at (bits steps (word / 2 ^ low)) (bits low word) steps (length-bits steps (word / 2 ^ low)) in
    ap (take (count - steps)) moved
    ∙ take-append-le (count - steps) (bits low word) (bits steps 0) (omega (arith, length-bits low word))
    ∙ ap (take (count - steps)) (sym behind)
    ∙ sym (drop-of_take steps count (bits 64 word))
    ∙ ap (drop steps) e
    ∙ drop-of_take steps count (drop place xs)
    ∙ ap (take (count - steps)) (drop-drop steps place xs)

-- ---- eight bytes as a word

-- the number in so many bytes from a byte on, the highest first
abbrev pub number_from : List ℕ → ℕ → ℕ → ℕ
number_from bytes i zero = 0
number_from bytes i (suc k) = number_from bytes i k * 256 + get_or bytes (i + k) 0

no_bits : (v : ℕ) (xs : List ℕ) → bits 0 v ++ xs ≡ xs
unfolding bits
no_bits v xs = refl

bytes_from : (bytes : List ℕ) (i k : ℕ) → i + k ≤ length bytes → ((j : ℕ) → get_or bytes j 0 < 256)
    → drop (8 * i) (bits_of bytes) ≡ bits (8 * k) (number_from bytes i k) ++ bits_of (drop (i + k) bytes)
bytes_from bytes i zero h small =
    let e : i + 0 ≡ i = omega arith in
    rw e (bits_of-drop_bytes bytes i ∙ sym (no_bits 0 (bits_of (drop i bytes))))
bytes_from bytes i (suc k) h small =
    let number = number_from bytes i k in
    let byte = get_or bytes (i + k) 0 in
    let more = bits_of (drop (suc (i + k)) bytes) in
    let e : 8 * suc k ≡ 8 * k + 8 = omega arith in
    let f : i + suc k ≡ suc (i + k) = omega arith in
    let next : bits_of (drop (i + k) bytes) ≡ bits 8 byte ++ more =
    sym (bits_of-drop_bytes bytes (i + k)) ∙ bits_of-drop bytes (i + k) (omega arith) in
    rw (e, f) (bytes_from bytes i k (omega arith) small
    ∙ ap (λ (t : List ℕ). bits (8 * k) number ++ t) next
    ∙ sym (append_assoc (bits (8 * k) number) (bits 8 byte) more)
    ∙ ap (λ (t : List ℕ). t ++ more) (sym (bits-join (8 * k) 8 number byte (small (i + k)))))

eight_sum : (a b c d e f g h : ℕ) → from_be_bytes w64 (a ∷ b ∷ c ∷ d ∷ e ∷ f ∷ g ∷ h ∷ [])
    ≡ (((((((0 * 256 + a) * 256 + b) * 256 + c) * 256 + d) * 256 + e) * 256 + f) * 256 + g) * 256 + h
eight_sum a b c d e f g h = omega arith

-- eight bytes, moved up to a bit of the first, show 57 bits
pub shown_there : (bytes : List ℕ) (place : ℕ) → place / 8 + 8 ≤ length bytes → ((j : ℕ) → get_or bytes j 0 < 256)
    → ShowsBits (from_be_bytes w64 (get_or bytes (place / 8) 0 ∷ get_or bytes (place / 8 + 1) 0
    ∷ get_or bytes (place / 8 + 2) 0 ∷ get_or bytes (place / 8 + 3) 0 ∷ get_or bytes (place / 8 + 4) 0
    ∷ get_or bytes (place / 8 + 5) 0 ∷ get_or bytes (place / 8 + 6) 0 ∷ get_or bytes (place / 8 + 7) 0 ∷ [])
    * 2 ^ (place % 8) % 2 ^ 64) 57 (bits_of bytes) place
shown_there bytes place h small =
    let xs = bits_of bytes in
    let word = number_from bytes (place / 8) 8 in
    let e : place / 8 + 0 ≡ place / 8 = omega arith in
    let is : from_be_bytes w64 (get_or bytes (place / 8) 0 ∷ get_or bytes (place / 8 + 1) 0
    ∷ get_or bytes (place / 8 + 2) 0 ∷ get_or bytes (place / 8 + 3) 0 ∷ get_or bytes (place / 8 + 4) 0
    ∷ get_or bytes (place / 8 + 5) 0 ∷ get_or bytes (place / 8 + 6) 0 ∷ get_or bytes (place / 8 + 7) 0 ∷ []) ≡ word =
    rw e (eight_sum _ _ _ _ _ _ _ _) in
    let whole : ShowsBits word 64 xs (8 * (place / 8)) =
    take_all 64 (bits 64 word) (omega (arith, length-bits 64 word))
    ∙ sym (ap (take 64) (bytes_from bytes (place / 8) 8 h small)
    ∙ take_at (bits 64 word) (bits_of (drop (place / 8 + 8) bytes)) 64 (length-bits 64 word)) in
    let moved = shown_further xs (8 * (place / 8)) 64 word (place % 8) (omega arith) (omega arith) whole in
    let at : 8 * (place / 8) + place % 8 ≡ place = omega arith in
    subst (λ (v : ℕ). ShowsBits (v * 2 ^ (place % 8) % 2 ^ 64) 57 xs place) (sym is)
    (shown_less xs place (64 - place % 8) (word * 2 ^ (place % 8) % 2 ^ 64) 57 (omega arith)
    (subst (λ (p : ℕ). ShowsBits (word * 2 ^ (place % 8) % 2 ^ 64) (64 - place % 8) xs p) at moved))

-- ---- a step

-- so many bits behind a place are passed, and a word shows what comes behind them, of 57 bits
pub record IsWithin (depth : Depth) (xs : List ℕ) (place passed word : ℕ) : Type 0 where
  pub few : passed ≤ 73
  pub reached : Reached depth xs (place + passed)
  pub shown : ShowsBits word (57 - passed) xs (place + passed)

pub within_first : (depth : Depth) (xs : List ℕ) (place word : ℕ) → Reached depth xs place → ShowsBits word 57 xs place
    → IsWithin depth xs place 0 word
within_first depth xs place word r s =
    let e : place ≡ place + 0 = omega arith in record {
      few = omega arith;
      reached = subst (Reached depth xs) e r;
      shown = subst (ShowsBits word 57 xs) e s;
    }

pub within_next : (depth : Depth) (bytes : List ℕ) (place passed word steps : ℕ)
    → place + 73 ≤ length (bits_of bytes) → passed ≤ 49 → word < 2 ^ 64 → IsTold depth (word / 2 ^ 56) steps
    → steps ≤ 24 → IsWithin depth (bits_of bytes) place passed word
    → IsWithin depth (bits_of bytes) place (passed + steps) (word * 2 ^ steps % 2 ^ 64)
within_next depth bytes place passed word steps room before small told few w =
    let xs = bits_of bytes in
    let field = shown_byte xs (place + passed) (57 - passed) word (omega arith) small (omega arith) w.shown in
    let reached = told bytes (place + passed) field (omega arith) w.reached in
    let shown = shown_further xs (place + passed) (57 - passed) word steps (omega arith) (omega arith) w.shown in
    let at : place + passed + steps ≡ place + (passed + steps) = omega arith in
    let left : 57 - passed - steps ≡ 57 - (passed + steps) = omega arith in
    record {
      few = omega arith;
      reached = subst (Reached depth xs) at reached;
      shown = rw (at, left) at shown;
    }
