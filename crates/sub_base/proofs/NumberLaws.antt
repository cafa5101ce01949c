-- Decimal text, digit by digit.
use Rattle.std.proofs.Common.{◌≡◌, ℕ, ◌+◌, ◌-◌, ◌*◌, ◌^◌, ◌<◌, ◌≤◌, List, length, drop, get_or, Bool, true, false, ◌⊎◌, inl, inr, refl, ap, sym, ◌∙◌, arith, add-one}
use Rattle.std.proofs.Math.Nat.{pow-succ', pow-le-pow_right}
use Rattle.std.proofs.Math.Seq.{drop-cons}
use Rattle.std.proofs.lemmas.Bool.Decides.{nat_tests}
use Rattle.std.proofs.lemmas.List.Folds.{list_all_at}
use Rattle.std.specs.List.{list_all}
use Rattle.sub_base.specs.Number.{is_digit, value_from}

-- a test is true or false
either : (b : Bool) → (b ≡ true) ⊎ (b ≡ false)
either true = inl refl
either false = inr refl

-- each byte of a text of digits is a digit
pub is_digit-at : (text : List ℕ) (i : ℕ) → i < length text → list_all is_digit text ≡ true
    → is_digit (get_or text i 0) ≡ true
is_digit-at text i within digits =
    elim (either (is_digit (get_or text i 0))) [
      | inl so ↦ so
      | inr not_so ↦ let none : list_all is_digit text ≡ false = list_all_at is_digit text i 0 within not_so in cc
    ]

-- what the test of a digit says
pub IsDigit-is : (byte : ℕ) → is_digit byte ≡ true → (48 ≤ byte) × (byte ≤ 57)
IsDigit-is byte h = grind (arith, nat_tests)

-- one digit more keeps a number of up to 19 digits below 2 ^ 64
pub value-fits : (i value digit : ℕ) → value < 10 ^ i → i < 19 → digit ≤ 9
    → (10 * value + digit < 10 ^ (i + 1)) × (10 * value + digit < 2 ^ 64)
value-fits i value digit small short low =
    let grown : 10 ^ (i + 1) ≡ 10 * 10 ^ i = ap (λ k. 10 ^ k) (add-one i) ∙ pow-succ' 10 i in
    let most : 10 ^ (i + 1) ≤ 10 ^ 19 = pow-le-pow_right {n = 10} (omega arith) {i = i + 1} {j = 19} (omega arith) in
    (omega arith, omega arith)

-- the number so far, and the digits that are left
pub value_from-step : (text : List ℕ) (i value : ℕ) → i < length text
    → value_from value (drop i text) ≡ value_from (10 * value + (get_or text i 0 - 48)) (drop (i + 1) text)
value_from-step text i value within = rw (add-one, drop-cons text i 0) refl

-- what holds as a digit is read
pub record Next (text : List ℕ) (i value digit : ℕ) : Type 0 where
  pub byte : (48 ≤ get_or text i 0) × (get_or text i 0 ≤ 57)
  pub fits : 10 * value + digit < 2 ^ 64
  pub small : 10 * value + digit < 10 ^ (i + 1)
  pub told : value_from value (drop i text) ≡ value_from (10 * value + digit) (drop (i + 1) text)

pub next_digit : (text : List ℕ) (i value digit : ℕ) → list_all is_digit text ≡ true → length text ≤ 19
    → i < length text → value < 10 ^ i → digit ≡ get_or text i 0 - 48 → Next text i value digit
next_digit text i value digit digits short within small is =
    let byte = IsDigit-is (get_or text i 0) (is_digit-at text i within digits) in
    let both = value-fits i value digit small (omega arith) (omega arith) in
    record {
      byte = byte;
      fits = both.1;
      small = both.0;
      told = value_from-step text i value within
          ∙ ap (λ d. value_from (10 * value + d) (drop (i + 1) text)) (sym is);
    }
