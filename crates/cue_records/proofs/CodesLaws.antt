-- Codes that are put in their places, digit by digit.
use Rattle.std.proofs.Common.{zero, suc, ◌≡◌, ◌∙◌, refl, sym, ap, ap₂, subst, ℕ, ◌+◌, ◌*◌, ◌%◌, ◌<◌, ◌≤◌, nat_lt, Bool, true, false, ◌&&◌, if◌then◌else◌, List, [], ◌∷◌, ◌++◌, length, take, drop, set, get_or, Option, Some, None, is_some, unwrap_or, All, append_assoc, arith, add-one}
use Rattle.std.specs.List.{list_all}
use Rattle.std.specs.Simd.{first_chunks}
use Rattle.std.proofs.Math.Nat.{mul-suc}
use Rattle.std.proofs.Math.Seq.{drop-cons}
use Rattle.std.proofs.lemmas.Bool.Decides.{nat_tests}
use Rattle.std.proofs.lemmas.List.{get_or-drop, get_or-take, take_more_set, length-set}
use Rattle.std.proofs.lemmas.List.Elements.{All-push}
use Rattle.std.proofs.lemmas.List.Folds.{list_all_more}
use Rattle.cue_records.specs.Cells.{◌>>=◌}
use Rattle.sub_base.specs.Number.{hex_value}
use Rattle.cue_records.specs.Codes.{with_code, after_codes, has_code, single_code, single_codes, double_code, double_codes}
use Rattle.cue_records.proofs.TestLaws.{both-true}

-- one code more was read
after_codes-next : (front now : List ℕ) (read : Option ℕ) (code : ℕ) (more : Option (List ℕ))
    → read ≡ Some code → now ≡ front ++ code ∷ []
    → after_codes front (with_code read more) ≡ after_codes now more
after_codes-next front now read code None is grown = rw is refl
after_codes-next front now read code (Some others) is grown =
    rw (is, grown) (ap Some (sym (append_assoc front (code ∷ []) others)))

-- ---- a digit's value, or 255

below_by : (limit : ℕ) (read : Option ℕ) → limit ≤ 16
    → nat_lt (unwrap_or read 255) limit
    ≡ is_some (read >>= λ value. if nat_lt value limit then Some value else None)
below_by limit None small = grind (arith, nat_tests)
below_by limit (Some value) small = by (nat_lt value limit)
  where
    by : (b : Bool) → b ≡ is_some (if b then Some value else None)
    by true = refl
    by false = refl

-- it is below the limit exactly where there is a code
value_below : (limit digit value : ℕ) → limit ≤ 16 → value ≡ unwrap_or (hex_value digit) 255
    → nat_lt value limit ≡ has_code limit digit
value_below limit digit value small is = ap (λ v. nat_lt v limit) is ∙ below_by limit (hex_value digit) small

code_by : (limit : ℕ) (read : Option ℕ) → limit ≤ 16 → nat_lt (unwrap_or read 255) limit ≡ true
    → (read >>= λ value. if nat_lt value limit then Some value else None) ≡ Some (unwrap_or read 255)
code_by limit None small below = absurd (grind (arith, nat_tests))
code_by limit (Some value) small below = rw below refl

-- and is that code then
value_code : (limit digit value : ℕ) → limit ≤ 16 → value ≡ unwrap_or (hex_value digit) 255
    → nat_lt value limit ≡ true → single_code limit digit ≡ Some value
value_code limit digit value small is below =
    code_by limit (hex_value digit) small (ap (λ v. nat_lt v limit) (sym is) ∙ below) ∙ ap Some (sym is)

pair_by : (high low : Option ℕ) → nat_lt (unwrap_or high 255) 16 ≡ true → nat_lt (unwrap_or low 255) 16 ≡ true
    → (high >>= λ h. low >>= λ l. Some (16 * h + l))
    ≡ Some (unwrap_or high 255 % 16 * 16 + unwrap_or low 255 % 16)
pair_by None low h l = absurd (grind (arith, nat_tests))
pair_by (Some high) None h l = absurd (grind (arith, nat_tests))
pair_by (Some high) (Some low) h l =
    let e : 16 * high + low ≡ high % 16 * 16 + low % 16 = grind (arith, nat_tests) in ap Some e

-- the code of two digits
value_pair : (high low h l : ℕ) → h ≡ unwrap_or (hex_value high) 255 → l ≡ unwrap_or (hex_value low) 255
    → nat_lt h 16 ≡ true → nat_lt l 16 ≡ true → double_code high low ≡ Some (h % 16 * 16 + l % 16)
value_pair high low h l is are one two =
    pair_by (hex_value high) (hex_value low) (ap (λ v. nat_lt v 16) (sym is) ∙ one)
    (ap (λ v. nat_lt v 16) (sym are) ∙ two)
    ∙ ap₂ (λ a b. Some (a % 16 * 16 + b % 16)) (sym is) (sym are)

-- ---- one digit a code

-- the digit at hand, and the text after it
single_codes-next : (limit : ℕ) (text : List ℕ) (i : ℕ) → i < length text
    → single_codes limit (drop i text)
    ≡ with_code (single_code limit (get_or text i 0)) (single_codes limit (drop (i + 1) text))
single_codes-next limit text i within = rw (add-one, drop-cons text i 0) refl

-- what holds of the codes of the first digits
pub record AreSingle (limit : ℕ) (text codes : List ℕ) (place : ℕ) (valid : Bool) : Type 0 where
  pub count : length codes ≡ length text
  pub digits : valid ≡ list_all (has_code limit) (take place text)
  pub codes_so : valid ≡ true
      → after_codes (take place codes) (single_codes limit (drop place text)) ≡ single_codes limit text
  pub range : valid ≡ true → All (λ code. code < limit) (take place codes)

pub single_more : (limit : ℕ) (text codes : List ℕ) (place value : ℕ) (valid : Bool) → limit ≤ 16
    → place < length codes → value ≡ unwrap_or (hex_value (get_or text place 0)) 255
    → AreSingle limit text codes place valid
    → AreSingle limit text (set codes place value) (place + 1) (valid && nat_lt value limit)
single_more limit text codes place value valid small within is before = record {
  count = length-set codes place value ∙ before.count;
  digits =
      ap₂ (λ a b. a && b) before.digits (value_below limit (get_or text place 0) value small is)
      ∙ sym (list_all_more (has_code limit) text place 0 (omega (arith, before.count)));
  codes_so = λ all.
      let now = both-true valid (nat_lt value limit) all in
      sym (after_codes-next (take place codes) (take (place + 1) (set codes place value))
      (single_code limit (get_or text place 0)) value (single_codes limit (drop (place + 1) text))
      (value_code limit (get_or text place 0) value small is now.1) (take_more_set codes place value within))
      ∙ ap (after_codes (take place codes)) (sym (single_codes-next limit text place (omega (arith, before.count))))
      ∙ before.codes_so now.0;
  range = λ all.
      let now = both-true valid (nat_lt value limit) all in
      let low : value < limit = grind (arith, nat_tests, now.1) in
      subst (All (λ code. code < limit)) (sym (take_more_set codes place value within))
      (All-push (λ code. code < limit) (take place codes) value (before.range now.0) low);
}

-- ---- two digits a code

pair_next : (text : List ℕ) (i : ℕ) → suc i < length text
    → double_codes (drop i text)
    ≡ with_code (double_code (get_or text i 0) (get_or text (suc i) 0)) (double_codes (drop (suc (suc i)) text))
pair_next [] i within = absurd (omega arith)
pair_next (a ∷ []) i within = absurd (omega arith)
pair_next (a ∷ b ∷ text) zero within = refl
pair_next (a ∷ b ∷ text) (suc i) within = pair_next (b ∷ text) i (omega arith)

-- the two digits at hand, and the text after them
double_codes-next : (text : List ℕ) (i : ℕ) → i + 1 < length text
    → double_codes (drop i text)
    ≡ with_code (double_code (get_or text i 0) (get_or text (i + 1) 0)) (double_codes (drop (i + 1 + 1) text))
double_codes-next text i within =
    let one : i + 1 ≡ suc i = omega arith in
    let two : i + 1 + 1 ≡ suc (suc i) = omega arith in
    rw (two, one) (pair_next text i (omega arith))

-- a digit of a text that is cut into chunks of that width
pub digit_in_chunk : (width count k j : ℕ) (text : List ℕ) → k < count → j < width
    → get_or (get_or (first_chunks width count text) k []) j 0 ≡ get_or text (width * k + j) 0
digit_in_chunk width zero k j text within inside = absurd (omega (arith, within))
digit_in_chunk width (suc count) zero j text within inside =
    get_or-take width text j 0 inside ∙ ap (λ n. get_or text n 0) (omega arith)
digit_in_chunk width (suc count) (suc k) j text within inside =
    digit_in_chunk width count k j (drop width text) (omega (arith, within)) inside
    ∙ get_or-drop width text (width * k + j) 0
    ∙ ap (λ n. get_or text n 0) (omega (arith, mul-suc width k))

-- what holds of the codes of the first pairs of digits
pub record AreDouble (text codes : List ℕ) (place : ℕ) (valid : Bool) : Type 0 where
  pub count : length text ≡ 2 * length codes
  pub digits : valid ≡ list_all (has_code 16) (take (2 * place) text)
  pub codes_so : valid ≡ true
      → after_codes (take place codes) (double_codes (drop (2 * place) text)) ≡ double_codes text

pub double_more : (text codes : List ℕ) (place high low : ℕ) (valid : Bool) → place < length codes
    → high ≡ unwrap_or (hex_value (get_or text (2 * place) 0)) 255
    → low ≡ unwrap_or (hex_value (get_or text (2 * place + 1) 0)) 255
    → AreDouble text codes place valid
    → AreDouble text (set codes place (high % 16 * 16 + low % 16)) (place + 1)
    ((valid && nat_lt high 16) && nat_lt low 16)
double_more text codes place high low valid within is are before =
    let e : 2 * (place + 1) ≡ 2 * place + 1 + 1 = omega arith in
    record {
      count = omega (arith, length-set codes place (high % 16 * 16 + low % 16), before.count);
      digits = ap₂ (λ a b. a && b)
          (ap₂ (λ a b. a && b) before.digits (value_below 16 (get_or text (2 * place) 0) high (omega arith) is)
          ∙ sym (list_all_more (has_code 16) text (2 * place) 0 (omega (arith, before.count))))
          (value_below 16 (get_or text (2 * place + 1) 0) low (omega arith) are)
          ∙ sym (list_all_more (has_code 16) text (2 * place + 1) 0 (omega (arith, before.count)))
          ∙ ap (λ n. list_all (has_code 16) (take n text)) (sym e);
      codes_so = λ all.
          let now = both-true (valid && nat_lt high 16) (nat_lt low 16) all in
          let first = both-true valid (nat_lt high 16) now.0 in
          ap (λ n. after_codes (take (place + 1) (set codes place (high % 16 * 16 + low % 16)))
          (double_codes (drop n text))) e
          ∙ sym (after_codes-next (take place codes) (take (place + 1) (set codes place (high % 16 * 16 + low % 16)))
          (double_code (get_or text (2 * place) 0) (get_or text (2 * place + 1) 0)) (high % 16 * 16 + low % 16)
          (double_codes (drop (2 * place + 1 + 1) text))
          (value_pair (get_or text (2 * place) 0) (get_or text (2 * place + 1) 0) high low is are first.1 now.1)
          (take_more_set codes place (high % 16 * 16 + low % 16) within))
          ∙ ap (after_codes (take place codes))
          (sym (double_codes-next text (2 * place) (omega (arith, before.count))))
          ∙ before.codes_so first.0;
    }
