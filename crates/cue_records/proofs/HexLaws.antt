-- A text of so many digits passes the tests of codes exactly where each character is a digit of the depth.
use Rattle.std.proofs.Common.{zero, suc, ◌≡◌, ◌∙◌, refl, sym, ap, ap₂, ℕ, ◌*◌, ◌<◌, ◌==◌, Bool, true, false, ◌&&◌, ◌||◌, not, if◌then◌else◌, nat_lt, List, [], ◌∷◌, length, chars, get_or, Option, Some, None, is_some, arith}
use Rattle.std.specs.List.{list_all, list_any}
use Rattle.std.specs.Option.{option_map_or}
use Rattle.std.specs.Str.{IsUtf8}
use Rattle.std.proofs.lemmas.Bool.Decides.{nat_tests}
use Rattle.std.proofs.lemmas.Str.{encodes-chars, encodes-IsAscii, chars-IsAscii}
use Rattle.std.proofs.lemmas.Bool.{eq-eqb, eqb-true}
use Rattle.sub_base.specs.declared.depth.Depth.{Depth}
use Rattle.sub_base.specs.declared.depth.Depth.TheVariants.{Two, Four, Eight}
use Rattle.cue_records.specs.declared.fault.ScriptKind.{ScriptKind}
use Rattle.cue_records.specs.declared.row_values.PictureHead.{PictureHead}
use Rattle.cue_records.specs.CellFaults.{first_of, fails}
use Rattle.cue_records.specs.Cells.{◌>>=◌}
use Rattle.sub_base.specs.Number.{hex_value}
use Rattle.cue_records.specs.Codes.{has_code, are_digits}
use Rattle.cue_records.specs.RowValues.{area}
use Rattle.cue_records.specs.CodeFaults.{codes_fault, digits_of, is_hex, is_large}
use Rattle.cue_records.proofs.TestLaws.{both-true, not-false}

-- where three tests find nothing each one passes
pub three-pass : (a b c : Bool) (j k l : ScriptKind)
    → first_of (fails a j ∷ fails b k ∷ fails c l ∷ []) ≡ None → (a ≡ false) × (b ≡ false)
    × (c ≡ false)
three-pass true b c j k l h = absurd (let never : Some j ≡ None = h in cc)
three-pass false true c j k l h = absurd (let never : Some k ≡ None = h in cc)
three-pass false false true j k l h = absurd (let never : Some l ≡ None = h in cc)
three-pass false false false j k l h = (refl, refl, refl)

-- a digit's value is below 16, and the digit is ASCII
value-small : (d v : ℕ) → hex_value d ≡ Some v → v < 16
value-small d v e = grind (arith, nat_tests)

hex-ascii : (d : ℕ) → is_hex d ≡ true → d < 128
hex-ascii d h = grind (arith, nat_tests)

ascii-hex : (cs : List ℕ) (i : ℕ) → list_all is_hex cs ≡ true → get_or cs i 0 < 128
ascii-hex [] i all = omega arith
ascii-hex (c ∷ cs) zero all = hex-ascii c (both-true (is_hex c) (list_all is_hex cs) all).0
ascii-hex (c ∷ cs) (suc i) all = ascii-hex cs i (both-true (is_hex c) (list_all is_hex cs) all).1

-- a text of digits has one byte a character
pub chars-hex : (text : List ℕ) → IsUtf8 text → list_all is_hex (chars text) ≡ true → chars text ≡ text
chars-hex text utf8 all =
    sym (encodes-IsAscii (chars text) (λ i. ascii-hex (chars text) i all)) ∙ encodes-chars text utf8

-- a text of digits has one character a byte
hex-chars : (text : List ℕ) → list_all is_hex text ≡ true → chars text ≡ text
hex-chars text all = chars-IsAscii text (λ i. ascii-hex text i all)

two_by : (read : Option ℕ)
    → is_some (read >>= λ value. if nat_lt value 4 then Some value else None)
    ≡ (is_some read && not (option_map_or (λ value. nat_lt 3 value) read false))
two_by None = refl
two_by (Some value) = by (nat_lt value 4) (nat_lt 3 value) (grind (arith, nat_tests))
  where
    by : (small large : Bool) → small ≡ not large → is_some (if small then Some value else None) ≡ not large
    by true large h = h
    by false large h = h

hex_by : (digit : ℕ) (read : Option ℕ) → hex_value digit ≡ read
    → is_some (read >>= λ value. if nat_lt value 16 then Some value else None) ≡ is_some read
hex_by digit None is = refl
hex_by digit (Some value) is =
    let low = value-small digit value is in
    let fits : nat_lt value 16 ≡ true = grind (arith, nat_tests) in
    rw fits refl

-- a test of three parts for each character
apart : (a l : Bool) (all large : Bool) → ((a && all) && not (l || large)) ≡ ((a && not l) && (all && not large))
apart true true true large = refl
apart true true false large = refl
apart true false true large = refl
apart true false false large = refl
apart false l all large = refl

digits_two : (text : List ℕ)
    → (list_all is_hex text && not (list_any (is_large Two) text)) ≡ list_all (has_code 4) text
digits_two [] = refl
digits_two (digit ∷ text) =
    apart (is_hex digit) (is_large Two digit) (list_all is_hex text) (list_any (is_large Two) text)
    ∙ ap₂ (λ a b. a && b) (sym (two_by (hex_value digit))) (digits_two text)

digits_all : (depth : Depth) → ((digit : ℕ) → is_large depth digit ≡ false) → (text : List ℕ)
    → (list_all is_hex text && not (list_any (is_large depth) text)) ≡ list_all (has_code 16) text
digits_all depth none [] = refl
digits_all depth none (digit ∷ text) =
    apart (is_hex digit) (is_large depth digit) (list_all is_hex text) (list_any (is_large depth) text)
    ∙ ap₂ (λ a b. a && b)
    (ap (λ l. is_hex digit && not l) (none digit) ∙ whole (is_hex digit)
    ∙ sym (hex_by digit (hex_value digit) refl)) (digits_all depth none text)
  where
    whole : (b : Bool) → (b && true) ≡ b
    whole true = refl
    whole false = refl

-- digits that are not too large are digits of the depth
digits_by : (depth : Depth) (text : List ℕ)
    → (list_all is_hex text && not (list_any (is_large depth) text)) ≡ are_digits depth text
digits_by Two text = digits_two text
digits_by Four text = digits_all Four (λ digit. refl) text
digits_by Eight text = digits_all Eight (λ digit. refl) text

both-are : (a b : Bool) → a ≡ true → b ≡ false → (a && not b) ≡ true
both-are true b h k = ap not k
both-are false b h k = absurd (let never : false ≡ true = h in cc)

not-true : (b : Bool) → not b ≡ true → b ≡ false
not-true true h = absurd (let never : false ≡ true = h in cc)
not-true false h = refl

-- where the tests of a text's codes find nothing, it has as many digits as are wanted
pub valid-digits : (head : PictureHead) (text : List ℕ) → IsUtf8 text → codes_fault head (chars text) ≡ None
    → (length text ≡ digits_of head.depth * area head) × (are_digits head.depth text ≡ true)
unfolding codes_fault
valid-digits head text utf8 valid =
    let passed = three-pass _ _ _ _ _ _ valid in
    let all : list_all is_hex (chars text) ≡ true = not-false _ passed.1 in
    let same : chars text ≡ text = chars-hex text utf8 all in (
      ap length (sym same) ∙ eqb-true _ _ (not-false _ passed.0),
      sym (digits_by head.depth text)
          ∙ ap (λ (t : List ℕ). list_all is_hex t && not (list_any (is_large head.depth) t)) (sym same)
          ∙ both-are _ _ all passed.2,
    )

-- and the other way round
pub digits-valid : (head : PictureHead) (text : List ℕ) → length text ≡ digits_of head.depth * area head
    → are_digits head.depth text ≡ true → codes_fault head (chars text) ≡ None
unfolding codes_fault
digits-valid head text count digits =
    let parts =
    both-true (list_all is_hex text) (not (list_any (is_large head.depth) text))
    (digits_by head.depth text ∙ digits) in
    let same : chars text ≡ text = hex-chars text parts.0 in
    let one : (length text == digits_of head.depth * area head) ≡ true = eq-eqb _ _ count in
    let small : list_any (is_large head.depth) text ≡ false = not-true _ parts.1 in
    rw (same, one, parts.0, small) refl
