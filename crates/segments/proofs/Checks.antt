-- Tests in a row: what passes them passes each.
use Rattle.std.proofs.Common.{◌≡◌, ℕ, Bool, true, false, cond, List, [], ◌∷◌, ◌++◌, Some, None, Result, Ok, Err, refl, arith}
use Rattle.std.specs.Prelude.{◌==◌, not}
use Rattle.std.specs.Result.{result_err}
use Rattle.std.proofs.lemmas.Bool.Decides.{nat_tests}
use Rattle.stream_syntax.specs.Tests.{Test, first_fault}
use Rattle.segments.specs.Reading.{◌>>=◌, checked, tested}

pub test_passed : {Value Fault : Type 0} (fails : Bool) (fault : Fault) (more : Result Value Fault) (value : Value)
    → cond fails (Err fault) more ≡ Ok value → (fails ≡ false) × (more ≡ Ok value)
test_passed true fault more value e = absurd cc
test_passed false fault more value e = (refl, e)

pub test_passes : {Value Fault : Type 0} (fails : Bool) (fault : Fault) (more : Result Value Fault) (value : Value)
    → fails ≡ false → more ≡ Ok value → cond fails (Err fault) more ≡ Ok value
test_passes true fault more value failed e = absurd cc
test_passes false fault more value failed e = e

pub then_ok : {First Value Fault : Type 0} (r : Result First Fault) (next : First → Result Value Fault)
    (value : Value) → (r >>= next) ≡ Ok value → (first : First) × (r ≡ Ok first) × (next first ≡ Ok value)
then_ok (Ok first) next value e = (first, refl, e)
then_ok (Err fault) next value e = absurd cc

abbrev ok : {Value Fault : Type 0} → Value → Result Value Fault
ok value = Ok value

pub same_from_ok : {Value Fault : Type 0} (x y : Value) → ok {Fault = Fault} x ≡ ok y → x ≡ y
same_from_ok x y e = cc

pub fault_of_checked : {Value Fault : Type 0} (tests : List (Test Fault)) (value : Value)
    → result_err (checked tests value) ≡ first_fault tests
fault_of_checked [] value = refl
fault_of_checked (test ∷ tests) value =
    elim test.fails as
    (λ b. result_err (cond b (Err test.fault) (checked tests value)) ≡ cond b (Some test.fault) (first_fault tests))
    [ true ↦ refl | false ↦ fault_of_checked tests value ]

pub value_of_checked : {Value Fault : Type 0} (tests : List (Test Fault)) (value : Value)
    → first_fault tests ≡ None → checked tests value ≡ Ok value
value_of_checked [] value none = refl
value_of_checked {Value} {Fault} (test ∷ tests) value none =
    let P : Bool → Type 0 = λ b. cond b (Some test.fault) (first_fault tests) ≡ None
    → cond b (Err test.fault) (checked tests value) ≡ Ok value in
    (elim test.fails as P [ true ↦ λ e. absurd cc | false ↦ λ e. value_of_checked tests value e ]) none

pub checked-append : {Value Fault : Type 0} (first second : List (Test Fault)) (value : Value)
    → checked (first ++ second) value ≡ (tested first >>= λ passed. checked second value)
checked-append [] second value = refl
checked-append (test ∷ tests) second value =
    elim test.fails as
    (λ b. cond b (Err test.fault) (checked (tests ++ second) value)
    ≡ (cond b (Err test.fault) (tested tests) >>= λ passed. checked second value))
    [ true ↦ refl | false ↦ checked-append tests second value ]

pub zero_from : (n : ℕ) → not (n == 0) ≡ false → n ≡ 0
zero_from n e = grind (arith, nat_tests)

pub zero_there : (n : ℕ) → n ≡ 0 → not (n == 0) ≡ false
zero_there n e = rw e refl

pub tested-then : {Value Fault : Type 0} (tests : List (Test Fault)) (value : Value)
    → (tested tests >>= λ passed. ok {Fault = Fault} value) ≡ checked tests value
tested-then [] value = refl
tested-then (test ∷ tests) value =
    elim test.fails as
    (λ b. (cond b (Err test.fault) (tested tests) >>= λ passed. ok value)
    ≡ cond b (Err test.fault) (checked tests value)) [ true ↦ refl | false ↦ tested-then tests value ]
