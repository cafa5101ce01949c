-- What waits in the buffer, by tick.
use Rattle.std.proofs.Common.{◌≡◌, ℕ, zero, suc, All, ◌+◌, ◌<◌, ◌≤◌, inl, inr, List, [], ◌∷◌, ◌++◌, length, ltb, nat_lt, filter, sum_by, false, refl, ap, arith}
use Rattle.std.proofs.lemmas.Bool.{cases_lt}
use Rattle.std.proofs.lemmas.Bool.Decides.{nat_tests}
use Rattle.std.proofs.lemmas.List.Sums.{sum_by-cons, sum_by_push}
use Rattle.std.proofs.lemmas.List.Elements.{All-append, All-filter}
use borrow.Author.Tests.{lt-ltb}
use Rattle.buffer_model.specs.declared.waiting.Waiting.{Waiting}
use Rattle.buffer_model.specs.Meters.{held, held_of}

-- no set
abbrev pub none : Waiting
none = record { done = 0; bytes = 0 }

pub held_of-most : (tick : ℕ) (set : Waiting) → held_of tick set ≤ set.bytes
held_of-most tick set = grind (arith, nat_tests)

pub held_of-done : (tick : ℕ) (set : Waiting) → set.done ≤ tick → held_of tick set ≡ 0
held_of-done tick set h = grind (arith, nat_tests)

pub held_of-not_done : (tick : ℕ) (set : Waiting) → tick < set.done → held_of tick set ≡ set.bytes
held_of-not_done tick set h = grind (arith, nat_tests)

-- what is not done by a tick
abbrev pub later : ℕ → List Waiting → List Waiting
later tick sets = filter (λ set. nat_lt tick set.done) sets

not_lt : (a b : ℕ) → b ≤ a → ltb a b ≡ false
not_lt a b h = grind (arith, nat_tests)

pub later-yes : (tick : ℕ) (set : Waiting) (sets : List Waiting) → tick < set.done
    → later tick (set ∷ sets) ≡ set ∷ later tick sets
later-yes tick set sets h = rw (lt-ltb tick set.done h) refl

pub later-no : (tick : ℕ) (set : Waiting) (sets : List Waiting) → set.done ≤ tick
    → later tick (set ∷ sets) ≡ later tick sets
later-no tick set sets h = rw (not_lt tick set.done h) refl

-- sets that are done hold nothing later
pub later-held : (tick after : ℕ) (sets : List Waiting) → tick ≤ after
    → held after (later tick sets) ≡ held after sets
later-held tick after [] h = refl
later-held tick after (set ∷ sets) h =
    elim (cases_lt tick set.done) [
      | inl less ↦ omega (
        arith,
        ap (held after) (later-yes tick set sets less),
        sum_by-cons (held_of after) set
            (later tick sets),
        sum_by-cons (held_of after) set sets,
        later-held tick after sets h,
      )
      | inr more ↦ omega (
        arith,
        ap (held after) (later-no tick set sets more),
        sum_by-cons (held_of after) set sets,
        later-held tick
            after sets h,
        held_of-done after set (omega arith),
      )
    ]

-- the bytes of the sets that are not done
pub later-bytes : (tick : ℕ) (sets : List Waiting) → sum_by (λ set. set.bytes) (later tick sets) ≡ held tick sets
later-bytes tick [] = refl
later-bytes tick (set ∷ sets) =
    let bytes : Waiting → ℕ = λ (set : Waiting). set.bytes in
    elim (cases_lt tick set.done) [
      | inl less ↦ omega (
        arith,
        ap (sum_by bytes) (later-yes tick set sets less),
        sum_by-cons bytes set (later tick sets),
        sum_by-cons
            (held_of tick) set sets,
        later-bytes tick sets,
        held_of-not_done tick set less,
      )
      | inr more ↦ omega (
        arith,
        ap (sum_by bytes) (later-no tick set sets more),
        sum_by-cons (held_of tick) set sets,
        later-bytes tick
            sets,
        held_of-done tick set more,
      )
    ]

-- no more is held than all bytes
pub held-most : (tick : ℕ) (sets : List Waiting) → held tick sets ≤ sum_by (λ set. set.bytes) sets
held-most tick [] = omega arith
held-most tick (set ∷ sets) =
    let bytes : Waiting → ℕ = λ (set : Waiting). set.bytes in
    omega (
      arith,
      sum_by-cons bytes set sets,
      sum_by-cons (held_of tick) set sets,
      held-most tick sets,
      held_of-most
          tick set,
    )

-- sets of at least one byte are no more than their bytes
pub length-bytes : (sets : List Waiting) → All (λ set. 1 ≤ set.bytes) sets
    → length sets ≤ sum_by (λ set. set.bytes) sets
length-bytes [] some = omega arith
length-bytes (set ∷ sets) some =
    let bytes : Waiting → ℕ = λ (set : Waiting). set.bytes in
    omega (
      arith,
      sum_by-cons bytes set sets,
      length-bytes sets (λ k d h. some (suc k) d (omega arith)),
      some 0 none
          (omega arith),
    )

-- a set without bytes holds none
pub held_of-empty : (tick done : ℕ) → held_of tick (record { done = done; bytes = 0 }) ≡ 0
held_of-empty tick done = grind (arith, nat_tests)

-- one set of its own
pub held-one : (tick : ℕ) (sets : List Waiting) (set : Waiting)
    → held tick (sets ++ set ∷ []) ≡ held tick sets + held_of tick set
held-one tick sets set = sum_by_push (held_of tick) sets set

pub some-one : (sets : List Waiting) (set : Waiting) → All (λ set. 1 ≤ set.bytes) sets → 1 ≤ set.bytes
    → All (λ set. 1 ≤ set.bytes) (sets ++ set ∷ [])
some-one sets set some one = All-append (λ set. 1 ≤ set.bytes) sets (set ∷ []) some (All-one set one)
  where
    All-one : (set : Waiting) → 1 ≤ set.bytes → All (λ set. 1 ≤ set.bytes) (set ∷ [])
    All-one set one zero d h = one
    All-one set one (suc k) d h = absurd (omega (arith, h))

pub later-some : (tick : ℕ) (sets : List Waiting) → All (λ set. 1 ≤ set.bytes) sets
    → All (λ set. 1 ≤ set.bytes) (later tick sets)
later-some tick sets some = All-filter (λ set. nat_lt tick set.done) (λ set. 1 ≤ set.bytes) sets some
