-- What has left the buffer by a tick.
use Rattle.std.proofs.Common.{◌≡◌, ℕ, max, ◌+◌, ◌<◌, ◌≤◌, inl, inr, below_more, mul-le-mul_right, List, length, false, ltb, arith}
use Rattle.std.specs.Prelude.{slice_index}
use Rattle.std.proofs.lemmas.Bool.{cases_lt}
use Rattle.std.proofs.lemmas.Bool.Decides.{nat_tests}
use Rattle.sub_base.specs.declared.load.WriteLoad.{WriteLoad}
use Rattle.schedule.specs.Packets.{sum_below, size_of}
use Rattle.sub_base.specs.declared.pace.Pace.{Pace}
use Rattle.sub_base.specs.Pace.{tick_of}
use Rattle.schedule.specs.Slots.{left_of}
use Rattle.schedule.specs.Private.Safe.{AreDone, AreOrdered}
use Rattle.schedule.proofs.SumLaws.{sum_below-same, sum_below-le, sum_below-ends, sum_below-rises}

-- a test that fails says that the other number is not above
pub ltb-false : (a b : ℕ) → ltb a b ≡ false → b ≤ a
ltb-false a b h = grind (arith, nat_tests)

-- a set that is done has left
pub left_of-yes : (loads : List WriteLoad) (dones : List ℕ) (tick i : ℕ) → slice_index dones i ≤ tick
    → left_of loads dones tick i ≡ size_of loads i
left_of-yes loads dones tick i h = grind (arith, nat_tests)

-- one that is not has not
pub left_of-no : (loads : List WriteLoad) (dones : List ℕ) (tick i : ℕ) → tick < slice_index dones i
    → left_of loads dones tick i ≡ 0
left_of-no loads dones tick i h = grind (arith, nat_tests)

pub left_of-most : (loads : List WriteLoad) (dones : List ℕ) (tick i : ℕ)
    → left_of loads dones tick i ≤ size_of loads i
left_of-most loads dones tick i = grind (arith, nat_tests)

-- where the first m sets are done, they have left
pub left-least : (loads : List WriteLoad) (dones : List ℕ) (tick m i : ℕ) → m ≤ i
    → ((j : ℕ) → j < m → slice_index dones j ≤ tick) →
    sum_below (size_of loads) m ≤ sum_below (left_of loads dones tick) i
left-least loads dones tick m i within done =
    let same =
    sum_below-same (left_of loads dones tick) (size_of loads) m
    (λ j below. left_of-yes loads dones tick j (done j below)) in
    omega (arith, same, sum_below-rises (left_of loads dones tick) m i within)

-- where set m and those after it are not done, no more than those before it have left
pub left-most : (loads : List WriteLoad) (dones : List ℕ) (tick m i : ℕ) → m ≤ i
    → ((j : ℕ) → m ≤ j → j < i → tick < slice_index dones j) →
    sum_below (left_of loads dones tick) i ≤ sum_below (size_of loads) m
left-most loads dones tick m i within later =
    let none =
    sum_below-ends (left_of loads dones tick) m i within
    (λ j from to. left_of-no loads dones tick j (later j from to)) in
    omega (
      arith,
      none,
      sum_below-le (left_of loads dones tick) (size_of loads) m
          (λ j below. left_of-most loads dones tick j),
    )

-- a later slot has a later tick
pub tick_of-rises : (pace : Pace) (a b : ℕ) → a ≤ b → tick_of pace a ≤ tick_of pace b
tick_of-rises pace a b h = omega (arith, mul-le-mul_right pace.step h)

-- a slot before another has a tick before the other's
pub tick_of-before : (pace : Pace) (a b : ℕ) → tick_of pace a < tick_of pace b → a < b
tick_of-before pace a b h =
    elim (cases_lt a b) [ inl less ↦ less | inr more ↦ absurd (omega (arith, tick_of-rises pace b a more)) ]

-- the later of two slots has a tick within a bound where both have
pub tick_of-max : (pace : Pace) (a b m bound : ℕ) → m ≡ max a b → tick_of pace a ≤ bound
    → tick_of pace b ≤ bound → tick_of pace m ≤ bound
tick_of-max pace a b m bound e low high =
    elim (cases_lt a b) [
      | inl less ↦ let is : m ≡ b = omega arith in rw is high
      | inr more ↦ let is : m ≡ a = omega arith in rw is low
    ]

-- one set more is done from the slot on at which it is
pub AreDone-more : (dones : List ℕ) (gone : ℕ) (pace : Pace) (slot at next : ℕ)
    → AreDone dones gone (tick_of pace slot) → gone < length dones →
    slot ≤ next → at ≤ next → slice_index dones gone ≤ tick_of pace at
    → AreDone dones (gone + 1) (tick_of pace next)
AreDone-more dones gone pace slot at next done below rises later reached =
    let up = tick_of-rises pace slot next rises in
    let to = tick_of-rises pace at next later in
    record {
      within = omega arith;
      each = below_more _ gone (λ j less. omega (arith, done.each j less, up)) (omega (arith, reached, to));
    }

-- where what arrived has no room before set `gone` leaves, it has room no earlier than that set is done
pub needs_next : (loads : List WriteLoad) (dones : List ℕ) (pace : Pace) (gone total slot : ℕ)
    → AreOrdered dones → gone < length dones →
    pace.coded + sum_below (size_of loads) gone < total
    → total ≤ pace.coded + sum_below (left_of loads dones (tick_of pace slot)) (length dones) →
    slice_index dones gone ≤ tick_of pace slot
needs_next loads dones pace gone total slot ordered below full room =
    elim (cases_lt (tick_of pace slot) (slice_index dones gone)) [
      | inl early ↦ absurd
          (omega (
            arith,
            left-most loads dones (tick_of pace slot) gone (length dones) (omega arith)
                (λ j from to. omega (arith, ordered.rise gone j from to, early)),
          ))
      | inr late ↦ late
    ]
