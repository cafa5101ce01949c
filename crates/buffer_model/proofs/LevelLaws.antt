-- How levels go between packets, and where they are no breach.
use Rattle.std.proofs.Common.{◌≡◌, ℕ, ◌≤◌, arith, List, [], ◌∷◌, None, refl, false, ltb, mul-le-mul_right}
use Rattle.std.proofs.lemmas.Bool.Decides.{nat_tests}
use Rattle.sub_base.specs.declared.pace.Pace.{Pace}
use Rattle.sub_base.specs.Pace.{tick_of, left_by}
use Rattle.buffer_model.specs.Calls.{Call, Arrived, SetWhole, Dropped, left, unassigned, last_slot, level_at, breaching, first_breach_of, greatest, done_of}
use Rattle.buffer_model.specs.Within.{AreWithin}

-- what has left by a tick has left by a later one
left_by-rises : (done bytes tick later : ℕ) → tick ≤ later
    → left_by tick done bytes ≤ left_by later done bytes
left_by-rises done bytes tick later h = grind (arith, nat_tests)

pub left_rises : (pace : Pace) (past : List Call) (tick later : ℕ) → tick ≤ later
    → left pace tick past ≤ left pace later past
left_rises pace [] tick later h = omega arith
left_rises pace (Arrived slot bytes ∷ past) tick later h = left_rises pace past tick later h
left_rises pace (SetWhole load ∷ past) tick later h =
    omega (
      arith,
      left_rises pace past tick later h,
      left_by-rises (done_of pace load past) (unassigned past) tick later
          h,
    )
left_rises pace (Dropped ∷ past) tick later h = omega (arith, left_rises pace past tick later h)

-- the level does not rise until the next packet
pub level_falls : (pace : Pace) (past : List Call) (slot : ℕ) → last_slot past ≤ slot
    → level_at pace slot 0 past ≤ level_at pace (last_slot past) 0 past
level_falls pace past slot h =
    omega (
      arith,
      left_rises pace past (tick_of pace (last_slot past)) (tick_of pace slot)
          (omega (arith, mul-le-mul_right pace.step h)),
    )

not_over : (a b : ℕ) → a ≤ b → ltb b a ≡ false
not_over a b h = grind (arith, nat_tests)

none_breaching : (pace : Pace) (past : List Call) → AreWithin pace past → breaching pace past ≡ None
none_breaching pace [] h = refl
none_breaching pace (Arrived slot bytes ∷ past) h =
    rw (none_breaching pace past h.1, not_over (level_at pace slot bytes past) pace.coded h.0) refl
none_breaching pace (SetWhole load ∷ past) h = none_breaching pace past h.1
none_breaching pace (Dropped ∷ past) h = none_breaching pace past h

no_first : (pace : Pace) (past : List Call) → AreWithin pace past → first_breach_of pace past ≡ None
no_first pace [] h = refl
no_first pace (Arrived slot bytes ∷ past) h =
    rw (no_first pace past h.1, none_breaching pace past h.1, not_over (level_at pace slot bytes past) pace.coded h.0)
    refl
no_first pace (SetWhole load ∷ past) h =
    rw (no_first pace past h.1, not_over (done_of pace load past) load.pts h.0) refl
no_first pace (Dropped ∷ past) h = no_first pace past h

peak_within : (pace : Pace) (past : List Call) → AreWithin pace past → greatest pace past ≤ pace.coded
peak_within pace [] h = omega arith
peak_within pace (Arrived slot bytes ∷ past) h =
    rw (none_breaching pace past h.1) (omega (arith, h.0, peak_within pace past h.1))
peak_within pace (SetWhole load ∷ past) h = peak_within pace past h.1
peak_within pace (Dropped ∷ past) h = peak_within pace past h

-- where all levels and done ticks are within buffer and times, there is no breach
pub no_breach : (pace : Pace) (past : List Call) → AreWithin pace past → (first_breach_of pace past ≡ None)
    × (greatest pace past ≤ pace.coded)
no_breach pace past h = (no_first pace past h, peak_within pace past h)
