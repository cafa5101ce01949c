-- Two sets of 2,000 bytes, shown 27,000 ticks after each other: they are small and far apart, so `sd` does not refuse
-- them.
use Rattle.std.specs.Prelude.{◌≡◌, ℕ, zero, suc, ◌+◌, ◌<◌, ◌≤◌, List, [], ◌∷◌, slice_index, slice_index_or, refl}
use Rattle.std.proofs.Common.{arith}
use Rattle.std.proofs.lemmas.List.Elements.{All-from_get_or}
use Rattle.sub_base.specs.Pace.{pace_of}
use Rattle.sub_base.specs.Profile.{profile_of}
use Rattle.sub_base.specs.declared.load.WriteLoad.{WriteLoad}
use Rattle.sub_base.specs.declared.profile.ProfileName.TheVariants.{Sd}
use Rattle.schedule.specs.declared.fault.ScheduleFault.{ScheduleFault}
use Rattle.schedule.specs.declared.fault.ScheduleFault.TheVariants.{Memory}
use Rattle.schedule.specs.Packets.{no_load}
use Rattle.schedule.specs.Refusals.{IsScheduleCause}
use Rattle.schedule.specs.Slots.{IsLoad}
use Rattle.spaced_set_laws.specs.Apart.{IsSmall, AreWellApart}
use Rattle.spaced_set_laws.proofs.ApartSets.{never_refused}

-- a set of one PES packet, shown then
abbrev shown_at : ℕ → WriteLoad
shown_at pts = record { load = record { pts = pts; size = 2000; painted = 144 }; longest = 2000; units = 2000 ∷ [] }

abbrev two_sets : List WriteLoad
two_sets = shown_at 180000 ∷ shown_at 207000 ∷ []

-- each can be scheduled
each : (i : ℕ) → i < 2 → IsLoad (slice_index_or two_sets i no_load)
each zero below = record { some = omega arith; size = refl; pts = omega arith; painted = omega arith }
each (suc zero) below = record { some = omega arith; size = refl; pts = omega arith; painted = omega arith }
each (suc (suc i)) below = absurd (omega arith)

-- each is small
small : (i : ℕ) → i < 2 → IsSmall (slice_index_or two_sets i no_load)
small zero below = record { one = refl; size = omega arith; longest = omega arith; painted = omega arith }
small (suc zero) below = record { one = refl; size = omega arith; longest = omega arith; painted = omega arith }
small (suc (suc i)) below = absurd (omega arith)

-- their times are far apart
apart : AreWellApart 0 (180000 ∷ 207000 ∷ [])
apart = record { first = λ _. omega arith; next = next }
  where
    next : (i : ℕ) → i + 1 < 2
        → slice_index (180000 ∷ 207000 ∷ []) i + 27000 ≤ slice_index (180000 ∷ 207000 ∷ []) (i + 1)
    next zero below = omega arith
    next (suc i) below = absurd (omega arith)

-- they are not refused
two_are_sent : (fault : ScheduleFault) → IsScheduleCause two_sets (pace_of 0 (profile_of Sd)) fault → fault ≡ Memory
two_are_sent fault =
    never_refused two_sets (180000 ∷ 207000 ∷ []) 0 (profile_of Sd) fault ((Sd, refl), refl)
    (All-from_get_or IsLoad two_sets no_load each) (All-from_get_or IsSmall two_sets no_load small) refl apart
