-- What a meter of levels has to do with what happened.
use Rattle.std.specs.Prelude.{◌≡◌, ℕ, ◌+◌, ◌^◌, ◌<◌, ◌≤◌, nat_le, if◌then◌else◌, List, Option, None, sum_by, All}
use Rattle.buffer_model.specs.declared.breach.Breach.{Breach}
use Rattle.sub_base.specs.declared.pace.Pace.{Pace}
use Rattle.buffer_model.specs.declared.waiting.Waiting.{Waiting}
use Rattle.buffer_model.specs.declared.waiting.TheConstants.{MOST_WAITING}
use Rattle.sub_base.specs.Pace.{tick_of}
use Rattle.sub_base.specs.declared.profile.TheConstants.{LARGEST_BUFFER}
use Rattle.buffer_model.specs.Calls.{Call, last_slot, last_shown, unassigned, arrived, left, breaching, greatest, first_breach_of}

-- what a meter keeps: the sets that may wait in the buffer, the bytes that arrived since the last set or drop, the slot
-- of the last packet, when the last set is shown, the greatest level, the level over the buffer, and the first breach
pub record Meter : Type 0 where
  pub pace : Pace
  pub waiting : List Waiting
  pub pending : ℕ
  pub last : ℕ
  pub shown : ℕ
  pub peak : ℕ
  pub full : Option ℕ
  pub breach : Option Breach

-- the bytes of a set that is not done by a tick
abbrev pub held_of : ℕ → Waiting → ℕ
held_of tick set = if nat_le set.done tick then 0 else set.bytes

-- the bytes of the sets that are not done by a tick
abbrev pub held : ℕ → List Waiting → ℕ
held tick sets = sum_by (held_of tick) sets

-- what waits fits the buffer, which is no larger than that of any profile, and the last packet's tick leaves room for
-- the ticks that sets take
pub record IsMeter (meter : Meter) : Type 0 where
  pub coded : meter.pace.coded ≤ LARGEST_BUFFER
  pub tick : tick_of meter.pace meter.last < 2 ^ 63
  pub shown : meter.shown < 2 ^ 62
  pub some : All (λ set. 1 ≤ set.bytes) meter.waiting
  pub bytes : sum_by (λ set. set.bytes) meter.waiting ≤ MOST_WAITING
  pub level : (meter.full ≡ None
      → meter.pending + held (tick_of meter.pace meter.last) meter.waiting ≤ meter.pace.coded)

-- the meter is that of this past
pub record IsMeterOf (past : List Call) (meter : Meter) : Type 0 where
  pub last : meter.last ≡ last_slot past
  pub shown : meter.shown ≡ last_shown past
  pub full : meter.full ≡ breaching meter.pace past
  pub breach : meter.breach ≡ first_breach_of meter.pace past
  pub peak : meter.peak ≡ greatest meter.pace past
  pub pending : meter.full ≡ None → meter.pending ≡ unassigned past
  pub waiting : meter.full ≡ None → (tick : ℕ) → tick_of meter.pace meter.last ≤ tick →
      arrived past ≡ left meter.pace tick past + meter.pending + held tick meter.waiting
