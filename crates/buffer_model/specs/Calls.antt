-- The bytes in the coded data buffer of a receiver, as sums over all that happened, the latest first.
use Rattle.std.specs.Prelude.{ℕ, ◌+◌, ◌-◌, max, nat_lt, if◌then◌else◌, List, [], ◌∷◌, Option, Some, None, unwrap_or}
use Rattle.sub_base.specs.declared.load.SetLoad.{SetLoad}
use Rattle.buffer_model.specs.declared.breach.Breach.{Breach}
use Rattle.buffer_model.specs.declared.breach.Breach.TheVariants.{Coded, Late}
use Rattle.sub_base.specs.declared.pace.Pace.{Pace}
use Rattle.sub_base.specs.Pace.{tick_of, done_tick, left_by}
use Rattle.std.specs.Option.{option_or}

-- what happens at a receiver: a packet arrives in a slot with that many bytes, the bytes since the last set or drop are
-- a whole set, or they are dropped
pub data Call : Type 0 where
  Arrived : ℕ → ℕ → Call
  SetWhole : SetLoad → Call
  Dropped : Call

-- the slot of the last packet, and 0 before the first
abbrev pub last_slot : List Call → ℕ
last_slot [] = 0
last_slot (Arrived slot bytes ∷ past) = slot
last_slot (SetWhole load ∷ past) = last_slot past
last_slot (Dropped ∷ past) = last_slot past

-- the presentation time of the last set, and 0 before the first
abbrev pub last_shown : List Call → ℕ
last_shown [] = 0
last_shown (Arrived slot bytes ∷ past) = last_shown past
last_shown (SetWhole load ∷ past) = load.pts
last_shown (Dropped ∷ past) = last_shown past

-- the bytes of all packets
abbrev pub arrived : List Call → ℕ
arrived [] = 0
arrived (Arrived slot bytes ∷ past) = arrived past + bytes
arrived (SetWhole load ∷ past) = arrived past
arrived (Dropped ∷ past) = arrived past

-- the bytes of the packets since the last set or drop
abbrev pub unassigned : List Call → ℕ
unassigned [] = 0
unassigned (Arrived slot bytes ∷ past) = unassigned past + bytes
unassigned (SetWhole load ∷ past) = 0
unassigned (Dropped ∷ past) = 0

-- the tick at which a set is done that is whole after this past
abbrev pub done_of : Pace → SetLoad → List Call → ℕ
done_of pace load past = done_tick (tick_of pace (last_slot past)) (last_shown past) load

-- the bytes that have left by a tick: those of the sets that are done by then, and of the drops
abbrev pub left : Pace → ℕ → List Call → ℕ
left pace tick [] = 0
left pace tick (Arrived slot bytes ∷ past) = left pace tick past
left pace tick (SetWhole load ∷ past) = left_by tick (done_of pace load past) (unassigned past) + left pace tick past
left pace tick (Dropped ∷ past) = unassigned past + left pace tick past

-- the level at the slot of a packet that arrives after this past: all bytes that arrived, less those that have left
abbrev pub level_at : Pace → ℕ → ℕ → List Call → ℕ
level_at pace slot bytes past = (arrived past + bytes) - left pace (tick_of pace slot) past

-- the level, where it is over the coded data buffer
abbrev pub over : ℕ → ℕ → Option ℕ
over coded level = if nat_lt coded level then Some level else None

-- the first of all levels that is over the coded data buffer
abbrev pub breaching : Pace → List Call → Option ℕ
breaching pace [] = None
breaching pace (Arrived slot bytes ∷ past) =
    option_or (breaching pace past) (over pace.coded (level_at pace slot bytes past))
breaching pace (SetWhole load ∷ past) = breaching pace past
breaching pace (Dropped ∷ past) = breaching pace past

-- the level that is measured at the last packet: after a breach the breaching level
abbrev pub measured : Pace → ℕ → ℕ → List Call → ℕ
measured pace slot bytes past = unwrap_or (breaching pace past) (level_at pace slot bytes past)

-- the greater of the greatest level so far and this one; after a breach no level is measured
abbrev pub raised : Option ℕ → ℕ → ℕ → ℕ
raised (Some breaching) peak level = peak
raised None peak level = max peak level

-- the greatest level that is measured; after a breach it is the breaching level, since all before are within the buffer
abbrev pub greatest : Pace → List Call → ℕ
greatest pace [] = 0
greatest pace (Arrived slot bytes ∷ past) =
    raised (breaching pace past) (greatest pace past) (level_at pace slot bytes past)
greatest pace (SetWhole load ∷ past) = greatest pace past
greatest pace (Dropped ∷ past) = greatest pace past

-- the breach of a packet, which is one only where there was no level over the buffer before
abbrev pub coded_breach : ℕ → ℕ → Option ℕ → ℕ → Option Breach
coded_breach coded slot (Some before) level = None
coded_breach coded slot None level = if nat_lt coded level then Some (Coded slot level) else None

-- the breach of a set: it is done after it is to be shown
abbrev pub late_breach : ℕ → ℕ → Option Breach
late_breach done shown = if nat_lt shown done then Some (Late done shown) else None

-- the first breach, in the order of what happened
abbrev pub first_breach_of : Pace → List Call → Option Breach
first_breach_of pace [] = None
first_breach_of pace (Arrived slot bytes ∷ past) =
    option_or (first_breach_of pace past)
    (coded_breach pace.coded slot (breaching pace past) (level_at pace slot bytes past))
first_breach_of pace (SetWhole load ∷ past) =
    option_or (first_breach_of pace past) (late_breach (done_of pace load past) load.pts)
first_breach_of pace (Dropped ∷ past) = first_breach_of pace past
