-- Display sets with time enough between them to send each in a row, once the set before it is shown.
use Rattle.std.specs.Prelude.{ℕ, ◌+◌, ◌*◌, ◌<◌, ◌≤◌, max, List, length, slice_index}
use Rattle.sub_base.specs.declared.load.WriteLoad.{WriteLoad}
use Rattle.sub_base.specs.declared.load.TheConstants.{UNIT_ROOM}
use Rattle.sub_base.specs.declared.pace.Pace.{Pace}
use Rattle.schedule.specs.declared.limits.TheConstants.{SEND_WINDOW}
use Rattle.schedule.specs.Arrivals.{IsArrival}
use Rattle.schedule.specs.Packets.{load_of, longest_of, size_of, packets_of}
use Rattle.schedule.specs.Slots.{shown_before}

-- the ticks in which set i can be sent in a row and be done: a step for each of its packets and one more, a tick for
-- each byte, and its painting
abbrev pub ticks_asked : List WriteLoad → Pace → ℕ → ℕ
ticks_asked loads pace i = pace.step * (packets_of loads i + 1) + size_of loads i + (load_of loads i).painted

-- Each set fits the coded data buffer and has no segment that is too long for a PES packet. It asks no more ticks than
-- the window has in which it may be sent, and no more than there are up to its time from the origin and from the time
-- of the set before.
pub record AreSpaced (loads : List WriteLoad) (pace : Pace) : Type 0 where
  pub step : 1 ≤ pace.step
  pub fits : (i : ℕ) → i < length loads → size_of loads i ≤ pace.coded
  pub short : (i : ℕ) → i < length loads → longest_of loads i ≤ UNIT_ROOM
  pub near : (i : ℕ) → i < length loads → ticks_asked loads pace i ≤ SEND_WINDOW
  pub gap : (i : ℕ) → i < length loads →
      max pace.origin (shown_before loads i) + ticks_asked loads pace i ≤ (load_of loads i).pts

-- there is an arrival of all packets with which each set is done by its presentation time
pub record ArriveInTime (loads : List WriteLoad) (pace : Pace) : Type 0 where
  pub slots : List ℕ
  pub dones : List ℕ
  pub arrival : IsArrival loads (length loads) pace slots dones
  pub ready : (i : ℕ) → i < length loads → slice_index dones i ≤ (load_of loads i).pts
