-- Slots of packets, the tick at which a set is done, and the bytes in the coded data buffer.
use Rattle.std.specs.Prelude.{◌≡◌, ℕ, zero, suc, ◌+◌, ◌-◌, ◌^◌, ◌<◌, ◌≤◌, sum, List, length, slice_index, slice_range}
use Rattle.sub_base.specs.declared.load.WriteLoad.{WriteLoad}
use Rattle.sub_base.specs.declared.pace.Pace.{Pace}
use Rattle.sub_base.specs.Pace.{tick_of, done_tick, left_by}
use Rattle.sub_base.specs.declared.load.TheConstants.{UNIT_ROOM}
use Rattle.schedule.specs.declared.limits.TheConstants.{SEND_WINDOW}
use Rattle.schedule.specs.Packets.{sum_below, load_of, longest_of, size_of, packets_of, first_packet, bytes_with}

-- the bytes of a set that have left the buffer by a tick: all where the set is done by then, and else none
abbrev pub left_of : List WriteLoad → List ℕ → ℕ → ℕ → ℕ
left_of loads dones tick i = left_by tick (slice_index dones i) (size_of loads i)

-- the slots of all packets in order, where those of each set end, and the ticks at which the sets are done
pub record Timetable : Type 0 where
  pub slots : List ℕ
  pub ends : List ℕ
  pub dones : List ℕ

-- the slot of packet k of set i
abbrev pub slot_of : List WriteLoad → List ℕ → ℕ → ℕ → ℕ
slot_of loads slots i k = slice_index slots (first_packet loads i + k)

-- packet k of set i can stand at a slot: after the packet before it, at most 450,000 ticks before the set is shown,
-- and such that the bytes of all packets up to this one, less those of the sets before that are done by then, are at
-- most those of the coded data buffer
pub record CanStand (loads : List WriteLoad) (pace : Pace) (slots dones : List ℕ) (i k slot : ℕ) : Type 0 where
  pub after : (n : ℕ) → n + 1 ≡ first_packet loads i + k → slice_index slots n < slot
  pub window : (load_of loads i).pts ≤ tick_of pace slot + SEND_WINDOW
  pub room : bytes_with loads i k ≤ pace.coded + sum_below (left_of loads dones (tick_of pace slot)) i

-- the presentation time of the set before set i, and 0 where there is none
abbrev pub shown_before : List WriteLoad → ℕ → ℕ
shown_before loads zero = 0
shown_before loads (suc i) = (load_of loads i).pts

-- the tick at which set i is done: it is decoded byte by byte and painted once its last packet is there and the set
-- before is shown
abbrev pub set_done_at : List WriteLoad → Pace → List ℕ → ℕ → ℕ
set_done_at loads pace slots i =
    done_tick (tick_of pace (slot_of loads slots i (packets_of loads i - 1))) (shown_before loads i) (load_of loads i)

-- these are the slots and done ticks of the first n sets: each packet stands in the least slot in which it can
pub record IsSchedule (loads : List WriteLoad) (n : ℕ) (pace : Pace) (table : Timetable) : Type 0 where
  pub packets : length table.slots ≡ first_packet loads n
  pub sets : (length table.ends ≡ n) × (length table.dones ≡ n)
  pub ends : (i : ℕ) → i < n → slice_index table.ends i ≡ first_packet loads (i + 1)
  pub dones : (i : ℕ) → i < n → slice_index table.dones i ≡ set_done_at loads pace table.slots i
  pub stands : (i k : ℕ) → i < n → k < packets_of loads i
      → CanStand loads pace table.slots table.dones i k (slot_of loads table.slots i k)
  pub least : (i k slot : ℕ) → i < n → k < packets_of loads i
      → CanStand loads pace table.slots table.dones i k slot
      → slot_of loads table.slots i k ≤ slot

-- each of the first n sets fits the coded data buffer, has no segment that is too long for a PES packet, and is done by
-- its presentation time
pub record IsOnTime (loads : List WriteLoad) (n : ℕ) (pace : Pace) (table : Timetable) : Type 0 where
  pub fits : (i : ℕ) → i < n → size_of loads i ≤ pace.coded
  pub short : (i : ℕ) → i < n → longest_of loads i ≤ UNIT_ROOM
  pub ready : (i : ℕ) → i < n → slice_index table.dones i ≤ (load_of loads i).pts

-- where the slots of one set begin: where those of the set before end
abbrev pub start_of : Timetable → ℕ → ℕ
start_of table zero = 0
start_of table (suc set) = slice_index table.ends set

-- the slots of one set, from where those of the set before end to where its own do
abbrev pub slots_of : Timetable → ℕ → List ℕ
slots_of table set = slice_range table.slots (start_of table set) (slice_index table.ends set)

-- the ends lie within the slots, in order, one for each done tick
pub record IsTable (slots ends dones : List ℕ) : Type 0 where
  pub sets : length ends ≡ length dones
  pub within : (i : ℕ) → i < length ends → slice_index ends i ≤ length slots
  pub rise : (i : ℕ) → i + 1 < length ends → slice_index ends i ≤ slice_index ends (i + 1)

-- a set that can be scheduled: it has bytes, which are those of its units, and its presentation time and its painting
-- are below 2^62 ticks
pub record IsLoad (load : WriteLoad) : Type 0 where
  pub some : 1 ≤ load.load.size
  pub size : load.load.size ≡ sum load.units
  pub pts : load.load.pts < 2 ^ 62
  pub painted : load.load.painted < 2 ^ 62
