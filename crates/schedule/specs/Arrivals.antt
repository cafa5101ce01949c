-- Any way to send the packets of display sets in time for a receiver's coded data buffer.
use Rattle.std.specs.Prelude.{◌≡◌, ℕ, ◌+◌, ◌-◌, ◌<◌, ◌≤◌, nat_le, if◌then◌else◌, List, length, slice_index, ⊤}
use Rattle.std.specs.List.Sorted.{IsStrictlyIncreasing}
use Rattle.sub_base.specs.declared.load.WriteLoad.{WriteLoad}
use Rattle.sub_base.specs.declared.pace.Pace.{Pace}
use Rattle.schedule.specs.declared.fault.ScheduleFault.{ScheduleFault}
use Rattle.schedule.specs.declared.fault.ScheduleFault.TheVariants.{Memory, CodedFull, Late, SegmentFull}
use Rattle.sub_base.specs.declared.load.TheConstants.{UNIT_ROOM}
use Rattle.schedule.specs.declared.limits.TheConstants.{SEND_WINDOW}
use Rattle.schedule.specs.Packets.{sum_below, load_of, longest_of, packets_of, first_packet, payload_of}
use Rattle.sub_base.specs.Pace.{tick_of}
use Rattle.schedule.specs.Slots.{Timetable, IsSchedule, slot_of, left_of, set_done_at}

-- the payload of packet k of set i where its slot is at most this one, and else 0
abbrev pub payload_by : List WriteLoad → List ℕ → ℕ → ℕ → ℕ → ℕ
payload_by loads slots slot i k = if nat_le (slot_of loads slots i k) slot then payload_of loads i k else 0

-- the payload of all packets of set i with a slot at most this one
abbrev pub arrived_of : List WriteLoad → List ℕ → ℕ → ℕ → ℕ
arrived_of loads slots slot i = sum_below (payload_by loads slots slot i) (packets_of loads i)

-- the coded level at a slot: the payload of all packets of the first n sets with a slot at most this one, less the
-- bytes of the sets that are done by its tick
abbrev pub coded_level_at : List WriteLoad → ℕ → Pace → List ℕ → List ℕ → ℕ → ℕ
coded_level_at loads n pace slots dones slot =
    sum_below (arrived_of loads slots slot) n - sum_below (left_of loads dones (tick_of pace slot)) n

-- the packets of the first n sets arrive in these slots, in order, each at most 450,000 ticks before its set is shown,
-- the sets are done at these ticks, and at no packet the coded data buffer holds more than its bytes
pub record IsArrival (loads : List WriteLoad) (n : ℕ) (pace : Pace) (slots dones : List ℕ) : Type 0 where
  pub packets : length slots ≡ first_packet loads n
  pub rise : IsStrictlyIncreasing slots
  pub window : (i k : ℕ) → i < n → k < packets_of loads i
      → (load_of loads i).pts ≤ tick_of pace (slot_of loads slots i k) + SEND_WINDOW
  pub sets : length dones ≡ n
  pub done : (i : ℕ) → i < n → slice_index dones i ≡ set_done_at loads pace slots i
  pub level : (i k : ℕ) → i < n → k < packets_of loads i
      → coded_level_at loads n pace slots dones (slot_of loads slots i k) ≤ pace.coded

-- in no arrival of the first n sets, or of more, one of their packets stands earlier or one of the sets is done earlier
pub record IsEarliest (loads : List WriteLoad) (n : ℕ) (pace : Pace) (table : Timetable) : Type 0 where
  pub slots : (m : ℕ) (slots dones : List ℕ) → n ≤ m → m ≤ length loads
      → IsArrival loads m pace slots dones →
      (p : ℕ) → p < first_packet loads n → slice_index table.slots p ≤ slice_index slots p
  pub dones : (m : ℕ) (slots dones : List ℕ) → n ≤ m → m ≤ length loads
      → IsArrival loads m pace slots dones →
      (i : ℕ) → i < n → slice_index table.dones i ≤ slice_index dones i

-- a set that is late is late in every other arrival, and in none does a packet of it or of a set before it stand
-- earlier, nor is one of them done earlier, than in the schedule of these sets
pub record IsLateInEach (loads : List WriteLoad) (pace : Pace) (set done : ℕ) : Type 0 where
  pub late : (m : ℕ) (slots dones : List ℕ) → set < m → m ≤ length loads → IsArrival loads m pace slots dones
      → (done ≤ slice_index dones set) × ((load_of loads set).pts < slice_index dones set)
  pub table : Timetable
  pub schedule : IsSchedule loads (set + 1) pace table
  pub is_done : slice_index table.dones set ≡ done
  pub earliest : IsEarliest loads (set + 1) pace table

-- no other arrival of these sets helps: with a set that is larger than the buffer there is none, a set that is late is
-- late in each, and a segment that is too long for a PES packet is so in whatever slots
abbrev pub IsHopeless : List WriteLoad → Pace → ScheduleFault → Type 0
IsHopeless loads pace Memory = ⊤
IsHopeless loads pace (CodedFull set size) =
    (m : ℕ) (slots dones : List ℕ) → set < m → m ≤ length loads → IsArrival loads m pace slots dones → ⊥
IsHopeless loads pace (Late set done shown) = IsLateInEach loads pace set done
IsHopeless loads pace (SegmentFull set longest) = (longest_of loads set ≡ longest) × (UNIT_ROOM < longest)
