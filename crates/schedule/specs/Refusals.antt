-- Why display sets have no schedule.
use Rattle.std.specs.Prelude.{◌≡◌, ◌⊎◌, ℕ, ◌+◌, ◌<◌, ◌≤◌, List, length, slice_index, Result, MatchResult, ⊤}
use Rattle.sub_base.specs.declared.load.WriteLoad.{WriteLoad}
use Rattle.sub_base.specs.declared.pace.Pace.{Pace}
use Rattle.schedule.specs.declared.fault.ScheduleFault.{ScheduleFault}
use Rattle.schedule.specs.declared.fault.ScheduleFault.TheVariants.{Memory, CodedFull, Late, SegmentFull}
use Rattle.sub_base.specs.declared.load.TheConstants.{UNIT_ROOM}
use Rattle.schedule.specs.Packets.{load_of, longest_of, size_of}
use Rattle.schedule.specs.Slots.{Timetable, IsSchedule, IsOnTime}

-- the sets before are on time, and this one is larger than the coded data buffer
pub record IsFirstFull (loads : List WriteLoad) (pace : Pace) (set size : ℕ) : Type 0 where
  pub table : Timetable
  pub among : set < length loads
  pub schedule : IsSchedule loads set pace table
  pub before : IsOnTime loads set pace table
  pub is_size : size_of loads set ≡ size
  pub full : pace.coded < size

-- the sets before are on time, and this one fits the coded data buffer and has a segment that is too long for a PES
-- packet
pub record IsFirstLong (loads : List WriteLoad) (pace : Pace) (set longest : ℕ) : Type 0 where
  pub table : Timetable
  pub among : set < length loads
  pub schedule : IsSchedule loads set pace table
  pub before : IsOnTime loads set pace table
  pub fits : size_of loads set ≤ pace.coded
  pub is_longest : longest_of loads set ≡ longest
  pub long : UNIT_ROOM < longest

-- the sets before are on time, and this one fits the coded data buffer, has no segment that is too long, and is done
-- too late
pub record IsFirstLate (loads : List WriteLoad) (pace : Pace) (set done shown : ℕ) : Type 0 where
  pub table : Timetable
  pub among : set < length loads
  pub schedule : IsSchedule loads (set + 1) pace table
  pub before : IsOnTime loads set pace table
  pub fits : size_of loads set ≤ pace.coded
  pub short : longest_of loads set ≤ UNIT_ROOM
  pub is_done : slice_index table.dones set ≡ done
  pub is_shown : (load_of loads set).pts ≡ shown
  pub late : shown < done

-- the cause of a refusal: the first set that is too large, has too long a segment or is too late; want of memory has
-- none
abbrev pub IsScheduleCause : List WriteLoad → Pace → ScheduleFault → Type 0
IsScheduleCause loads pace Memory = ⊤
IsScheduleCause loads pace (CodedFull set size) = IsFirstFull loads pace set size
IsScheduleCause loads pace (Late set done shown) = IsFirstLate loads pace set done shown
IsScheduleCause loads pace (SegmentFull set longest) = IsFirstLong loads pace set longest

-- this fault is answered, or want of memory
abbrev pub AnswersScheduleFault : {T : Type 0} → ScheduleFault → Result T ScheduleFault → Type 0
AnswersScheduleFault fault result = MatchResult result (λ _. ⊥) (λ told. (told ≡ Memory) ⊎ (told ≡ fault))
