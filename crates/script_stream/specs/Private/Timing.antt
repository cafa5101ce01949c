-- The sets of a script's plan with the slots of their packets, and what is left of these behind some slots.
use Rattle.std.specs.Prelude.{◌≡◌, ℕ, ◌+◌, ◌^◌, ◌<◌, ◌≤◌, List, length, All, slice_index}
use Rattle.std.specs.List.Sorted.{IsStrictlyIncreasing}
use Rattle.cue_list.specs.declared.script.Script.{Script}
use Rattle.page_epoch.specs.Sendable.{IsOfItsEpoch}
use Rattle.page_epoch.specs.declared.planned_set.PlannedSet.{PlannedSet}
use Rattle.schedule.specs.Packets.{first_packet}
use Rattle.schedule.specs.Slots.{IsLoad, IsOnTime, IsSchedule, Timetable}
use Rattle.set_coder.specs.SetSizes.{FitsPackets}
use Rattle.shown_stream.specs.Compiled.{AreLoads, AreUnitsOfSets, IsPlanned, all_units, sent_pace}
use Rattle.sent_sets.specs.SentStream.{AreSizedAs}
use Rattle.slot_stream.specs.KeptPackets.{SlottedPackets, numbered}
use Rattle.slot_stream.specs.SlotStream.{all_pieces, stream_of}
use Rattle.sub_base.specs.declared.load.WriteLoad.{WriteLoad}
use Rattle.sub_base.specs.declared.profile.ProfileName.{ProfileName}
use Rattle.script_stream.specs.LeftPackets.{ArePacketsLeft}
use Rattle.script_stream.specs.declared.left.PacketsLeft.{PacketsLeft}

-- each packet of sets with these loads has a slot, the slots of each set stand together, and they rise
pub record AreSlotted (loads : List WriteLoad) (table : Timetable) : Type 0 where
  pub sets : length table.dones ≡ length loads
  pub ends : (i : ℕ) → i < length loads → slice_index table.ends i ≡ first_packet loads (i + 1)
  pub packets : length table.slots ≡ first_packet loads (length loads)
  pub rise : IsStrictlyIncreasing table.slots
  pub small : All (λ slot. slot < 2 ^ 56) table.slots

-- each of these sets can be sent with its load, and each of their packets has a slot
pub record AreReady (script : Script) (sets : List PlannedSet) (loads : List WriteLoad)
    (table : Timetable) : Type 0 where
  pub sendable : All (IsOfItsEpoch script) sets
  pub fit : All (FitsPackets script) sets
  pub asked : AreLoads script sets loads
  pub slotted : AreSlotted loads table

-- these are the sets of the script's plan, and their packets have the slots of their schedule, in which each set is on
-- time
pub record IsTimed (profile : ProfileName) (script : Script) (sets : List PlannedSet)
    (loads : List WriteLoad) (table : Timetable) : Type 0 where
  pub planned : IsPlanned profile script sets loads
  pub each : All IsLoad loads
  pub schedule : IsSchedule loads (length loads) (sent_pace profile script) table
  pub on_time : IsOnTime loads (length loads) (sent_pace profile script) table
  pub ready : AreReady script sets loads table

-- the first sets are that many, and have that many packets
pub record AreFirst (loads : List WriteLoad) (sets packets : ℕ) : Type 0 where
  pub among : sets ≤ length loads
  pub packets_are : packets ≡ first_packet loads sets

-- these are the packets of the sets, of which the first has that number, at these slots
pub record AreKeptOf (script : Script) (pid page number : ℕ) (sets : List PlannedSet) (slots : List ℕ)
    (kept : SlottedPackets) : Type 0 where
  pub units : List (List (List ℕ))
  pub carried : AreUnitsOfSets script page sets units
  pub slots_are : kept.slots ≡ slots
  pub packets_are : kept.packets ≡ numbered pid number (all_pieces (all_units units))

-- this is left of the packets of the sets at these slots
pub record AreLeftOf (script : Script) (pid page : ℕ) (sets : List PlannedSet) (loads : List WriteLoad)
    (slots : List ℕ) (sent : ℕ) (left : PacketsLeft) : Type 0 where
  pub units : List (List (List ℕ))
  pub carried : AreUnitsOfSets script page sets units
  pub sized : AreSizedAs loads units
  pub left_is : ArePacketsLeft (stream_of pid (all_pieces (all_units units)) slots) sent left
