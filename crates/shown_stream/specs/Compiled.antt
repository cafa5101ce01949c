-- The packets that a script is compiled to.
use Rattle.std.specs.Prelude.{◌≡◌, ℕ, List, All, length, IsSome}
use Rattle.std.specs.List.{AllZip}
use Rattle.cue_list.specs.declared.script.Script.{Script}
use Rattle.decoder_model.specs.Received.{Reception, for_page}
use Rattle.page_epoch.specs.Plan.{IsPlan}
use Rattle.page_epoch.specs.declared.planned_set.PlannedSet.{PlannedSet}
use Rattle.sub_base.specs.Pace.{pace_of}
use Rattle.schedule.specs.Slots.{Timetable, IsLoad, IsSchedule, IsOnTime}
use Rattle.sent_sets.specs.SentStream.{AreSizedAs}
use Rattle.set_coder.specs.SetSegments.{AreSetPackets}
use Rattle.set_coder.specs.SetSizes.{IsSetLoad}
use Rattle.sub_base.specs.Profile.{profile_of}
use Rattle.sub_base.specs.declared.profile.ProfileName.{ProfileName}
use Rattle.sub_base.specs.declared.load.WriteLoad.{WriteLoad}
use Rattle.slot_stream.specs.SlotStream.{all_pieces, stream_of}
use Rattle.sub_base.specs.Lists.{all_of}
use Rattle.sub_base.specs.declared.pace.Pace.{Pace}

-- ---- how it is compiled

-- what is asked of the compiler: a script, for receivers of a profile, on a PID and for a page
pub record Compiling : Type 0 where
  pub profile : ProfileName
  pub pid : ℕ
  pub page : ℕ
  pub script : Script

-- a script that is compiled for receivers of that profile, on that PID and for that page
abbrev pub compiling_for : ProfileName → ℕ → ℕ → Script → Compiling
compiling_for profile pid page script = record { profile = profile; pid = pid; page = page; script = script }

-- a receiver of its packets with that anchor
abbrev pub received_by : Compiling → ℕ → Reception
received_by compiling anchor = for_page compiling.profile compiling.pid compiling.page anchor

-- a profile that scripts are compiled for: packets are sent in it
abbrev pub IsCompiledFor : ProfileName → Type 0
IsCompiledFor name = IsSome (profile_of name).step

-- ---- its packets

-- the PES packets of display sets, those of each set together
abbrev pub AreUnitsOfSets : Script → ℕ → List PlannedSet → List (List (List ℕ)) → Type 0
AreUnitsOfSets script page sets units = AllZip (AreSetPackets script page) sets units

-- what sending each of these sets takes
abbrev pub AreLoads : Script → List PlannedSet → List WriteLoad → Type 0
AreLoads script sets loads = AllZip (IsSetLoad script) sets loads

-- the PES packets of all sets, in order
abbrev pub all_units : List (List (List ℕ)) → List (List ℕ)
all_units units = all_of units

-- how packets are sent: from the script's origin on, in the slots of the profile
abbrev pub sent_pace : ProfileName → Script → Pace
sent_pace profile script = pace_of script.origin (profile_of profile)

-- the sets of the script's plan, and what sending them takes
pub record IsPlanned (profile : ProfileName) (script : Script) (sets : List PlannedSet)
    (loads : List WriteLoad) : Type 0 where
  pub plan : IsPlan script (profile_of profile) sets
  pub asked : AreLoads script sets loads

-- the packets: those of the PES packets of the plan's sets, each of which can be scheduled, at the slots of their
-- schedule, and null packets at all slots between
pub record IsCompiledTo (compiling : Compiling) (packets : List ℕ) : Type 0 where
  pub sets : List PlannedSet
  pub loads : List WriteLoad
  pub planned : IsPlanned compiling.profile compiling.script sets loads
  pub each : All IsLoad loads
  pub units : List (List (List ℕ))
  pub carried : AreUnitsOfSets compiling.script compiling.page sets units
  pub sized : AreSizedAs loads units
  pub table : Timetable
  pub schedule : IsSchedule loads (length loads) (sent_pace compiling.profile compiling.script) table
  pub on_time : IsOnTime loads (length loads) (sent_pace compiling.profile compiling.script) table
  pub sent : packets ≡ stream_of compiling.pid (all_pieces (all_units units)) table.slots
