-- The sets of a script's plan that are sent for a receiver of some pages, whoever sends them.
use Rattle.std.specs.Prelude.{◌≡◌, ℕ, false, List, [], ◌∷◌, length, All}
use Rattle.std.specs.List.{AllZip}
use Rattle.sub_base.specs.Pace.{pace_of}
use Rattle.sub_base.specs.Profile.{profile_of}
use Rattle.sub_base.specs.declared.load.WriteLoad.{WriteLoad}
use Rattle.sub_base.specs.declared.profile.ProfileName.{ProfileName}
use Rattle.stream_syntax.specs.Segments.{SegmentValue, spelled, IsWritable}
use Rattle.stream_syntax.specs.declared.wire.TheConstants.{PAGE_COMPOSITION}
use Rattle.pes_packets.specs.Units.{IsSharedOut}
use Rattle.cue_list.specs.declared.script.Script.{Script}
use Rattle.page_epoch.specs.Plan.{IsPlan}
use Rattle.page_epoch.specs.declared.planned_set.PlannedSet.{PlannedSet}
use Rattle.schedule.specs.Slots.{Timetable}
use Rattle.decoder_model.specs.Frames.{is_of_page, only}
use Rattle.decoder_model.specs.declared.pages.Pages.{Pages}
use Rattle.decoder_model.specs.Received.{Reception, for_pages}
use Rattle.shown_plan.specs.NamedSets.{AreNamedSegments}
use Rattle.sent_sets.specs.RawSets.{RawSet, IsSendable, counted_in, EndsLast}
use Rattle.sent_sets.specs.SentStream.{IsSentTo}
use Rattle.shown_stream.specs.Compiled.{Compiling}

-- ---- what is sent

-- the sets of a script's plan are sent for receivers of a profile, on a PID and for the pages of a service, in the
-- slots of their schedule
pub record SentPlan : Type 0 where
  pub profile : ProfileName
  pub pid : ℕ
  pub pages : Pages
  pub script : Script
  pub sets : List PlannedSet
  pub table : Timetable

-- so they are sent where the script is compiled, by these sets and slots
abbrev pub sent_plan : Compiling → List PlannedSet → Timetable → SentPlan
sent_plan compiling sets table = record {
  profile = compiling.profile;
  pid = compiling.pid;
  pages = only compiling.page;
  script = compiling.script;
  sets = sets;
  table = table;
}

-- a receiver that they are sent for, with that anchor
abbrev pub received_with : SentPlan → ℕ → Reception
received_with sent anchor = for_pages sent.profile sent.pid sent.pages anchor

-- ---- in packets

-- the bytes are that segment, written for some page
abbrev pub IsWrittenAs : SegmentValue → List ℕ → Type 0
IsWrittenAs value bytes = (page : ℕ) × IsWritable page value × (bytes ≡ spelled page value)

-- a set as it is sent carries a set of the plan for these pages: at its time, its segments that count are those of the
-- set, with the numbers that it gives its objects
pub record CarriesSet (script : Script) (pages : Pages) (set : PlannedSet) (raw : RawSet) : Type 0 where
  pub time : raw.time ≡ set.pts
  pub values : List SegmentValue
  pub planned : AreNamedSegments script set values
  pub written : AllZip IsWrittenAs values (counted_in pages raw)

-- none of the segments is a page composition of the composition page
abbrev pub AreWithoutPage : Pages → List (List ℕ) → Type 0
AreWithoutPage pages segments =
    All (λ bytes. is_of_page (PAGE_COMPOSITION ∷ []) pages.composition bytes ≡ false) segments

-- the page stands in the first unit of the set: the later units have none
pub record HasPageFirst (pages : Pages) (set : RawSet) : Type 0 where
  pub later_without : (first : List (List ℕ)) (units : List (List (List ℕ)))
      → IsSharedOut length set.segments (first ∷ units)
      → All (AreWithoutPage pages) units

-- in these packets the sets of the plan are so sent
pub record IsSentPlan (sending : SentPlan) (packets : List ℕ) : Type 0 where
  pub plan : IsPlan sending.script (profile_of sending.profile) sending.sets
  pub raw : List RawSet
  pub loads : List WriteLoad
  pub sendable : All IsSendable raw
  pub ends : All (EndsLast sending.pages) raw
  pub sent : IsSentTo (pace_of sending.script.origin (profile_of sending.profile)) sending.pid raw loads sending.table
      packets
  pub carries : AllZip (CarriesSet sending.script sending.pages) sending.sets raw
  pub page_first : All (HasPageFirst sending.pages) raw
