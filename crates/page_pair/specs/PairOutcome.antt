-- How `pair` ends: when it is done, what it refuses, what a receiver of each page shows, and what the output has.
use Rattle.std.specs.Prelude.{◌≡◌, ◌≢◌, ℕ, ◌+◌, ◌<◌, ◌≤◌, ◌⊎◌, false, List, length, All, codes}
use Rattle.std.specs.List.{concat}
use Rattle.std.specs.Io.KnownBytes.{Appends}
use Rattle.sub_base.specs.Endpoints.{AppendsPrefix, Supplied, WroteNothing}
use Rattle.sub_base.specs.Pace.{pace_of}
use Rattle.sub_base.specs.Profile.{profile_of}
use Rattle.sub_base.specs.Seen.{Seen}
use Rattle.sub_base.specs.ToolOutcome.{Causes}
use Rattle.sub_base.specs.declared.load.TheConstants.{UNIT_ROOM}
use Rattle.sub_base.specs.declared.load.WriteLoad.{WriteLoad}
use Rattle.sub_base.specs.declared.profile.ProfileName.{ProfileName}
use Rattle.cue_records.specs.declared.limits.TheConstants.{LONGEST_SCRIPT}
use Rattle.cue_list.specs.declared.script.Script.{Script}
use Rattle.decoder_model.specs.declared.pages.Pages.{Pages}
use Rattle.page_epoch.specs.Plan.{IsPlan}
use Rattle.page_epoch.specs.declared.planned_set.PlannedSet.{PlannedSet}
use Rattle.schedule.specs.Refusals.{IsScheduleCause}
use Rattle.schedule.specs.Slots.{IsLoad, Timetable}
use Rattle.schedule.specs.declared.fault.ScheduleFault.{ScheduleFault}
use Rattle.script_input.specs.ReadScript.{IsScriptRefused, ReadsScript, text_limit}
use Rattle.script_stream.specs.Refused.{IsPlanRefused, IsRowOf}
use Rattle.shown_stream.specs.Entered.{IsEnteredRightly}
use Rattle.shown_stream.specs.SentPlan.{SentPlan}
use Rattle.shown_stream.specs.SentSets.{sent_sets, first_times_from, times_from}
use Rattle.shown_stream.specs.Shows.{IsAnchorOf}
use Rattle.stream_syntax.specs.declared.wire.TheConstants.{TIME_ROUND}
use Rattle.page_pair.specs.PairSets.{Paged, segments_size}
use Rattle.page_pair.specs.PairStream.{ArePairLoads, ArePairPlans, ArePairSets, HaveEqualHeads, IsOtherHead, IsPairedTo, IsPairTooLong, IsUneven}
use Rattle.page_pair.specs.declared.pages.TwoPages.{TwoPages}
use Rattle.page_pair.specs.declared.pair_words.Pairing.{Pairing}
use Rattle.page_pair.specs.declared.pair_fault.PairFault.{PairFault}
use Rattle.page_pair.specs.declared.pair_fault.PairFault.TheVariants as pair

-- ---- pages

-- the pages of a receiver of the first language: its composition page, and the ancillary page that both use
abbrev pub first_pages : TwoPages → Pages
first_pages pages = record { composition = pages.first; ancillary = pages.shared }

-- the pages of a receiver of the second language: its composition page, and the ancillary page that both use
abbrev pub second_pages : TwoPages → Pages
second_pages pages = record { composition = pages.second; ancillary = pages.shared }

-- how the sets of the first script's plan are sent
abbrev pub first_sent : Pairing → Script → List PlannedSet → Timetable → SentPlan
first_sent pairing script sets table = record {
  profile = pairing.profile;
  pid = pairing.pid;
  pages = first_pages pairing.pages;
  script = script;
  sets = sets;
  table = table;
}

-- how the sets of the second script's plan are sent
abbrev pub second_sent : Pairing → Script → List PlannedSet → Timetable → SentPlan
second_sent pairing script sets table = record {
  profile = pairing.profile;
  pid = pairing.pid;
  pages = second_pages pairing.pages;
  script = script;
  sets = sets;
  table = table;
}

-- the three pages differ
pub record ArePagesApart (pages : TwoPages) : Type 0 where
  pub composition : pages.first ≢ pages.second
  pub first_shared : pages.first ≢ pages.shared
  pub second_shared : pages.second ≢ pages.shared

-- ---- scripts

-- the source was read to its end and is this script, in the font without glyphs. No font is named, so no second source
-- of it is looked at
abbrev pub ReadsPlainScript : Supplied → Supplied → Script → Type 0
ReadsPlainScript before now script = ReadsScript false before now before now script

-- both scripts were read
pub record AreScriptsRead (before now : Seen) (first second : Script) : Type 0 where
  pub read_first : ReadsPlainScript before.first now.first first
  pub read_second : ReadsPlainScript before.second now.second second

-- ---- done

-- Wherever a receiver that the sets of a plan are sent for enters, each anchor that is no later than the script's
-- origin, and less than 2 to the 33 ticks before the end of the longest script, as the origin itself is, suits the sets
-- of which packets come, and those up to the first that comes whole.
pub record AreSuited (sent : SentPlan) : Type 0 where
  pub suits : (missed anchor : ℕ) → anchor ≤ sent.script.origin
      → sent.script.origin + LONGEST_SCRIPT < anchor + TIME_ROUND
      → IsAnchorOf (times_from missed (sent_sets sent.table sent.sets)) anchor
  pub first_suits : (missed anchor : ℕ) → anchor ≤ sent.script.origin
      → sent.script.origin + LONGEST_SCRIPT < anchor + TIME_ROUND
      → IsAnchorOf (first_times_from missed (sent_sets sent.table sent.sets)) anchor

-- Both scripts were read and are sent in the packets that were written; and a receiver of each page shows what its
-- script authors, wherever it enters, with any anchor that suits the sets of its script's plan; and there are such
-- anchors.
pub record IsPaired (pairing : Pairing) (before now : Seen) : Type 0 where
  pub first : Script
  pub second : Script
  pub read : AreScriptsRead before now first second
  pub packets : List (List ℕ)
  pub whole : All (λ packet. length packet ≡ 188) packets
  pub paired : IsPairedTo pairing first second (concat packets)
  pub written : Appends before.out.written now.out.written (concat packets)
  pub first_shown : (missed : ℕ)
      → IsEnteredRightly (first_sent pairing first paired.one paired.table) packets
      missed
  pub second_shown : (missed : ℕ) → IsEnteredRightly (second_sent pairing second paired.two paired.table)
      packets missed
  pub first_suited : AreSuited (first_sent pairing first paired.one paired.table)
  pub second_suited : AreSuited (second_sent pairing second paired.two paired.table)

-- ---- refused

-- the plans are even and all their sets have room; the schedule refuses the loads of their sets for this reason, at the
-- set that the record of the first script brings
pub record IsPairScheduleRefused (profile : ProfileName) (pages : TwoPages) (first second : Script) (row : ℕ)
    (fault : ScheduleFault) : Type 0 where
  pub one : List PlannedSet
  pub two : List PlannedSet
  pub plans : ArePairPlans profile first second one two
  pub segments : List (List Paged)
  pub paired : ArePairSets pages first second one two segments
  pub short : All (λ of_set. segments_size of_set ≤ UNIT_ROOM) segments
  pub loads : List WriteLoad
  pub asked : ArePairLoads first second one two segments loads
  pub each : All IsLoad loads
  pub cause : IsScheduleCause loads (pace_of first.origin (profile_of profile)) fault
  pub row_is : IsRowOf one fault row

-- why two scripts that were read are not sent: each reason where those before it do not hold
abbrev pub IsUnsendable : ProfileName → TwoPages → Script → Script → PairFault → Type 0
IsUnsendable profile pages first second (pair.FirstScript fault) = ⊥
IsUnsendable profile pages first second (pair.SecondScript fault) = ⊥
IsUnsendable profile pages first second (pair.Heads row) = IsOtherHead first second row
IsUnsendable profile pages first second (pair.FirstPlan fault) =
    HaveEqualHeads first second × IsPlanRefused profile first fault
IsUnsendable profile pages first second (pair.SecondPlan fault) =
    HaveEqualHeads first second × (one : List PlannedSet) × IsPlan first (profile_of profile) one
    × IsPlanRefused profile second fault
IsUnsendable profile pages first second (pair.Uneven place) =
    HaveEqualHeads first second × (one : List PlannedSet) × IsPlan first (profile_of profile) one
    × (two : List PlannedSet) × IsPlan second (profile_of profile) two × IsUneven one two place
IsUnsendable profile pages first second (pair.TooLong place size) =
    (one : List PlannedSet) × (two : List PlannedSet) × ArePairPlans profile first second one two
    × IsPairTooLong pages first second one two place size
IsUnsendable profile pages first second (pair.Schedule row fault) =
    IsPairScheduleRefused profile pages first second row fault
IsUnsendable profile pages first second (pair.Stream packet fault) = ⊥

-- both scripts were read, and are not sent for this reason
abbrev pub IsRefusedBehind : ProfileName → TwoPages → Seen → Seen → PairFault → Type 0
IsRefusedBehind profile pages before now fault =
    (first : Script) × (second : Script) × AreScriptsRead before now first second
    × IsUnsendable profile pages first second fault

-- why the scripts are refused: the first is none, or the second is none and the first is valid, or they are not sent
abbrev pub IsPairRefused : ProfileName → TwoPages → Seen → Seen → PairFault → Type 0
IsPairRefused profile pages before now (pair.FirstScript fault) =
    IsScriptRefused false before.first now.first before.first now.first fault
IsPairRefused profile pages before now (pair.SecondScript fault) =
    IsScriptRefused false before.second now.second before.second now.second fault
    × (first : Script) × ReadsPlainScript before.first now.first first
IsPairRefused profile pages before now (pair.Heads row) = IsRefusedBehind profile pages before now (pair.Heads row)
IsPairRefused profile pages before now (pair.FirstPlan fault) =
    IsRefusedBehind profile pages before now (pair.FirstPlan fault)
IsPairRefused profile pages before now (pair.SecondPlan fault) =
    IsRefusedBehind profile pages before now (pair.SecondPlan fault)
IsPairRefused profile pages before now (pair.Uneven place) =
    IsRefusedBehind profile pages before now (pair.Uneven place)
IsPairRefused profile pages before now (pair.TooLong place size) =
    IsRefusedBehind profile pages before now (pair.TooLong place size)
IsPairRefused profile pages before now (pair.Schedule row fault) =
    IsRefusedBehind profile pages before now (pair.Schedule row fault)
IsPairRefused profile pages before now (pair.Stream packet fault) = ⊥

-- ---- stopped

-- nothing was written, or a prefix of the packets of both scripts
abbrev pub IsPairStopped : Pairing → Seen → Seen → Type 0
IsPairStopped pairing before now =
    WroteNothing before.out now.out
    ⊎ ((first : Script) × (second : Script) × AreScriptsRead before now first second × (packets : List ℕ)
    × IsPairedTo pairing first second packets
    × AppendsPrefix before.out.written now.out.written packets)

-- the causes of the statuses of `pair`
abbrev pub pair_causes : Pairing → Seen → Seen → Causes PairFault
pair_causes pairing before now = record {
  IsDone = IsPaired pairing before now;
  IsRefused = λ fault.
      IsPairRefused pairing.profile pairing.pages before now fault × WroteNothing before.out now.out;
  IsStopped = IsPairStopped pairing before now;
  limit = text_limit;
}

-- the name of a fault
abbrev pub pair_fault_name : PairFault → List ℕ
pair_fault_name (pair.FirstScript fault) = codes "FirstScript"
pair_fault_name (pair.SecondScript fault) = codes "SecondScript"
pair_fault_name (pair.Heads row) = codes "Heads"
pair_fault_name (pair.FirstPlan fault) = codes "FirstPlan"
pair_fault_name (pair.SecondPlan fault) = codes "SecondPlan"
pair_fault_name (pair.Uneven set) = codes "Uneven"
pair_fault_name (pair.TooLong set size) = codes "TooLong"
pair_fault_name (pair.Schedule row fault) = codes "Schedule"
pair_fault_name (pair.Stream packet fault) = codes "Stream"
