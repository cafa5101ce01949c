-- Why `compile` ended as it did, what its output has received then, and what receivers show of it.
use Rattle.std.specs.Prelude.{◌≡◌, ℕ, Bool, List}
use Rattle.std.specs.Io.KnownBytes.{Appends}
use Rattle.cue_list.specs.declared.script.Script.{Script}
use Rattle.script_input.specs.ReadScript.{ReadsScript, HasValidScript}
use Rattle.script_stream.specs.Refused.{IsPlanRefused, IsSchedulable, IsScheduleRefused}
use Rattle.script_stream.specs.ShownRightly.{IsShownRightly}
use Rattle.shown_stream.specs.Compiled.{IsCompiledTo, compiling_for}
use Rattle.sub_base.specs.Counts.{HasRisen}
use Rattle.sub_base.specs.Endpoints.{AppendsPrefix, WroteNothing}
use Rattle.sub_base.specs.Seen.{Seen}
use Rattle.sub_base.specs.declared.profile.ProfileName.{ProfileName}
use Rattle.sub_base.specs.declared.status.Which.{Which}
use Rattle.sub_base.specs.declared.status.Which.TheVariants as which
use Rattle.dvbsub_cmd.specs.InputStatus.{IsInputCause}
use Rattle.dvbsub_cmd.specs.declared.status.Status.{Status}
use Rattle.dvbsub_cmd.specs.declared.status.Status.TheVariants as status

-- the script that was read, the packets that it is compiled to, and what receivers show of these packets: behind
-- whatever number of them a receiver enters it shows what the script authors from its entry set on, and whatever it
-- loses it shows that at every good tick; its page memory holds the script, and its buffer what comes
pub record Compiles (profile : ProfileName) (pid page : ℕ) (has_font : Bool) (before now : Seen)
    (packets : List ℕ) : Type 0 where
  pub script : Script
  pub reads : ReadsScript has_font before.first now.first before.second now.second script
  pub compiled : IsCompiledTo (compiling_for profile pid page script) packets
  pub shown : IsShownRightly (compiling_for profile pid page script) compiled.sets compiled.loads compiled.table packets

-- the output has received the packets of the script that was read
pub record ShowsScript (profile : ProfileName) (pid page : ℕ) (has_font : Bool) (before now : Seen) : Type 0 where
  pub packets : List ℕ
  pub compiles : Compiles profile pid page has_font before now packets
  pub written : Appends before.out.written now.out.written packets

-- the output could not be written: it received a prefix of the packets, and its count of faults rose
abbrev pub IsCutOff : ProfileName → ℕ → ℕ → Bool → Seen → Seen → Which → Type 0
IsCutOff profile pid page has_font before now which.Out =
    (packets : List ℕ) × Compiles profile pid page has_font before now packets
    × AppendsPrefix before.out.written now.out.written packets × HasRisen before.out.faults now.out.faults
IsCutOff profile pid page has_font before now which.First = ⊥
IsCutOff profile pid page has_font before now which.Second = ⊥
IsCutOff profile pid page has_font before now which.Notes = ⊥

-- the cause of each status, and what the output has received then
abbrev pub IsCompileCause : ProfileName → ℕ → ℕ → Bool → Seen → Seen → Status → Type 0
IsCompileCause profile pid page has_font before now (status.Done cut) =
    ShowsScript profile pid page has_font before now × (cut ≡ 0)
IsCompileCause profile pid page has_font before now status.Usage = ⊥
IsCompileCause profile pid page has_font before now (status.FontRefused fault) =
    IsInputCause has_font before.first now.first before.second now.second (status.FontRefused fault)
    × WroteNothing before.out now.out
IsCompileCause profile pid page has_font before now (status.ScriptRefused fault) =
    IsInputCause has_font before.first now.first before.second now.second (status.ScriptRefused fault)
    × WroteNothing before.out now.out
IsCompileCause profile pid page has_font before now (status.PlanRefused fault) =
    (script : Script) × ReadsScript has_font before.first now.first before.second now.second script
    × IsPlanRefused profile script fault × WroteNothing before.out now.out
IsCompileCause profile pid page has_font before now (status.ScheduleRefused row fault) =
    (script : Script) × ReadsScript has_font before.first now.first before.second now.second script
    × IsScheduleRefused profile script row fault × WroteNothing before.out now.out
IsCompileCause profile pid page has_font before now (status.StreamRefused packet fault) = ⊥
IsCompileCause profile pid page has_font before now (status.ReadFault which) =
    IsInputCause has_font before.first now.first before.second now.second (status.ReadFault which)
    × WroteNothing before.out now.out
IsCompileCause profile pid page has_font before now (status.WriteFault which) =
    IsCutOff profile pid page has_font before now which
IsCompileCause profile pid page has_font before now status.Memory = WroteNothing before.out now.out
IsCompileCause profile pid page has_font before now (status.InputTooLong which) =
    IsInputCause has_font before.first now.first before.second now.second (status.InputTooLong which)
    × WroteNothing before.out now.out

-- nothing stops the command: its inputs are valid, and neither plan nor schedule refuses the script
abbrev pub IsCompilable : ProfileName → Bool → Seen → Seen → Type 0
IsCompilable profile has_font before now =
    HasValidScript has_font before.first now.first before.second now.second (IsSchedulable profile)
