-- Why `expect` ended as it did, and what its output has received then.
use Rattle.std.specs.Prelude.{◌≡◌, ℕ, Bool, List}
use Rattle.std.specs.Io.KnownBytes.{Appends}
use Rattle.std.specs.List.{flat_map}
use Rattle.cue_list.specs.Authored.{authored_picture}
use Rattle.cue_list.specs.declared.script.Script.{Script}
use Rattle.sub_base.specs.Counts.{HasRisen}
use Rattle.sub_base.specs.Endpoints.{AppendsPrefix}
use Rattle.command_text.specs.PictureText.{picture_text}
use Rattle.dvbsub_cmd.specs.InputStatus.{IsInputCause}
use Rattle.script_input.specs.ReadScript.{ReadsScript, HasValidScript}
use Rattle.sub_base.specs.Endpoints.{WroteNothing}
use Rattle.sub_base.specs.Seen.{Seen}
use Rattle.dvbsub_cmd.specs.declared.status.Status.{Status}
use Rattle.dvbsub_cmd.specs.declared.status.Status.TheVariants as status
use Rattle.sub_base.specs.declared.status.Which.{Which}
use Rattle.sub_base.specs.declared.status.Which.TheVariants as which

-- the text of the authored picture of a script at a tick
abbrev pub authored_text : Script → ℕ → List ℕ
authored_text script tick =
    picture_text tick script.width script.height
    (authored_picture script.width script.height script.epochs script.pictures tick)

-- the texts at all asked ticks, in order
abbrev pub expect_text : Script → List ℕ → List ℕ
expect_text script ticks = flat_map (authored_text script) ticks

-- the script that was read, and the texts of its pictures
pub record Expects (has_font : Bool) (ticks : List ℕ) (before now : Seen) (text : List ℕ) : Type 0 where
  pub script : Script
  pub reads : ReadsScript has_font before.first now.first before.second now.second script
  pub whole : text ≡ expect_text script ticks

-- the output could not be written: it received a prefix of the texts, and its count of faults rose
abbrev pub IsCutOff : Bool → List ℕ → Seen → Seen → Which → Type 0
IsCutOff has_font ticks before now which.Out =
    (text : List ℕ) × Expects has_font ticks before now text × AppendsPrefix before.out.written now.out.written text
    × HasRisen before.out.faults now.out.faults
IsCutOff has_font ticks before now which.First = ⊥
IsCutOff has_font ticks before now which.Second = ⊥
IsCutOff has_font ticks before now which.Notes = ⊥

-- the cause of each status, and what the output has received then
abbrev pub IsExpectCause : Bool → List ℕ → Seen → Seen → Status → Type 0
IsExpectCause has_font ticks before now (status.Done cut) =
    (text : List ℕ) × Expects has_font ticks before now text × Appends before.out.written now.out.written text
    × (cut ≡ 0)
IsExpectCause has_font ticks before now status.Usage = ⊥
IsExpectCause has_font ticks before now (status.FontRefused fault) =
    IsInputCause has_font before.first now.first before.second now.second (status.FontRefused fault)
    × WroteNothing before.out now.out
IsExpectCause has_font ticks before now (status.ScriptRefused fault) =
    IsInputCause has_font before.first now.first before.second now.second (status.ScriptRefused fault)
    × WroteNothing before.out now.out
IsExpectCause has_font ticks before now (status.PlanRefused fault) = ⊥
IsExpectCause has_font ticks before now (status.ScheduleRefused row fault) = ⊥
IsExpectCause has_font ticks before now (status.StreamRefused packet fault) = ⊥
IsExpectCause has_font ticks before now (status.ReadFault which) =
    IsInputCause has_font before.first now.first before.second now.second (status.ReadFault which)
    × WroteNothing before.out now.out
IsExpectCause has_font ticks before now (status.WriteFault which) = IsCutOff has_font ticks before now which
IsExpectCause has_font ticks before now status.Memory = WroteNothing before.out now.out
IsExpectCause has_font ticks before now (status.InputTooLong which) =
    IsInputCause has_font before.first now.first before.second now.second (status.InputTooLong which)
    × WroteNothing before.out now.out

-- nothing stops the command: its inputs are valid
abbrev pub IsExpectable : Bool → Seen → Seen → Type 0
IsExpectable has_font before now =
    HasValidScript has_font before.first now.first before.second now.second (λ script. Unit {0})
