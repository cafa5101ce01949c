-- The status of a command that has no script.
use Rattle.std.specs.Prelude.{Bool}
use Rattle.script_input.specs.ReadScript.{IsInputEnd}
use Rattle.script_input.specs.declared.input_end.Input.{Input}
use Rattle.script_input.specs.declared.input_end.Input.TheVariants as input
use Rattle.script_input.specs.declared.input_end.InputEnd.{InputEnd}
use Rattle.script_input.specs.declared.input_end.InputEnd.TheVariants as end
use Rattle.sub_base.specs.Endpoints.{Supplied}
use Rattle.sub_base.specs.declared.status.Which.{Which}
use Rattle.sub_base.specs.declared.status.Which.TheVariants as which
use Rattle.dvbsub_cmd.specs.declared.status.Status.{Status}
use Rattle.dvbsub_cmd.specs.declared.status.Status.TheVariants as status

-- the script is in the first source, and the font in the second
abbrev pub source_of : Input → Which
source_of input.Script = which.First
source_of input.Font = which.Second

-- the status of a command whose inputs ended so
abbrev pub status_of_input : InputEnd → Status
status_of_input (end.FontRefused fault) = status.FontRefused fault
status_of_input (end.ScriptRefused fault) = status.ScriptRefused fault
status_of_input (end.Unread text) = status.ReadFault (source_of text)
status_of_input (end.TooLong text) = status.InputTooLong (source_of text)
status_of_input end.Memory = status.Memory

-- what holds of the text that is in a source, and nothing of a sink
abbrev pub OfText : (Input → Type 0) → Which → Type 0
OfText holds which.First = holds input.Script
OfText holds which.Second = holds input.Font
OfText holds which.Out = ⊥
OfText holds which.Notes = ⊥

-- why a command has no script: its inputs ended with this status
abbrev pub IsInputCause : Bool → Supplied → Supplied → Supplied → Supplied → Status → Type 0
IsInputCause has_font first_before first_now second_before second_now (status.FontRefused fault) =
    IsInputEnd has_font first_before first_now second_before second_now (end.FontRefused fault)
IsInputCause has_font first_before first_now second_before second_now (status.ScriptRefused fault) =
    IsInputEnd has_font first_before first_now second_before second_now (end.ScriptRefused fault)
IsInputCause has_font first_before first_now second_before second_now (status.ReadFault which) =
    OfText (λ text. IsInputEnd has_font first_before first_now second_before second_now (end.Unread text)) which
IsInputCause has_font first_before first_now second_before second_now (status.InputTooLong which) =
    OfText (λ text. IsInputEnd has_font first_before first_now second_before second_now (end.TooLong text)) which
IsInputCause has_font first_before first_now second_before second_now status.Memory =
    IsInputEnd has_font first_before first_now second_before second_now end.Memory
IsInputCause has_font first_before first_now second_before second_now other = ⊥
