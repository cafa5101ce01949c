-- How a tool ends, once its output has taken the place of what was there or has been given up.
use Rattle.std.specs.Prelude.{◌≡◌, Bool, ◌&&◌, not, if◌then◌else◌}
use Rattle.program_files.specs.Keeping.{is_kept}
use Rattle.program_files.specs.declared.keeping.OutputKind.TheVariants as output
use Rattle.sub_base.specs.ToolOutcome.{tool_code}
use Rattle.sub_base.specs.declared.status.ToolStatus.{ToolStatus}
use Rattle.sub_base.specs.declared.status.ToolStatus.TheVariants as tool
use Rattle.sub_base.specs.declared.status.Which.TheVariants as which

-- the output could not take the place of what was there
abbrev pub unkept : {F : Type 0} → ToolStatus F
unkept = tool.WriteFault which.Out

-- a tool ends with its status; where its output was to be kept with that status and could not be finished, with
-- `write out`
abbrev pub IsToolEnding : {F : Type 0} → Bool → Bool → ToolStatus F → ToolStatus F → Type 0
IsToolEnding has_written is_finished status ending =
    ending ≡ (if is_kept output.Tool has_written (tool_code status) && not is_finished then unkept else status)
