-- How a tool ends once what waits is written.
use Rattle.std.specs.Prelude.{◌≡◌, ℕ, List, ◌⊎◌}
use Rattle.std.specs.Io.KnownBytes.{Appends}
use Rattle.sub_base.specs.Counts.{HasRisen}
use Rattle.sub_base.specs.Endpoints.{AppendsPrefix, Received}
use Rattle.sub_base.specs.declared.status.ToolStatus.{ToolStatus}
use Rattle.sub_base.specs.declared.status.ToolStatus.TheVariants as tool
use Rattle.sub_base.specs.declared.status.Which.TheVariants as which
use Rattle.command_text.specs.Putting.{Buffered, IsPutOut}

-- what was put out since a start was written whole, and the answer is the status of the run; or the sink has received a
-- prefix of it, its count of faults rose, and the answer says so
abbrev pub Closes : {F : Type 0} → Received → Received → Buffered → ToolStatus F → ToolStatus F → Type 0
Closes before now buffer run answer = (start : Received) (text : List ℕ) → IsPutOut start before buffer text
    → ((answer ≡ run) × Appends start.written now.written text)
    ⊎ ((answer ≡ tool.WriteFault which.Out) × AppendsPrefix start.written now.written text
    × HasRisen start.faults now.faults)
