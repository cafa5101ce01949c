-- How a tool ends: the cause of each status, its line in the notes, and its code.
use Rattle.std.specs.Prelude.{◌≡◌, ℕ, ◌⊎◌, List, ◌∷◌, [], ◌++◌, Option, Some, None, codes}
use Rattle.std.specs.Io.KnownBytes.{Appends}
use Rattle.sub_base.specs.Counts.{HasRisen, HasRisenPast}
use Rattle.sub_base.specs.Endpoints.{AppendsPrefix, Received, WroteNothing}
use Rattle.sub_base.specs.Seen.{Seen}
use Rattle.sub_base.specs.Which.{which_name}
use Rattle.sub_base.specs.declared.status.ToolStatus.{ToolStatus}
use Rattle.sub_base.specs.declared.status.ToolStatus.TheVariants as tool
use Rattle.sub_base.specs.declared.status.Which.{Which}
use Rattle.sub_base.specs.declared.status.Which.TheVariants as which

-- ---- line and code

-- the text of a status; a fault is told by its name alone
abbrev pub tool_text : {F : Type 0} → (F → List ℕ) → ToolStatus F → List ℕ
tool_text name tool.Done = codes "done"
tool_text name tool.Usage = codes "usage"
tool_text name (tool.Refused fault) = codes "refused " ++ name fault
tool_text name (tool.ReadFault which) = codes "read " ++ which_name which
tool_text name (tool.WriteFault which) = codes "write " ++ which_name which
tool_text name tool.Memory = codes "memory"
tool_text name (tool.InputTooLong which) = codes "long " ++ which_name which

-- the line of a status
abbrev pub tool_line : {F : Type 0} → (F → List ℕ) → ToolStatus F → List ℕ
tool_line name status = tool_text name status ++ 10 ∷ []

-- the code with which the program ends
abbrev pub tool_code : {F : Type 0} → ToolStatus F → ℕ
tool_code tool.Done = 0
tool_code tool.Usage = 2
tool_code (tool.Refused fault) = 3
tool_code (tool.ReadFault which) = 5
tool_code (tool.WriteFault which) = 6
tool_code tool.Memory = 7
tool_code (tool.InputTooLong which) = 8

-- the answer where the line of a status could not be written: what was done whole is a write fault of the notes
abbrev pub untold_tool : {F : Type 0} → ToolStatus F → ToolStatus F
untold_tool tool.Done = tool.WriteFault which.Notes
untold_tool tool.Usage = tool.Usage
untold_tool (tool.Refused fault) = tool.Refused fault
untold_tool (tool.ReadFault which) = tool.ReadFault which
untold_tool (tool.WriteFault which) = tool.WriteFault which
untold_tool tool.Memory = tool.Memory
untold_tool (tool.InputTooLong which) = tool.InputTooLong which

-- the notes have received the line of the run's status; or a prefix of it, and their count of faults rose
abbrev pub TellsTool : {F : Type 0} → (F → List ℕ) → Received → Received → ToolStatus F → ToolStatus F
    → Type 0
TellsTool name before now run answer =
    (Appends before.written now.written (tool_line name run) × (answer ≡ run))
    ⊎ (AppendsPrefix before.written now.written (tool_line name run) × HasRisen before.faults now.faults
    × (answer ≡ untold_tool run))

-- ---- causes

-- what a tool says of its own statuses: when it is done, when it refuses what it read, what the output has received
-- where it was stopped (a fault of a source or sink, want of memory, an input that is too long), and the limit of its
-- inputs
pub record Causes (F : Type 0) : Type 1 where
  pub IsDone : Type 0
  pub IsRefused : F → Type 0
  pub IsStopped : Type 0
  pub limit : ℕ

-- a source that could not be read: its count of faults rose
abbrev pub IsUnread : Which → Seen → Seen → Type 0
IsUnread which.First before now = HasRisen before.first.faults now.first.faults
IsUnread which.Second before now = HasRisen before.second.faults now.second.faults
IsUnread which.Out before now = ⊥
IsUnread which.Notes before now = ⊥

-- a sink that could not be written: its count of faults rose
abbrev pub IsUnwritten : Which → Seen → Seen → Type 0
IsUnwritten which.First before now = ⊥
IsUnwritten which.Second before now = ⊥
IsUnwritten which.Out before now = HasRisen before.out.faults now.out.faults
IsUnwritten which.Notes before now = ⊥

-- a source that gave more than its limit
abbrev pub IsTooLong : Which → ℕ → Seen → Seen → Type 0
IsTooLong which.First limit before now = HasRisenPast limit before.first.given now.first.given
IsTooLong which.Second limit before now = HasRisenPast limit before.second.given now.second.given
IsTooLong which.Out limit before now = ⊥
IsTooLong which.Notes limit before now = ⊥

-- the cause of the status of a run, where the words are a command of the tool
abbrev pub IsToolCause : {F : Type 0} → Causes F → Seen → Seen → ToolStatus F → Type 0
IsToolCause causes before now tool.Done = causes.IsDone
IsToolCause causes before now tool.Usage = ⊥
IsToolCause causes before now (tool.Refused fault) = causes.IsRefused fault
IsToolCause causes before now (tool.ReadFault which) = IsUnread which before now × causes.IsStopped
IsToolCause causes before now (tool.WriteFault which) = IsUnwritten which before now × causes.IsStopped
IsToolCause causes before now tool.Memory = causes.IsStopped
IsToolCause causes before now (tool.InputTooLong which) = IsTooLong which causes.limit before now × causes.IsStopped

-- wrong words: `usage`, no source was called, and nothing was written
abbrev pub IsToolUsage : {F : Type 0} → Seen → Seen → ToolStatus F → Type 0
IsToolUsage before now answer =
    (answer ≡ tool.Usage) × (now.first ≡ before.first) × (now.second ≡ before.second)
    × WroteNothing before.out now.out

-- no count rose, no limit was passed and no condition of a refusal holds
pub record IsToolUntroubled (F : Type 0) (causes : Causes F) (before now : Seen)
    (notes_before notes_now : Received) : Type 0 where
  pub first_read : HasRisen before.first.faults now.first.faults → ⊥
  pub second_read : HasRisen before.second.faults now.second.faults → ⊥
  pub written : HasRisen before.out.faults now.out.faults → ⊥
  pub told : HasRisen notes_before.faults notes_now.faults → ⊥
  pub first_within : HasRisenPast causes.limit before.first.given now.first.given → ⊥
  pub second_within : HasRisenPast causes.limit before.second.given now.second.given → ⊥
  pub unrefused : (fault : F) → causes.IsRefused fault → ⊥

-- where nothing gives a cause of refusal, the tool is done, or memory is wanting
abbrev pub IsToolComplete : {F : Type 0} → Causes F → Seen → Seen → Received → Received → ToolStatus F
    → Type 0
IsToolComplete {F} causes before now notes_before notes_now answer =
    IsToolUntroubled F causes before now notes_before notes_now → (answer ≡ tool.Done) ⊎ (answer ≡ tool.Memory)

-- ---- a tool with its words read

-- the cause of the status of a run, by the command that the words are; words that are no command end with the usage
abbrev pub IsToolRun : {C F : Type 0} → (C → Seen → Seen → Causes F) → Option C → Seen → Seen
    → ToolStatus F → Type 0
IsToolRun causes None before now run = IsToolUsage before now run
IsToolRun causes (Some command) before now run = IsToolCause (causes command before now) before now run

-- the cause of the status that a tool answers, and its line in the notes
abbrev pub HasToolCause : {C F : Type 0} → (F → List ℕ) → (C → Seen → Seen → Causes F) → Option C
    → Seen → Seen
    → Received → Received → ToolStatus F → Type 0
HasToolCause {C} {F} name causes command before now notes_before notes_now answer =
    (run : ToolStatus F) × IsToolRun causes command before now run × TellsTool name notes_before notes_now run answer

-- a tool whose words are a command of it is done, or memory is wanting, where nothing gives a cause of refusal
abbrev pub IsToolWhole : {C F : Type 0} → (C → Seen → Seen → Causes F) → Option C → Seen → Seen
    → Received → Received → ToolStatus F → Type 0
IsToolWhole causes None before now notes_before notes_now answer = Unit {0}
IsToolWhole causes (Some command) before now notes_before notes_now answer =
    IsToolComplete (causes command before now) before now notes_before notes_now answer
