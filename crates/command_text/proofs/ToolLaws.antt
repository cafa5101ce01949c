-- Where nothing gives a cause of refusal, a tool is done, or memory is wanting; whatever the tool is.
use Rattle.std.proofs.Common.{◌≡◌, ◌⊎◌, inl, inr, ℕ, List, Option, Some, None, refl, sym, subst}
use Rattle.sub_base.specs.Endpoints.{Received}
use Rattle.sub_base.specs.Seen.{Seen}
use Rattle.sub_base.specs.ToolOutcome.{Causes, IsToolCause, IsToolComplete, IsToolRun, IsToolUntroubled, IsToolWhole, TellsTool}
use Rattle.sub_base.specs.declared.status.ToolStatus.{ToolStatus}
use Rattle.sub_base.specs.declared.status.ToolStatus.TheVariants as tool
use Rattle.sub_base.specs.declared.status.Which.TheVariants as which

module _ (F : Type 0) (causes : Causes F) (before now : Seen) (notes_before notes_now : Received) where
  abbrev pub IsWhole : ToolStatus F → Type 0
  IsWhole status = (status ≡ tool.Done) ⊎ (status ≡ tool.Memory)

  untroubled : (run : ToolStatus F) → IsToolCause causes before now run
      → IsToolUntroubled F causes before now notes_before notes_now → IsWhole run
  untroubled tool.Done cause calm = inl refl
  untroubled tool.Usage cause calm = absurd cause
  untroubled (tool.Refused fault) cause calm = absurd (calm.unrefused fault cause)
  untroubled (tool.ReadFault which.First) cause calm = absurd (calm.first_read cause.0)
  untroubled (tool.ReadFault which.Second) cause calm = absurd (calm.second_read cause.0)
  untroubled (tool.ReadFault which.Out) cause calm = absurd cause.0
  untroubled (tool.ReadFault which.Notes) cause calm = absurd cause.0
  untroubled (tool.WriteFault which.First) cause calm = absurd cause.0
  untroubled (tool.WriteFault which.Second) cause calm = absurd cause.0
  untroubled (tool.WriteFault which.Out) cause calm = absurd (calm.written cause.0)
  untroubled (tool.WriteFault which.Notes) cause calm = absurd cause.0
  untroubled tool.Memory cause calm = inr refl
  untroubled (tool.InputTooLong which.First) cause calm = absurd (calm.first_within cause.0)
  untroubled (tool.InputTooLong which.Second) cause calm = absurd (calm.second_within cause.0)
  untroubled (tool.InputTooLong which.Out) cause calm = absurd cause.0
  untroubled (tool.InputTooLong which.Notes) cause calm = absurd cause.0

  pub tool_complete : (name : F → List ℕ) (run answer : ToolStatus F) → IsToolCause causes before now run
      → TellsTool name notes_before notes_now run answer
      → IsToolComplete causes before now notes_before notes_now answer
  tool_complete name run answer cause (inl line) = λ calm. subst IsWhole (sym line.1) (untroubled run cause calm)
  tool_complete name run answer cause (inr front) = λ calm. absurd (calm.told front.1)

-- by the command that the words are
pub tool_whole : {C F : Type 0} (name : F → List ℕ) (causes : C → Seen → Seen → Causes F) (command : Option C)
    (before now : Seen) (notes_before notes_now : Received) (run answer : ToolStatus F)
    → IsToolRun causes command before now run → TellsTool name notes_before notes_now run answer
    → IsToolWhole causes command before now notes_before notes_now answer
tool_whole name causes None before now notes_before notes_now run answer cause tells = tt
tool_whole {C} {F} name causes (Some command) before now notes_before notes_now run answer cause tells =
    tool_complete F (causes command before now) before now notes_before notes_now name run answer cause tells
