use Rattle.std.proofs.Common.{◌∙◌, sym}
use Rattle.command_text.proofs.CloseLaws.{closed_failed, closed_whole}
use Rattle.command_text.proofs.told.close_tool.Goals as goal

pub returns-then-has_failed : goal.returns-then-has_failed
returns-then-has_failed g c =
    closed_failed _ _ _ _ _ c.flush.ensures.puts (sym c.has_failed.ensures ∙ c.if-has_failed.true)

pub returns-else-has_failed : goal.returns-else-has_failed
returns-else-has_failed g c =
    let well = sym c.has_failed.ensures ∙ c.if-has_failed.false in
    closed_whole _ _ _ _ _ c.flush.ensures.puts well (c.flush.ensures.empty well)
