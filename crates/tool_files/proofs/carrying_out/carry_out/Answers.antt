use Rattle.std.proofs.Common.{subst}
use Rattle.tool_files.specs.Ends.{HasToolCode}
use Rattle.tool_files.proofs.EndLaws.{wrong_words}
use Rattle.tool_files.proofs.carrying_out.carry_out.Goals as goal

pub returns-in-Some-clause-usage : goal.returns-in-Some-clause-usage
returns-in-Some-clause-usage g c =
    wrong_words c.args.words.now c.carry_out_tool.result
    (subst (λ asked. HasToolCode asked c.args.words.now c.carry_out_tool.result) c.in-Some.ensures
    c.carry_out_tool.ensures)
