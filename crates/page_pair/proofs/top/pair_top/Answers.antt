use Rattle.command_text.proofs.ToolLaws.{tool_whole}
use Rattle.command_words.specs.Ticks.{asked_ticks}
use Rattle.page_pair.proofs.EndLaws.{answer_kept, answer_told}
use Rattle.page_pair.specs.PairOutcome.{pair_fault_name}
use Rattle.page_pair.specs.PairTop.{pair_command, tool_causes}
use Rattle.page_pair.proofs.top.pair_top.Goals as goal

pub returns-clause-complete : goal.returns-clause-complete
returns-clause-complete g c =
    tool_whole pair_fault_name (tool_causes c.args.words.now) (pair_command c.args.words.now) _ _ _ _ _ _
    c.run-status.ensures.cause c.tell_tool.ensures

pub returns-clause-kept : goal.returns-clause-kept
returns-clause-kept g c =
    answer_kept (pair_command c.args.words.now) _ _ pair_fault_name _ _ _ _ c.run-status.ensures.kept
    c.tell_tool.ensures

pub returns-clause-told : goal.returns-clause-told
returns-clause-told g c =
    answer_told (asked_ticks 8 c.args.words.now) (pair_command c.args.words.now) _ _ pair_fault_name _ _ _ _
    c.run-status.ensures.told c.tell_tool.ensures
