use Rattle.command_text.proofs.ToolLaws.{tool_whole}
use Rattle.service_mux.specs.MuxOutcome.{mux_causes, mux_fault_name}
use Rattle.service_mux.specs.MuxWords.{mux_words}
use Rattle.service_mux.proofs.mux.mux_top.Goals as goal

pub returns-clause-cause : goal.returns-clause-cause
returns-clause-cause g c = (c.run-status.result, c.run-status.ensures, c.tell_tool.ensures)

pub returns-clause-complete : goal.returns-clause-complete
returns-clause-complete g c =
    tool_whole mux_fault_name mux_causes (mux_words c.args.words.now) _ _ _ _ _ _ c.run-status.ensures
    c.tell_tool.ensures
