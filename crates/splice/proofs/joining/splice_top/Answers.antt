use Rattle.command_text.proofs.ToolLaws.{tool_whole}
use Rattle.splice.specs.SpliceOutcome.{splice_causes, splice_fault_name}
use Rattle.splice.specs.SpliceWords.{splice_words}
use Rattle.splice.proofs.TopLaws.{told_leaves}
use Rattle.splice.proofs.joining.splice_top.Goals as goal

pub returns-clause-cause : goal.returns-clause-cause
returns-clause-cause g c = (c.run-status.result, c.run-status.ensures.cause, c.tell_tool.ensures)

pub returns-clause-complete : goal.returns-clause-complete
returns-clause-complete g c =
    tool_whole splice_fault_name splice_causes (splice_words c.args.words.now) _ _ _ _ _ _ c.run-status.ensures.cause
    c.tell_tool.ensures

pub returns-clause-nothing : goal.returns-clause-nothing
returns-clause-nothing g c =
    told_leaves splice_fault_name (g.K.Sink.received c.args.out.now) (g.K.Sink.received c.run-status.new.out)
    (g.N.Sink.received c.args.notes.now) (g.N.Sink.received c.tell_tool.new.notes) c.run-status.result
    c.tell_tool.result c.run-status.ensures.nothing c.tell_tool.ensures
