use Rattle.std.proofs.Common.{sym, subst}
use Rattle.packet_walk.specs.Closing.{FinishesTold}
use Rattle.packet_walk.specs.declared.walk.WalkEnd.TheVariants as end
use Rattle.service_text.specs.Telling.{HasTakenStream}
use Rattle.stream_report.specs.PidsOutcome.{tells_pids}
use Rattle.stream_report.proofs.PidsLaws.{text_put, text_unput}
use Rattle.stream_report.proofs.pids_tool.finish.Goals as goal

pub returns-in-Stream : goal.returns-in-Stream
returns-in-Stream g c =
    subst (FinishesTold (HasTakenStream c.args.teller.now) tells_pids (g.K.Sink.received c.args.out.now)
    (g.K.Sink.received c.put_text.new.out) c.args.buffer.now c.put_text.new.buffer) (sym c.in-Stream.is)
    (text_put c.args.teller.now _ _ c.args.buffer.now c.put_text.new.buffer (end.Stream c.in-Stream.field-0) tt
    c.put_text.ensures)

pub returns-in-Refused : goal.returns-in-Refused
returns-in-Refused g c =
    subst (FinishesTold (HasTakenStream c.args.teller.now) tells_pids (g.K.Sink.received c.args.out.now)
    (g.K.Sink.received c.put_text-in-Refused.new.out) c.args.buffer.now c.put_text-in-Refused.new.buffer)
    (sym c.in-Refused.is)
    (text_put c.args.teller.now _ _ c.args.buffer.now c.put_text-in-Refused.new.buffer
    (end.Refused c.in-Refused.field-0) tt c.put_text-in-Refused.ensures)

pub returns-in-Unwritten : goal.returns-in-Unwritten
returns-in-Unwritten g c =
    subst (FinishesTold (HasTakenStream c.args.teller.now) tells_pids (g.K.Sink.received c.args.out.now)
    (g.K.Sink.received c.args.out.now) c.args.buffer.now c.args.buffer.now) (sym c.in-Unwritten.is)
    (text_unput c.args.teller.now c.requires _ c.args.buffer.now)
