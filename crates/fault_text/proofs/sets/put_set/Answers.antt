use Rattle.std.proofs.Common.{subst, sym}
use Rattle.decoder_model.specs.declared.set_end.SetEnd.{SetEnd}
use Rattle.fault_text.specs.Faulting.{PutsSet}
use Rattle.fault_text.proofs.LineLaws.{broken_put, later_put, waiting_put}
use Rattle.fault_text.proofs.sets.put_set.Goals as goal

pub returns-in-Shown : goal.returns-in-Shown
returns-in-Shown g c =
    subst
    (λ (end : SetEnd). PutsSet c.args.core.now c.args.bytes.now c.args.number c.args.pts end
    (g.K.Sink.received c.args.out.now) (g.K.Sink.received c.put_shown.new.out) c.args.known.now c.put_shown.new.known
    c.args.buffer.now c.put_shown.new.buffer) (sym c.in-Shown.is) c.put_shown.ensures

pub returns-in-Waiting : goal.returns-in-Waiting
returns-in-Waiting g c =
    subst
    (λ (end : SetEnd). PutsSet c.args.core.now c.args.bytes.now c.args.number c.args.pts end
    (g.K.Sink.received c.args.out.now) (g.K.Sink.received c.put_line.new.out) c.args.known.now c.forget.new.self
    c.args.buffer.now c.put_line.new.buffer) (sym c.in-Waiting.is)
    (waiting_put c.args.number c.args.pts c.args.core.now c.args.bytes.now _ _ c.args.buffer.now c.put_line.new.buffer
    c.args.known.now c.forget.new.self c.forget.ensures c.put_line.ensures)

pub returns-in-Broken : goal.returns-in-Broken
returns-in-Broken g c =
    subst
    (λ (end : SetEnd). PutsSet c.args.core.now c.args.bytes.now c.args.number c.args.pts end
    (g.K.Sink.received c.args.out.now) (g.K.Sink.received c.put_line-in-Broken.new.out) c.args.known.now
    c.forget-in-Broken.new.self c.args.buffer.now c.put_line-in-Broken.new.buffer) (sym c.in-Broken.is)
    (broken_put c.in-Broken.fault c.args.number c.args.pts c.args.core.now c.args.bytes.now _ _ c.args.buffer.now
    c.put_line-in-Broken.new.buffer c.args.known.now c.forget-in-Broken.new.self c.forget-in-Broken.ensures
    c.put_line-in-Broken.ensures)

pub returns-in-NotLater : goal.returns-in-NotLater
returns-in-NotLater g c =
    subst
    (λ (end : SetEnd). PutsSet c.args.core.now c.args.bytes.now c.args.number c.args.pts end
    (g.K.Sink.received c.args.out.now) (g.K.Sink.received c.put_line-in-NotLater.new.out) c.args.known.now
    c.args.known.now c.args.buffer.now c.put_line-in-NotLater.new.buffer) (sym c.in-NotLater.is)
    (later_put c.in-NotLater.last c.args.number c.args.pts c.args.core.now c.args.bytes.now _ _ c.args.buffer.now
    c.put_line-in-NotLater.new.buffer c.args.known.now c.put_line-in-NotLater.ensures)
