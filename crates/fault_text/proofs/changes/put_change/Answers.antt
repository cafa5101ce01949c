use Rattle.std.proofs.Common.{Option, subst}
use Rattle.set_definitions.specs.declared.definition.Definition.{Definition}
use Rattle.fault_text.specs.Faulting.{PutsChange}
use Rattle.fault_text.proofs.ChangeLaws.{change_none}
use Rattle.fault_text.proofs.changes.put_change.Goals as goal

pub returns-in-None : goal.returns-in-None
returns-in-None g c =
    subst
    (λ (found : Option Definition). PutsChange found c.args.number c.args.pts c.args.stands c.args.stands
    (g.K.Sink.received c.args.out.now) (g.K.Sink.received c.args.out.now) c.args.known.now c.args.known.now
    c.args.buffer.now c.args.buffer.now) c.in-None.ensures.definition
    (change_none c.args.number c.args.pts c.args.stands _ c.args.known.now c.args.buffer.now)

pub returns-in-Some : goal.returns-in-Some
returns-in-Some g c =
    subst
    (λ (found : Option Definition). PutsChange found c.args.number c.args.pts c.args.stands c.put_definition.result
    (g.K.Sink.received c.args.out.now) (g.K.Sink.received c.put_definition.new.out) c.args.known.now
    c.put_definition.new.known c.args.buffer.now c.put_definition.new.buffer) c.in-Some.ensures.definition
    c.put_definition.ensures
