-- The end of the packets.
use Rattle.std.proofs.Common.{◌∙◌, Bool, List, sym, subst}
use Rattle.level_text.specs.Clocking.{Clocking, FinishesClocked}
use Rattle.level_text.specs.Held.{IsRun}
use Rattle.level_text.specs.declared.held.HeldPacket.{HeldPacket}
use Rattle.level_text.proofs.ClockLaws.{all_finished}
use Rattle.level_text.proofs.clock_levels.ClockLevels.finish.Goals as goal

pub returns : goal.returns
returns g c =
    let own : Clocking = record {
      meter = c.self.inside.meter;
      held = c.self.inside.held.items;
      last = c.self.inside.last;
      since = c.self.inside.since;
      waiting = c.self.inside.waiting;
    } in
    subst (λ (wanting : Bool). FinishesClocked c.args.ended (g.K.Sink.received c.args.out.now)
    (g.K.Sink.received c.finish.new.out) c.args.self wanting c.args.buffer.now c.finish.new.buffer)
    (sym c.is_wanting.ensures)
    (subst (λ (clocking : Clocking). FinishesClocked c.args.ended (g.K.Sink.received c.args.out.now)
    (g.K.Sink.received c.finish.new.out) clocking c.finish.new.self.is_wanting c.args.buffer.now c.finish.new.buffer)
    c.self.view_is
    (all_finished c.args.ended (g.K.Sink.received c.args.out.now) (g.K.Sink.received c.take_run.new.out)
    (g.K.Sink.received c.finish.new.out) own c.take_run.new.self c.finish.new.self c.args.buffer.now
    c.take_run.new.buffer c.finish.new.buffer (c.finish.ensures.asked ∙ c.take_run.ensures.asked)
    (λ packets of_run. c.take_run.ensures.told packets
    (subst (λ (held : List HeldPacket). IsRun own.meter.asked.pid own.since own.waiting held packets)
    (sym c.deref.ensures.value) of_run))
    c.finish.ensures.told))
