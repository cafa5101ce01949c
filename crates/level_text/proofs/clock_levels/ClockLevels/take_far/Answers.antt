-- A packet that is too far behind the last sample.
use Rattle.std.proofs.Common.{◌+◌, ◌≤◌, List, None, sym, subst, arith}
use Rattle.pcr_clock.specs.declared.arrival.TheConstants.{MOST_BETWEEN}
use Rattle.level_text.specs.Clocking.{Clocking, TakesSampled}
use Rattle.level_text.specs.Held.{IsRun}
use Rattle.level_text.specs.declared.held.HeldPacket.{HeldPacket}
use Rattle.level_text.proofs.ClockLaws.{far_as}
use Rattle.level_text.proofs.clock_levels.ClockLevels.take_far.Goals as goal

pub returns-clause-told : goal.returns-clause-told
returns-clause-told g c =
    let own : Clocking = record {
      meter = c.self.inside.meter;
      held = c.self.inside.held.items;
      last = c.self.inside.last;
      since = c.self.inside.since;
      waiting = c.self.inside.waiting;
    } in
    subst (λ (old : Clocking). TakesSampled (g.K.Sink.received c.args.out.now) (g.K.Sink.received c.take.new.out) old
    (record {
      meter = c.take.new.self;
      held = c.clear.new.self.items;
      last = c.self.inside.last;
      since = c.self.inside.since + (c.self.inside.waiting + 1);
      waiting = 0;
    })
    c.args.buffer.now c.take.new.buffer None c.args.packet.now) c.self.view_is
    (far_as (g.K.Sink.received c.args.out.now) (g.K.Sink.received c.take_run.new.out)
    (g.K.Sink.received c.take.new.out) own c.take_run.new.self c.take.new.self c.args.buffer.now c.take_run.new.buffer
    c.take.new.buffer c.args.packet.now c.clear.new.self.items
    (c.self.inside.since + (c.self.inside.waiting + 1)) c.last_tick.result
    c.clear.ensures.items (omega arith) c.last_tick.ensures.tick
    (subst (λ (old : Clocking). MOST_BETWEEN ≤ old.since + old.waiting) (sym c.self.view_is) c.requires.far)
    (λ packets of_run. c.take_run.ensures.told packets
    (subst (λ (held : List HeldPacket). IsRun own.meter.asked.pid own.since own.waiting held packets)
    (sym c.deref.ensures.value) of_run))
    c.take.ensures.told)
