-- A packet with a sample.
use Rattle.std.proofs.Common.{List, Some, sym, subst}
use Rattle.level_text.specs.Clocking.{Clocking, TakesSampled}
use Rattle.level_text.specs.Held.{IsRun}
use Rattle.level_text.specs.declared.held.HeldPacket.{HeldPacket}
use Rattle.level_text.proofs.ClockLaws.{sampled_as}
use Rattle.level_text.proofs.clock_levels.ClockLevels.take_sampled.Goals as goal

pub returns-clause-told : goal.returns-clause-told
returns-clause-told g c =
    let own : Clocking = record {
      meter = c.self.inside.meter;
      held = c.self.inside.held.items;
      last = c.self.inside.last;
      since = c.self.inside.since;
      waiting = c.self.inside.waiting;
    } in
    subst (λ (old : Clocking). TakesSampled (g.K.Sink.received c.args.out.now) (g.K.Sink.received c.take.new.out) old
    (record {
      meter = c.take.new.self;
      held = c.clear.new.self.items;
      last = Some c.time_behind.result;
      since = 1;
      waiting = 0;
    })
    c.args.buffer.now c.take.new.buffer (Some c.args.sample) c.args.packet.now) c.self.view_is
    (sampled_as (g.K.Sink.received c.args.out.now) (g.K.Sink.received c.take_run.new.out)
    (g.K.Sink.received c.take.new.out) own c.take_run.new.self c.take.new.self c.args.buffer.now c.take_run.new.buffer
    c.take.new.buffer c.args.packet.now c.args.sample c.clear.new.self.items c.time_behind.result c.tick_of_time.result
    c.clear.ensures.items c.time_behind.ensures.time c.tick_of_time.ensures.tick
    (λ packets of_run. c.take_run.ensures.told packets
    (subst (λ (held : List HeldPacket). IsRun own.meter.asked.pid own.since own.waiting held packets)
    (sym c.deref.ensures.value) of_run))
    c.take.ensures.told)
