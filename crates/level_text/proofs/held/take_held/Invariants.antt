use Rattle.std.proofs.Common.{◌≡◌, ◌+◌, ◌≤◌, ℕ, drop, take}
use Rattle.level_text.specs.Held.{AreHeld, TakesHeld, end_tick, tick_in}
use Rattle.set_receiver.specs.Receiving.{reception}
use Rattle.level_text.proofs.held.take_held.Given as goal

abbrev pub invariant-loop-one : goal.invariant-loop-one
invariant-loop-one g l =
    record {
      same : reception l.sets.receiving ≡ reception l.fn.sets.receiving;
      pace : l.sets.meter.pace ≡ l.fn.sets.meter.pace;
      until : l.sets.meter.last ≤ end_tick l.run.last l.run.next;
      left : (from : ℕ) × (l.sets.meter.last ≤ tick_in l.run from)
          × AreHeld (reception l.fn.sets.receiving).pid from (l.run.since + l.run.count) (drop l.one-index l.held);
      told : TakesHeld
          (g.K.Sink.received l.fn.out)
          (g.K.Sink.received l.out)
          l.fn.sets l.sets l.fn.buffer l.buffer l.run (take l.one-index l.held);
    }
