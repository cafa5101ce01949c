use Rattle.std.proofs.Common.{◌≤◌, length}
use Rattle.display_sets.specs.Gathered.{ready_sets}
use Rattle.receiver.specs.Asking.{IsSame}
use Rattle.dump_text.specs.Dumping.{DumpsOn}
use Rattle.dump_text.proofs.dump.take_ready.Given as goal

abbrev pub invariant-loop-out : goal.invariant-loop-out
invariant-loop-out g l =
    record {
      dumps : DumpsOn
          (g.K.Sink.received l.fn.out)
          (g.K.Sink.received l.out)
          l.fn.receiver l.receiver l.ticks l.fn.told l.told l.fn.buffer l.buffer;
      within : l.told ≤ length l.ticks;
      same : IsSame l.fn.receiver l.receiver;
    }

abbrev pub decreases-loop-out : goal.decreases-loop-out
decreases-loop-out g l = length (ready_sets l.receiver.sets)
