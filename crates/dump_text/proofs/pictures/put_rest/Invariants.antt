use Rattle.std.proofs.Common.{◌≤◌, length}
use Rattle.receiver.specs.Asking.{KeepsSets}
use Rattle.dump_text.specs.Dumping.{PutsBetween}
use Rattle.dump_text.proofs.pictures.put_rest.Given as goal

abbrev pub invariant-loop-place : goal.invariant-loop-place
invariant-loop-place g l =
    record {
      next : l.fn.first ≤ l.place;
      within : l.place ≤ length l.ticks;
      keeps : KeepsSets l.fn.receiver l.receiver;
      puts : PutsBetween l.fn.receiver
          (g.K.Sink.received l.fn.out)
          (g.K.Sink.received l.out)
          l.fn.buffer l.buffer l.ticks l.fn.first l.place;
    }
