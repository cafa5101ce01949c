use Rattle.std.proofs.Common.{length}
use Rattle.display_sets.specs.Gathered.{ready_sets}
use Rattle.receiver.specs.Receiving.{IsSame}
use Rattle.stream_report.specs.Private.Picturing.{PicturesOn}
use Rattle.stream_report.proofs.pictures.take_ready.Given as goal

abbrev pub invariant-loop-out : goal.invariant-loop-out
invariant-loop-out g l =
    record {
      pictures : PicturesOn
          (g.K.Sink.received l.fn.out)
          (g.K.Sink.received l.out)
          l.fn.receiver l.receiver l.fn.until l.until l.fn.buffer l.buffer;
      same : IsSame l.fn.receiver l.receiver;
    }

abbrev pub decreases-loop-out : goal.decreases-loop-out
decreases-loop-out g l = length (ready_sets l.receiver.sets)
