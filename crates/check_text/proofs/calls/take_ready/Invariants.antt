use Rattle.std.proofs.Common.{◌≡◌, length}
use Rattle.display_sets.specs.Gathered.{ready_sets}
use Rattle.set_receiver.specs.Receiving.{IsSameReception}
use Rattle.check_text.specs.Checking.{TakesSets}
use Rattle.check_text.proofs.calls.take_ready.Given as goal

abbrev pub invariant-loop-out : goal.invariant-loop-out
invariant-loop-out g l =
    record {
      sets : TakesSets
          (g.K.Sink.received l.fn.out)
          (g.K.Sink.received l.out)
          l.fn.receiver l.receiver l.fn.levels l.levels l.fn.buffer l.buffer;
      same : IsSameReception l.fn.receiver l.receiver;
      pace : l.levels.pace ≡ l.fn.levels.pace;
      last : l.levels.last ≡ l.fn.levels.last;
    }

abbrev pub decreases-loop-out : goal.decreases-loop-out
decreases-loop-out g l = length (ready_sets l.receiver.collecting.sets)
