use Rattle.std.proofs.Common.{length}
use Rattle.display_sets.specs.Gathered.{ready_sets}
use Rattle.set_receiver.specs.Receiving.{IsSameReception}
use Rattle.splice.specs.Private.Surveys.{TakesSets}
use Rattle.splice.proofs.stream_reader.take_ready.Given as goal

abbrev pub invariant-loop-receiver : goal.invariant-loop-receiver
invariant-loop-receiver l =
    record {
      sets : TakesSets l.fn.part l.fn.receiver l.receiver l.fn.found l.found l.fn.joined l.joined;
      same : IsSameReception l.fn.receiver l.receiver;
    }

abbrev pub decreases-loop-receiver : goal.decreases-loop-receiver
decreases-loop-receiver l = length (ready_sets l.receiver.collecting.sets)
