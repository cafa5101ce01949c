use Rattle.std.proofs.Common.{◌≡◌, ◌+◌, ◌≤◌, length}
use Rattle.display_sets.specs.Gathered.{ready_sets}
use Rattle.set_receiver.specs.Receiving.{IsSameReception}
use Rattle.fault_text.specs.FaultText.{set_count}
use Rattle.fault_text.specs.Faulting.{TellsSets}
use Rattle.fault_text.proofs.taking.take_ready.Given as goal

abbrev pub invariant-loop-out : goal.invariant-loop-out
invariant-loop-out g l =
    record {
      sets : TellsSets
          (g.K.Sink.received l.fn.out)
          (g.K.Sink.received l.out)
          l.fn.receiver l.receiver l.fn.tally l.tally l.fn.known l.known l.fn.buffer l.buffer;
      room : l.kept.room ≡ l.fn.kept.room;
      same : IsSameReception l.fn.receiver l.receiver;
      few : set_count l.tally + length (ready_sets l.receiver.collecting.sets)
          ≤ set_count l.fn.tally + length (ready_sets l.fn.receiver.collecting.sets);
    }

abbrev pub decreases-loop-out : goal.decreases-loop-out
decreases-loop-out g l = length (ready_sets l.receiver.collecting.sets)
