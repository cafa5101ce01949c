use Rattle.std.proofs.Common.{◌-◌, ◌≤◌, length, take}
use Rattle.sub_base.specs.Endpoints.{Wrote}
use Rattle.sub_base.proofs.transfer.write_whole.Given as goal

abbrev pub invariant-loop-done : goal.invariant-loop-done
invariant-loop-done g l =
    record {
      within : l.done ≤ length l.bytes;
      kept : (g.K.Sink.received l.fn.sink).faults ≤ (g.K.Sink.received l.sink).faults;
      bytes : Wrote (g.K.Sink.received l.fn.sink) (g.K.Sink.received l.sink) (take l.done l.bytes);
    }

abbrev pub decreases-loop-done : goal.decreases-loop-done
decreases-loop-done g l = length l.bytes - l.done
