use Rattle.std.proofs.Common.{length}
use Rattle.fault_text.proofs.ChangeLaws.{IsChanging}
use Rattle.fault_text.proofs.changes.put_changes.Given as goal

abbrev pub invariant-loop-segment : goal.invariant-loop-segment
invariant-loop-segment g l =
    IsChanging l.fn.bytes l.rest l.fn.number l.fn.pts l.fn.stands l.stands
    (g.K.Sink.received l.fn.out)
    (g.K.Sink.received l.out)
    l.fn.known l.known l.fn.buffer l.buffer

abbrev pub decreases-loop-segment : goal.decreases-loop-segment
decreases-loop-segment g l = length l.rest
