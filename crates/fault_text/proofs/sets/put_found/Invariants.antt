use Rattle.std.proofs.Common.{◌++◌, ℕ, List, length, false}
use Rattle.fault_text.specs.Faulting.{PutsFront, outside_lines, rest_text}
use Rattle.fault_text.proofs.sets.put_found.Given as goal

abbrev pub invariant-loop-entry : goal.invariant-loop-entry
invariant-loop-entry g l =
    (more : List (List ℕ)) → PutsFront
    (g.K.Sink.received l.fn.out)
    (g.K.Sink.received l.out)
    l.fn.buffer l.buffer
    (rest_text false l.fn.number l.fn.pts
    (outside_lines l.fn.scene l.fn.scene.composition.entries ++ more))
    (rest_text l.stands l.fn.number l.fn.pts (outside_lines l.fn.scene l.entries ++ more))

abbrev pub decreases-loop-entry : goal.decreases-loop-entry
decreases-loop-entry g l = length l.entries
