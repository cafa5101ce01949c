-- The segments that are left say what all say.
use Rattle.std.proofs.Common.{length}
use Rattle.set_definitions.proofs.WalkLaws.{IsEpochSo}
use Rattle.set_definitions.proofs.walk.is_new_epoch.Given as goal

abbrev pub invariant-loop-segment : goal.invariant-loop-segment
invariant-loop-segment l = IsEpochSo l.fn.bytes l.rest

abbrev pub decreases-loop-segment : goal.decreases-loop-segment
decreases-loop-segment l = length l.rest
