-- The segments that are left say what all say.
use Rattle.std.proofs.Common.{length}
use Rattle.splice.proofs.WalkLaws.{IsAnewSo}
use Rattle.splice.proofs.segment_walk.is_mode_change.Given as goal

abbrev pub invariant-loop-segment : goal.invariant-loop-segment
invariant-loop-segment l = IsAnewSo l.fn.bytes l.rest

abbrev pub decreases-loop-segment : goal.decreases-loop-segment
decreases-loop-segment l = length l.rest
