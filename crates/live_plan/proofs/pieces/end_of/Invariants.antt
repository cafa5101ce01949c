use Rattle.live_plan.proofs.PieceLaws.{AreLookedAt}
use Rattle.live_plan.proofs.pieces.end_of.Given as goal

abbrev pub invariant-loop-place : goal.invariant-loop-place
invariant-loop-place l = AreLookedAt l.was_quoted l.bytes l.place l.is_quoted
