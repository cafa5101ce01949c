use Rattle.std.proofs.Common.{length}
use Rattle.refusal_text.proofs.record.without_line_ends.Given as goal

-- each turn takes a byte away
abbrev pub decreases-loop-rest : goal.decreases-loop-rest
decreases-loop-rest l = length l.rest

abbrev pub decreases-loop-rest-2 : goal.decreases-loop-rest-2
decreases-loop-rest-2 l = length l.rest
