use Rattle.std.proofs.Common.{◌≡◌, length}
use Rattle.psi_tables.specs.Loops.{are_descriptors}
use Rattle.psi_tables.proofs.loops.are_descriptors.Given as goal

-- what is left is whole exactly where all of it is
abbrev pub invariant-loop-behind : goal.invariant-loop-behind
invariant-loop-behind l = are_descriptors l.rest ≡ are_descriptors l.bytes

abbrev pub decreases-loop-behind : goal.decreases-loop-behind
decreases-loop-behind l = length l.rest
