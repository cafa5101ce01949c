use Rattle.std.proofs.Common.{◌≡◌, length}
use Rattle.psi_tables.specs.Loops.{are_streams}
use Rattle.psi_tables.proofs.loops.are_streams.Given as goal

-- what is left is whole exactly where all of it is
abbrev pub invariant-loop-stream : goal.invariant-loop-stream
invariant-loop-stream l = are_streams l.rest ≡ are_streams l.bytes

abbrev pub decreases-loop-stream : goal.decreases-loop-stream
decreases-loop-stream l = length l.rest
