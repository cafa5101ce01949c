use Rattle.std.proofs.Common.{◌≡◌, length}
use Rattle.stream_syntax.specs.SegmentTests.{are_whole}
use Rattle.segments.proofs.clut.are_whole.Given as goal

-- what is left of the entries is whole exactly where all of them are
abbrev pub invariant-loop-rest : goal.invariant-loop-rest
invariant-loop-rest l = are_whole l.rest ≡ are_whole l.entries

abbrev pub decreases-loop-rest : goal.decreases-loop-rest
decreases-loop-rest l = length l.rest
