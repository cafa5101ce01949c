use Rattle.std.proofs.Common.{length}
use Rattle.bench_libraries.proofs.taking.segments_in.Given as goal

abbrev pub decreases-loop-segment : goal.decreases-loop-segment
decreases-loop-segment l = length l.rest
