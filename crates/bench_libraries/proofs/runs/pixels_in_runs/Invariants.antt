use Rattle.std.proofs.Common.{length}
use Rattle.bench_libraries.proofs.runs.pixels_in_runs.Given as goal

abbrev pub decreases-loop-run : goal.decreases-loop-run
decreases-loop-run l = length l.runs
