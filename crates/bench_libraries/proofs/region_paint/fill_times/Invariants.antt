use Rattle.bench_libraries.specs.Private.Painted.{IsScreen}
use Rattle.bench_libraries.proofs.region_paint.fill_times.Given as goal

abbrev pub invariant-loop-time : goal.invariant-loop-time
invariant-loop-time l = IsScreen l.slot l.store
