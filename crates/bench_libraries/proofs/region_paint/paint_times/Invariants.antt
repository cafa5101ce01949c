use Rattle.bench_libraries.specs.Private.Painted.{IsScreen}
use Rattle.bench_libraries.proofs.region_paint.paint_times.Given as goal

abbrev pub invariant-loop : goal.invariant-loop
invariant-loop l = IsScreen l.slot l.store
