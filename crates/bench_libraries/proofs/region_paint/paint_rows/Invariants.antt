use Rattle.bench_libraries.specs.Private.Painted.{IsScreen}
use Rattle.bench_libraries.proofs.region_paint.paint_rows.Given as goal

abbrev pub invariant-loop-y : goal.invariant-loop-y
invariant-loop-y l = IsScreen l.slot l.store
