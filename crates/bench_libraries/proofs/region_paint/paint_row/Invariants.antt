use Rattle.std.proofs.Common.{◌-◌, ◌≤◌}
use Rattle.bench_libraries.specs.Private.Painted.{IsScreen}
use Rattle.bench_libraries.proofs.region_paint.paint_row.Given as goal

abbrev pub invariant-loop-x : goal.invariant-loop-x
invariant-loop-x l = IsScreen l.slot l.store × (l.x ≤ 1440) × (1 ≤ l.code) × (l.code ≤ 2)

abbrev pub decreases-loop-x : goal.decreases-loop-x
decreases-loop-x l = l.width - l.x
