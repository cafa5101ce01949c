use Rattle.std.proofs.Common.{arith}
use Rattle.pixel_store.specs.Regions.{region_at}
use Rattle.bench_libraries.proofs.Codes.{low_code}
use Rattle.bench_libraries.proofs.region_paint.paint_row.Goals as goal

pub paint_run-requires-clause-code : goal.paint_run-requires-clause-code
paint_run-requires-clause-code c =
    low_code (region_at c.loop-x.store c.args.slot).depth c.loop-x.code (omega (arith, c.loop-x.invariant))
