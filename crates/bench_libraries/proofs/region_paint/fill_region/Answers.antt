use Rattle.std.proofs.Common.{arith}
use Rattle.pixel_store.specs.Regions.{region_at}
use Rattle.bench_libraries.proofs.Codes.{low_code}
use Rattle.bench_libraries.proofs.region_paint.fill_region.Goals as goal

pub fill-requires-clause-code : goal.fill-requires-clause-code
fill-requires-clause-code c =
    low_code (region_at c.args.store.now c.args.slot).depth c.args.code (omega (arith, c.requires.code))
