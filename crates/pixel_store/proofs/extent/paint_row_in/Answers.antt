use Rattle.std.proofs.Common.{arith}
use Rattle.pixel_store.proofs.Rows.{PaintsRow-from, wide_enough}
use Rattle.pixel_store.proofs.extent.paint_row_in.Goals as goal

pub returns : goal.returns
returns c =
    let paints = rw c.row_start.ensures at c.paint.ensures in
    PaintsRow-from c.args.extent c.args.y c.args.from c.args.to c.args.code c.args.bytes.now c.paint.new.bytes
    c.requires.fits c.requires.y
    (omega (arith, c.requires.to, wide_enough c.args.extent)) paints
