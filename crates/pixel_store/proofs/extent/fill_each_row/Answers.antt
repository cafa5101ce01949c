use Rattle.std.proofs.Common.{arith}
use Rattle.pixel_store.proofs.Rows.{Fills-more}
use Rattle.pixel_store.proofs.extent.fill_each_row.Goals as goal

pub loop-y-preserved : goal.loop-y-preserved
loop-y-preserved c =
    let paints = rw c.from-width.ensures at c.paint_row_in.ensures in
    Fills-more c.args.extent c.loop-y.y c.args.code c.args.bytes.now c.loop-y.bytes c.paint_row_in.new.bytes
    (omega arith) c.loop-y.invariant paints
