use Rattle.string_painting.proofs.PaintedColumns.{PaintsColumns-one}
use Rattle.string_painting.proofs.columns.paint_column.Goals as goal

pub returns : goal.returns
returns c =
    let p = rw (c.whole_bytes-index.ensures, c.codes_over.ensures) at c.painted_once.ensures in
    rw c.whole_bytes-index.ensures
    (PaintsColumns-one c.args.region c.args.x c.args.code c.painted_once.result c.args.row.now c.requires.x p)
