use Rattle.string_painting.proofs.PaintedColumns.{PaintsColumns-bytes}
use Rattle.string_painting.proofs.columns.paint_bytes.Goals as goal

pub returns : goal.returns
returns c =
    PaintsColumns-bytes c.args.region c.args.from c.args.to c.args.code c.pattern.result c.args.row.now c.fill.new.row
    c.requires.code c.pattern.ensures c.fill.ensures.inside c.fill.ensures.outside
