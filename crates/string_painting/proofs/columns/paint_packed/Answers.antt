use Rattle.string_painting.proofs.PaintedColumns.{PaintsColumns-parts}
use Rattle.string_painting.proofs.columns.paint_packed.Goals as goal

pub returns-else-first-last : goal.returns-else-first-last
returns-else-first-last c =
    let head = rw (c.codes_over-begin.ensures, c.codes_per_byte.ensures) at c.paint_in_byte-else-first-last.ensures in
    let tail = rw c.codes_over-end.ensures at c.paint_in_byte-else-first-last-2.ensures in
    PaintsColumns-parts c.args.region c.args.from c.args.to c.whole_bytes-first.result c.whole_bytes-last.result
    c.args.code c.args.row.now c.paint_in_byte-else-first-last.new.row c.paint_bytes.new.row
    c.paint_in_byte-else-first-last-2.new.row c.requires.order c.whole_bytes-first.ensures c.whole_bytes-last.ensures
    c.if-first-last.false head c.paint_bytes.ensures tail
