use Rattle.string_painting.proofs.Pairs.{one_byte}
use Rattle.string_painting.proofs.columns.paint_pair_in_byte.Goals as goal

pub returns : goal.returns
returns c =
    let p = rw (c.whole_bytes-index.ensures, c.codes_over-over.ensures) at c.painted_once-byte.ensures in
    let q = rw c.codes_over-over.ensures at c.painted_once.ensures in
    rw c.whole_bytes-index.ensures
    (one_byte c.args.region c.args.x c.args.first c.args.second c.painted_once-byte.result c.painted_once.result
    c.args.row.now c.requires.x c.requires.room p q)
