use Rattle.pixel_store.proofs.Rows.{Fills-whole}
use Rattle.pixel_store.proofs.extent.fill_whole.Goals as goal

pub returns : goal.returns
returns c =
    let inside = rw c.size.ensures at c.fill.ensures.inside in
    let outside = rw c.size.ensures at c.fill.ensures.outside in
    Fills-whole c.args.extent c.args.code c.pattern.result c.args.bytes.now c.fill.new.bytes c.requires.full
    c.requires.code c.pattern.ensures inside outside
