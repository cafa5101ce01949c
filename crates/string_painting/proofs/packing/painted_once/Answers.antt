use Rattle.string_painting.proofs.Bytes.{paints_once}
use Rattle.string_painting.proofs.packing.painted_once.Goals as goal

pub returns : goal.returns
returns c =
    rw c.replaced.ensures
    (paints_once c.args.depth c.args.index c.args.code c.args.byte c.requires.index c.requires.code)
