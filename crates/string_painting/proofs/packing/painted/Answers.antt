use Rattle.string_painting.proofs.Bytes.{paints_byte}
use Rattle.string_painting.proofs.packing.painted.Goals as goal

pub returns : goal.returns
returns c =
    rw (c.joined.ensures, c.joined-back.ensures, c.pattern.ensures)
    (paints_byte c.args.depth c.args.from c.args.to c.args.code c.args.byte c.requires.order c.requires.to
    c.requires.code)
