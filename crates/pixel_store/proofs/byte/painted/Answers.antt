use Rattle.pixel_store.proofs.Bytes.{paints_byte}
use Rattle.pixel_store.proofs.byte.painted.Goals as goal

pub returns : goal.returns
returns c =
    rw (c.spliced.ensures, c.pattern.ensures, c.from-bits.ensures, c.bits.ensures)
    (paints_byte c.args.depth c.args.from c.args.to c.args.code c.args.byte c.requires.order c.requires.to
    c.requires.code)
