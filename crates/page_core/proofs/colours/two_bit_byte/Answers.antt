use Rattle.page_core.proofs.Pictures.ColouredBytes.{two_bits}
use Rattle.page_core.proofs.colours.two_bit_byte.Goals as goal

pub returns : goal.returns
returns c =
    two_bits c.args.byte c.args.place c.from.result c.from-2.result c.from-3.result c.from-4.result c.args.colours.now
    c.args.row.now c.requires.colours c.ranges.byte.fits
    c.from.ensures c.from-2.ensures c.from-3.ensures c.from-4.ensures c.requires.place
