use Rattle.page_core.proofs.Pictures.ColouredBytes.{four_bits}
use Rattle.page_core.proofs.colours.four_bit_byte.Goals as goal

pub returns : goal.returns
returns c =
    four_bits c.args.byte c.args.place c.from.result c.from-2.result c.args.colours.now c.args.row.now
    c.requires.colours c.ranges.byte.fits c.from.ensures c.from-2.ensures c.requires.place
