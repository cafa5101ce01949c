use Rattle.pixel_codes.proofs.RunEnds.{block_bits}
use Rattle.pixel_codes.proofs.maximal.ends_of_block.Goals as goal

pub returns : goal.returns
returns c = block_bits c.args.codes.now c.args.at c.requires
