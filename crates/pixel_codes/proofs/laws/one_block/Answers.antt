use Rattle.pixel_codes.proofs.OneBlock.{one_block}
use Rattle.pixel_codes.proofs.laws.one_block.Goals as goal

pub returns : goal.returns
returns c = one_block
