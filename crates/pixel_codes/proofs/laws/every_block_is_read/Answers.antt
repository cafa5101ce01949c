use Rattle.pixel_codes.proofs.BlockParts.{parts_or_fault}
use Rattle.pixel_codes.proofs.laws.every_block_is_read.Goals as goal

pub returns : goal.returns
returns c = parts_or_fault
