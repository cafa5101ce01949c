use Rattle.display_sets.proofs.ReadLaws.{bytes_read}
use Rattle.display_sets.proofs.laws.bytes_are_read.Goals as goal

pub returns : goal.returns
returns c = bytes_read
