use Rattle.segments.proofs.Sizes.{written_size}
use Rattle.segments.proofs.laws.written_sizes.Goals as goal

pub returns : goal.returns
returns c = written_size
