use Rattle.segments.proofs.Spellings.{read_again}
use Rattle.segments.proofs.laws.read_again.Goals as goal

pub returns : goal.returns
returns c = read_again
