use Rattle.buffer_model.proofs.MovedLaws.{moved_within}
use Rattle.buffer_model.proofs.laws.moved_within.Goals as goal

pub returns : goal.returns
returns c = moved_within
