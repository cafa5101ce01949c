use Rattle.received_level_laws.proofs.ToldLaws.{nothing_told}
use Rattle.received_level_laws.proofs.laws.nothing_is_told.Goals as goal

pub returns : goal.returns
returns c = nothing_told
