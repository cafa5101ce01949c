use Rattle.received_level_laws.proofs.ToldLaws.{sets_more}
use Rattle.received_level_laws.proofs.laws.more_sets_are_told.Goals as goal

pub returns : goal.returns
returns c = sets_more
