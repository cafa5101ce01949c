use Rattle.received_level_laws.proofs.ToldLaws.{losses_tell}
use Rattle.received_level_laws.proofs.laws.losses_are_not_told.Goals as goal

pub returns : goal.returns
returns c = losses_tell
