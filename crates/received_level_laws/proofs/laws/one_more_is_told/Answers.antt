use Rattle.received_level_laws.proofs.ToldLaws.{one_more_tells}
use Rattle.received_level_laws.proofs.laws.one_more_is_told.Goals as goal

pub returns : goal.returns
returns c = one_more_tells
