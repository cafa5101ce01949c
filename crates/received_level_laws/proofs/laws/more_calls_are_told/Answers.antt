use Rattle.received_level_laws.proofs.ToldLaws.{calls_more}
use Rattle.received_level_laws.proofs.laws.more_calls_are_told.Goals as goal

pub returns : goal.returns
returns c = calls_more
