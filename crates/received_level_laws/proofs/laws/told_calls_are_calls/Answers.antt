use Rattle.received_level_laws.proofs.ToldLaws.{are_calls}
use Rattle.received_level_laws.proofs.laws.told_calls_are_calls.Goals as goal

pub returns : goal.returns
returns c = are_calls
