use Rattle.received_level_laws.proofs.ToldLaws.{end_tells}
use Rattle.received_level_laws.proofs.laws.end_brings_calls.Goals as goal

pub returns : goal.returns
returns c = end_tells
