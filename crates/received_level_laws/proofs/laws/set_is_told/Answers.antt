use Rattle.received_level_laws.proofs.SetCalls.{set_tells}
use Rattle.received_level_laws.proofs.laws.set_is_told.Goals as goal

pub returns : goal.returns
returns c = set_tells
