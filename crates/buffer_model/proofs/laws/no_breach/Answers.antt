use Rattle.buffer_model.proofs.LevelLaws.{no_breach}
use Rattle.buffer_model.proofs.laws.no_breach.Goals as goal

pub returns : goal.returns
returns c = no_breach
