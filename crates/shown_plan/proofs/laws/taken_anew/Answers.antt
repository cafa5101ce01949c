use Rattle.shown_plan.proofs.Steps.ComesBack.{taken_anew}
use Rattle.shown_plan.proofs.laws.taken_anew.Goals as goal

pub returns : goal.returns
returns c = taken_anew
