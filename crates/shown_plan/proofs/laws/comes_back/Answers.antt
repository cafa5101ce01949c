use Rattle.shown_plan.proofs.Steps.ComesBack.{comes_back}
use Rattle.shown_plan.proofs.laws.comes_back.Goals as goal

pub returns : goal.returns
returns c = comes_back
