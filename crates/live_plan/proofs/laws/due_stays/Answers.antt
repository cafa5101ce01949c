use Rattle.live_plan.proofs.DueFronts as own
use Rattle.live_plan.proofs.laws.due_stays.Goals as goal

pub returns : goal.returns
returns c = own.due_stays
