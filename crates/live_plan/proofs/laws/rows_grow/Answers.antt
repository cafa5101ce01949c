use Rattle.live_plan.proofs.DueFronts as own
use Rattle.live_plan.proofs.laws.rows_grow.Goals as goal

pub returns : goal.returns
returns c = own.rows_grow
