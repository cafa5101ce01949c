use Rattle.schedule.proofs.FrontLaws as own
use Rattle.schedule.proofs.laws.front_is_schedule.Goals as goal

pub returns : goal.returns
returns c = own.front_is_schedule
