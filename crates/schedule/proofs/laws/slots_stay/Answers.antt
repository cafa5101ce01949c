use Rattle.schedule.proofs.FrontLaws as own
use Rattle.schedule.proofs.laws.slots_stay.Goals as goal

pub returns : goal.returns
returns c = own.slots_stay
