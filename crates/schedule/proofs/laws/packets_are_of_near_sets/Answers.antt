use Rattle.schedule.proofs.FrontLaws as own
use Rattle.schedule.proofs.laws.packets_are_of_near_sets.Goals as goal

pub returns : goal.returns
returns c = own.packets_are_of_near_sets
