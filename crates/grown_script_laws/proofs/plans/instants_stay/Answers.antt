use Rattle.grown_script_laws.proofs.GrowthLaws as own
use Rattle.grown_script_laws.proofs.plans.instants_stay.Goals as goal

pub returns : goal.returns
returns c = own.instants_stay
