use Rattle.grown_script_laws.proofs.GrownPlans as own
use Rattle.grown_script_laws.proofs.plans.sets_stay.Goals as goal

pub returns : goal.returns
returns c = own.sets_stay
