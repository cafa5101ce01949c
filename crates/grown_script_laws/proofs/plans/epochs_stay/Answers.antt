use Rattle.grown_script_laws.proofs.GrownRows as own
use Rattle.grown_script_laws.proofs.plans.epochs_stay.Goals as goal

pub returns : goal.returns
returns c = own.epochs_stay
