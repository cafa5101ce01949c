use Rattle.grown_script_laws.proofs.GrownRows as own
use Rattle.grown_script_laws.proofs.plans.rows_stay.Goals as goal

pub returns : goal.returns
returns c = own.rows_stay
