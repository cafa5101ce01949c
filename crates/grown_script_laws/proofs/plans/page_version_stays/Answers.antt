use Rattle.grown_script_laws.proofs.GrownCues as own
use Rattle.grown_script_laws.proofs.plans.page_version_stays.Goals as goal

pub returns : goal.returns
returns c = own.page_version_stays
