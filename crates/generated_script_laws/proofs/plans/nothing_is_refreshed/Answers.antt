use Rattle.generated_script_laws.proofs.PlanTicks.{none_refreshed}
use Rattle.generated_script_laws.proofs.plans.nothing_is_refreshed.Goals as goal

pub returns : goal.returns
returns c = none_refreshed
