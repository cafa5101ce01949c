use Rattle.generated_script_laws.proofs.PlanFaults.{plan_never_refused}
use Rattle.generated_script_laws.proofs.plans.no_plan_is_refused.Goals as goal

pub returns : goal.returns
returns c = plan_never_refused
