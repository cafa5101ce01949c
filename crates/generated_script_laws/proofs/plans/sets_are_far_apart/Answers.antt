use Rattle.generated_script_laws.proofs.PlanTicks.{sets_apart}
use Rattle.generated_script_laws.proofs.plans.sets_are_far_apart.Goals as goal

pub returns : goal.returns
returns c = sets_apart
