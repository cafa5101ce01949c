use Rattle.generated_script_laws.proofs.ListedCues.{lists_few}
use Rattle.generated_script_laws.proofs.plans.sets_list_few_cues.Goals as goal

pub returns : goal.returns
returns c = lists_few
