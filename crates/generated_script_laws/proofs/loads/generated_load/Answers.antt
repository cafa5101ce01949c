use Rattle.generated_script_laws.proofs.SmallSets.{set_small}
use Rattle.generated_script_laws.proofs.GeneratedSchedule.{planned_small}
use Rattle.generated_script_laws.proofs.loads.generated_load.Goals as goal

pub returns-clause-few_listed : goal.returns-clause-few_listed
returns-clause-few_listed c = set_small

pub returns-clause-planned : goal.returns-clause-planned
returns-clause-planned c = planned_small
