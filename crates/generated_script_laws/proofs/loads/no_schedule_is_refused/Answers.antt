use Rattle.generated_script_laws.proofs.GeneratedSchedule.{schedule_never_refused}
use Rattle.generated_script_laws.proofs.loads.no_schedule_is_refused.Goals as goal

pub returns : goal.returns
returns c = schedule_never_refused
