use Rattle.checked_script_laws.proofs.DoneTicks.{schedule_told}
use Rattle.checked_script_laws.proofs.laws.check_tells_the_schedule.Goals as goal

pub returns : goal.returns
returns c = schedule_told
