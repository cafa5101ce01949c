-- A packet of another PID.
use Rattle.check_text.proofs.OtherLaws.{other_metered}
use Rattle.check_text.proofs.laws.other_pids_are_not_metered.Goals as goal

pub returns : goal.returns
returns c = other_metered
