use Rattle.checked_script_laws.proofs.CheckLaws.{unbreached}
use Rattle.checked_script_laws.proofs.laws.check_of_a_script_finds_no_breach.Goals as goal

pub returns : goal.returns
returns c = unbreached
