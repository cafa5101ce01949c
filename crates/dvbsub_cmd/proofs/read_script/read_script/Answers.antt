use Rattle.dvbsub_cmd.proofs.InputLaws.{input_cause}
use Rattle.dvbsub_cmd.proofs.read_script.read_script.Goals as goal

pub returns-in-Err-clause-cause : goal.returns-in-Err-clause-cause
returns-in-Err-clause-cause g c =
    input_cause c.args.has_font _ _ _ _ c.in-Err.end _ c.status_of_input.ensures c.in-Err.ensures.cause
