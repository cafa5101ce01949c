use Rattle.script_stream.proofs.ShownLaws.{compiled_is_shown}
use Rattle.script_stream.proofs.laws.compiled_is_shown.Goals as goal

pub returns : goal.returns
returns c = compiled_is_shown
