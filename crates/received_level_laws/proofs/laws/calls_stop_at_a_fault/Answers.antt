use Rattle.received_level_laws.proofs.StoppedCalls.{calls_stop}
use Rattle.received_level_laws.proofs.laws.calls_stop_at_a_fault.Goals as goal

pub returns : goal.returns
returns c = calls_stop
