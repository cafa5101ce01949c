use Rattle.doubled_packet_laws.proofs.Received.{received_twice, received_once}
use Rattle.doubled_packet_laws.proofs.laws.doubles_change_no_verdict.Goals as goal

pub returns-clause-twice : goal.returns-clause-twice
returns-clause-twice c = received_twice

pub returns-clause-once : goal.returns-clause-once
returns-clause-once c = received_once
