use Rattle.received_level_laws.proofs.ToldLaws.{packet_tells}
use Rattle.received_level_laws.proofs.laws.packet_brings_calls.Goals as goal

pub returns : goal.returns
returns c = packet_tells
