use Rattle.received_level_laws.proofs.MoreReceived.{packet_receives_more}
use Rattle.received_level_laws.proofs.laws.packet_brings_more.Goals as goal

pub returns : goal.returns
returns c = packet_receives_more
