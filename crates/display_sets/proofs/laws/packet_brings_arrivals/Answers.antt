use Rattle.display_sets.proofs.PacketLaws.{arrivals_grow}
use Rattle.display_sets.proofs.laws.packet_brings_arrivals.Goals as goal

pub returns : goal.returns
returns c = arrivals_grow
