use Rattle.std.proofs.Common.{ap, ◌∙◌}
use Rattle.stream_syntax.specs.TransportPackets.{packet_fault}
use Rattle.ts_packets.proofs.WrittenPackets.{null_is_taken}
use Rattle.ts_packets.proofs.packetiser.null_packet.Goals as goal

pub returns-clause-taken : goal.returns-clause-taken
returns-clause-taken c = λ pid other. ap (packet_fault pid) c.write_null_packet.ensures ∙ null_is_taken pid other
