use Rattle.std.proofs.Common.{◌≡◌, flat_map, take}
use Rattle.samples.proofs.endpoints.source_of_packets.Given as goal

-- the bytes are those of the packets before this one
abbrev pub invariant-loop-packet : goal.invariant-loop-packet
invariant-loop-packet l = l.bytes.items ≡ flat_map (λ packet. packet) (take l.packet-index l.packets)
