-- What a packet is for the sections of a PID.
use Rattle.std.specs.Prelude.{◌≡◌, ℕ, true, false, ◌==◌, List}
use Rattle.stream_syntax.specs.TransportPackets.{pid_of, has_payload}
use Rattle.ts_packets.specs.Kinds.{IsPayloadOf}
use Rattle.section_reader.specs.Sections.{is_broken}
use Rattle.section_reader.specs.declared.kind.Kind.{Kind}
use Rattle.section_reader.specs.declared.kind.Kind.TheVariants as kind

-- a packet of another PID, one that is damaged or faulty, one without a payload, or one with that payload
abbrev pub IsKind : ℕ → List ℕ → Kind → Type 0
IsKind pid packet kind.Other = (pid_of packet == pid) ≡ false
IsKind pid packet kind.Broken = ((pid_of packet == pid) ≡ true) × (is_broken packet ≡ true)
IsKind pid packet kind.Empty =
    ((pid_of packet == pid) ≡ true) × (is_broken packet ≡ false) × (has_payload packet ≡ false)
IsKind pid packet (kind.Payload payload) = ((pid_of packet == pid) ≡ true) × (is_broken packet ≡ false)
    × (has_payload packet ≡ true) × IsPayloadOf packet payload
