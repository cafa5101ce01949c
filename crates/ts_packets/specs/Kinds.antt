-- What a packet is for the units of a PID.
use Rattle.std.specs.Prelude.{◌≡◌, ℕ, ◌≤◌, true, false, ◌==◌, List, length}
use Rattle.stream_syntax.specs.declared.wire.TheConstants.{PAYLOAD_LENGTH}
use Rattle.stream_syntax.specs.TransportPackets.{pid_of, has_error_flag, has_payload, has_start_flag, counter_of, payload_of}
use Rattle.ts_packets.specs.declared.kind.Kind.{Kind}
use Rattle.ts_packets.specs.declared.kind.Kind.TheVariants as kind
use Rattle.ts_packets.specs.declared.kind.Payload.{Payload}

-- the payload is that of the packet
pub record IsPayloadOf (packet : List ℕ) (payload : Payload) : Type 0 where
  pub counter : payload.counter ≡ counter_of packet
  pub start : payload.start ≡ has_start_flag packet
  pub bytes : payload.bytes.now ≡ payload_of packet
  pub short : length payload.bytes.now ≤ PAYLOAD_LENGTH

-- a packet of another PID, a damaged one, one without a payload, or one with that payload
abbrev pub IsKind : ℕ → List ℕ → Kind → Type 0
IsKind pid packet kind.Other = (pid_of packet == pid) ≡ false
IsKind pid packet kind.Damaged = ((pid_of packet == pid) ≡ true) × (has_error_flag packet ≡ true)
IsKind pid packet kind.Empty =
    ((pid_of packet == pid) ≡ true) × (has_error_flag packet ≡ false) × (has_payload packet ≡ false)
IsKind pid packet (kind.Payload payload) = ((pid_of packet == pid) ≡ true) × (has_error_flag packet ≡ false)
    × (has_payload packet ≡ true) × IsPayloadOf packet payload
