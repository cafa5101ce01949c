-- Transport packets (ISO/IEC 13818-1, 2.4.3.2 to 2.4.3.5). A packet is a list of 188 bytes.
use Rattle.std.specs.Prelude.{ℕ, zero, suc, ◌+◌, ◌-◌, ◌*◌, ◌/◌, ◌%◌, Bool, false, ◌==◌, ◌||◌, ◌&&◌, not, nat_lt, if◌then◌else◌, List, [], ◌∷◌, ◌++◌, length, drop, replicate, slice_index, Option}
use Rattle.stream_syntax.specs.declared.wire.TheConstants.{NULL_PID, PAYLOAD_LENGTH, SYNC_BYTE}
use Rattle.stream_syntax.specs.declared.transport.PacketFault.{PacketFault}
use Rattle.stream_syntax.specs.declared.transport.PacketFault.TheVariants.{NoSync, ReservedControl, BadAdaptation, Scrambled}
use Rattle.stream_syntax.specs.BitFields.{BitField, field, packed}
use Rattle.stream_syntax.specs.Tests.{Test, test, first_fault}

-- ---- what a packet says

-- the packet begins with the sync byte (sync_byte)
abbrev pub has_sync : List ℕ → Bool
has_sync packet = slice_index packet 0 == SYNC_BYTE

-- transport_error_indicator
abbrev pub has_error_flag : List ℕ → Bool
has_error_flag packet = slice_index packet 1 / 128 == 1

-- payload_unit_start_indicator
abbrev pub has_start_flag : List ℕ → Bool
has_start_flag packet = slice_index packet 1 / 64 % 2 == 1

-- PID, a number of 13 bits
abbrev pub pid_of : List ℕ → ℕ
pid_of packet = slice_index packet 1 % 32 * 256 + slice_index packet 2

-- transport_scrambling_control
abbrev pub scrambling_of : List ℕ → ℕ
scrambling_of packet = slice_index packet 3 / 64

-- adaptation_field_control: 1 is a payload alone, 2 an adaptation field alone, 3 both, and 0 is reserved
abbrev pub control_of : List ℕ → ℕ
control_of packet = slice_index packet 3 / 16 % 4

-- the packet has a payload, alone or behind an adaptation field
abbrev pub has_payload : List ℕ → Bool
has_payload packet = (control_of packet == 1) || (control_of packet == 3)

-- continuity_counter
abbrev pub counter_of : List ℕ → ℕ
counter_of packet = slice_index packet 3 % 16

-- adaptation_field_length: how many bytes follow it in the field
abbrev pub field_length_of : List ℕ → ℕ
field_length_of packet = slice_index packet 4

-- the payload, behind the head and the adaptation field
abbrev pub payload_of : List ℕ → List ℕ
payload_of packet = if control_of packet == 3 then drop (5 + field_length_of packet) packet else drop 4 packet

-- ---- what cannot be taken

-- an adaptation field that is longer than the packet, or leaves no byte for a payload that the control announces
abbrev pub has_bad_field : List ℕ → Bool
has_bad_field packet =
    (control_of packet == 2 && nat_lt 183 (field_length_of packet))
    || (control_of packet == 3 && nat_lt 182 (field_length_of packet))

-- packets of another PID, and packets that are marked as damaged, are not looked at further
abbrev pub is_looked_at : ℕ → List ℕ → Bool
is_looked_at pid packet = (pid_of packet == pid) && not (has_error_flag packet)

-- the tests of a packet, in order
abbrev pub packet_tests : ℕ → List ℕ → List (Test PacketFault)
packet_tests pid packet =
    test (not (has_sync packet)) NoSync
    ∷ test (is_looked_at pid packet && not (scrambling_of packet == 0)) Scrambled
    ∷ test (is_looked_at pid packet && (control_of packet == 0)) ReservedControl
    ∷ test (is_looked_at pid packet && has_bad_field packet) BadAdaptation
    ∷ []

-- the fault of the first test that fails
abbrev pub packet_fault : ℕ → List ℕ → Option PacketFault
packet_fault pid packet = first_fault (packet_tests pid packet)

-- ---- what a writer writes

-- the four bytes of the head, field by field
pub record PacketHead : Type 0 where
  pub error_flag : ℕ
  pub start_flag : ℕ
  pub priority : ℕ
  pub pid : ℕ
  pub scrambling : ℕ
  pub control : ℕ
  pub counter : ℕ

-- the layout of the four bytes of the head: fields with widths in bits, grouped by bytes
abbrev pub head_groups : PacketHead → List (List BitField)
head_groups head =
    (field 8 SYNC_BYTE ∷ [])
    ∷ (field 1 head.error_flag ∷ field 1 head.start_flag ∷ field 1 head.priority ∷ field 13 head.pid ∷ [])
    ∷ (field 2 head.scrambling ∷ field 2 head.control ∷ field 4 head.counter ∷ [])
    ∷ []

-- an adaptation field of so many bytes: the count of those that follow, flags of 0, and stuffing
abbrev pub adaptation_field : ℕ → List ℕ
adaptation_field zero = []
adaptation_field (suc zero) = 0 ∷ []
adaptation_field (suc (suc stuffing)) = (stuffing + 1) ∷ 0 ∷ replicate stuffing 0xFF

-- a head without error flag, priority and scrambling
abbrev pub written_head : ℕ → Bool → ℕ → ℕ → PacketHead
written_head number start kind count = record {
  error_flag = 0;
  start_flag = if start then 1 else 0;
  priority = 0;
  pid = number;
  scrambling = 0;
  control = kind;
  counter = count;
}

-- a packet with this piece of a unit: an adaptation field takes the place that the piece leaves
abbrev pub written_packet : ℕ → Bool → ℕ → List ℕ → List ℕ
written_packet pid start counter piece =
    packed (head_groups (written_head pid start (if length piece == PAYLOAD_LENGTH then 1 else 3) counter))
    ++ (adaptation_field (PAYLOAD_LENGTH - length piece) ++ piece)

-- how many packets a unit of that many bytes takes: the payload of each but the last is full
abbrev pub packet_count : ℕ → ℕ
packet_count size = (size + (PAYLOAD_LENGTH - 1)) / PAYLOAD_LENGTH

-- the packet that a multiplex has where nothing is to be sent
abbrev pub null_packet : List ℕ
null_packet = packed (head_groups (written_head NULL_PID false 1 0)) ++ replicate PAYLOAD_LENGTH 0xFF
