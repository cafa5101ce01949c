-- Two services in one multiplex: the tables that name them, and frames of three packets, one of a table or null, one of
-- each service.
use Rattle.std.specs.Prelude.{ℕ, zero, suc, ◌+◌, ◌-◌, ◌/◌, ◌%◌, ◌==◌, max, true, if◌then◌else◌, List, [], ◌∷◌, ◌++◌, length, replicate, Option, Some, None, slice_get}
use Rattle.std.specs.List.{flat_map, range_with_len}
use Rattle.stream_syntax.specs.BitFields.{packed}
use Rattle.stream_syntax.specs.TransportPackets.{head_groups, written_head, null_packet, pid_of}
use Rattle.psi_tables.specs.Writing.{written_pat, written_pmt}
use Rattle.psi_tables.specs.declared.service.Service.{Service}
use Rattle.service_mux.specs.declared.mux_words.ServicePair.{ServicePair}

-- ---- packets of tables

-- the payload of a table's packet: the pointer 00, the section, and stuffing up to the packet's end
abbrev pub table_payload : List ℕ → List ℕ
table_payload section = 0 ∷ section ++ replicate (183 - length section) 0xFF

-- the packet of a table: the start flag, a payload alone, and the counter of its PID
abbrev pub table_packet : ℕ → List ℕ → ℕ → List ℕ
table_packet pid section counter =
    packed (head_groups (written_head pid true 1 (counter % 16))) ++ table_payload section

-- the packet of a table's turn: the PAT, the PMT of the first service, that of the second one, each for so many times
-- before; no table has a later turn
abbrev pub turn_packet : ServicePair → ℕ → ℕ → List ℕ
turn_packet pair count zero = table_packet 0 (written_pat (pair.one ∷ pair.two ∷ [])) count
turn_packet pair count (suc zero) = table_packet pair.one.pmt (written_pmt pair.one) count
turn_packet pair count (suc (suc zero)) = table_packet pair.two.pmt (written_pmt pair.two) count
turn_packet pair count (suc (suc (suc turn))) = null_packet

-- ---- packets of services

-- a packet of a service's stream, or the null packet where there is none, or one of another PID
abbrev pub if_of : ℕ → Option (List ℕ) → List ℕ
if_of pid None = null_packet
if_of pid (Some packet) = if pid_of packet == pid then packet else null_packet

-- the packet of a service in a frame
abbrev pub service_packet : Service → List (List ℕ) → ℕ → List ℕ
service_packet service stream frame = if_of service.pid (slice_get stream frame)

-- ---- the multiplex

-- a frame: the tables have their turns again every 128 frames
abbrev pub frame_of : ServicePair → List (List ℕ) → List (List ℕ) → ℕ → List (List ℕ)
frame_of pair first second frame =
    turn_packet pair (1 + frame / 128) (frame % 128)
    ∷ service_packet pair.one first frame ∷ service_packet pair.two second frame ∷ []

-- the three packets of the tables, before any frame
abbrev pub table_packets : ServicePair → List (List ℕ)
table_packets pair = turn_packet pair 0 0 ∷ turn_packet pair 0 1 ∷ turn_packet pair 0 2 ∷ []

-- the tables, and the first so many frames
unfoldable pub frames_of : ServicePair → List (List ℕ) → List (List ℕ) → ℕ → List (List ℕ)
frames_of pair first second count =
    table_packets pair ++ flat_map (frame_of pair first second) (range_with_len 0 count)

-- the multiplex of two streams: as many frames as the longer one has packets
abbrev pub mux_of : ServicePair → List (List ℕ) → List (List ℕ) → List (List ℕ)
mux_of pair first second = frames_of pair first second (max (length first) (length second))
