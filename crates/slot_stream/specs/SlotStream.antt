-- Units cut into packets, and the packets sent at their slots (ISO/IEC 13818-1, 2.4.3.2).
use Rattle.std.specs.Prelude.{ℕ, ◌+◌, ◌*◌, ◌%◌, ◌==◌, ◌≤◌, if◌then◌else◌, Bool, false, List, [], ◌∷◌, length, take, drop, slice_index, slice_index_or, Option, Some, None, map}
use Rattle.std.specs.List.{flat_map, range_with_len}
use Rattle.stream_syntax.specs.TransportPackets.{written_packet, packet_count, null_packet}
use Rattle.stream_syntax.specs.declared.wire.TheConstants.{PAYLOAD_LENGTH}

-- a piece of a unit: its bytes, and whether the unit starts with it
pub record Piece : Type 0 where
  pub bytes : List ℕ
  pub starts : Bool

-- a piece without bytes
abbrev pub no_piece : Piece
no_piece = record { bytes = []; starts = false }

-- how many pieces of 184 bytes, the last perhaps shorter, a unit has
abbrev pub piece_count : List ℕ → ℕ
piece_count unit = packet_count (length unit)

-- the piece of a unit at that place, from 0
abbrev pub piece_of : List ℕ → ℕ → Piece
piece_of unit k = record { bytes = take PAYLOAD_LENGTH (drop (PAYLOAD_LENGTH * k) unit); starts = k == 0 }

-- the pieces of a unit, in order
abbrev pub pieces_of : List ℕ → List Piece
pieces_of unit = map (piece_of unit) (range_with_len 0 (piece_count unit))

-- the pieces of several units, one unit after the other
abbrev pub all_pieces : List (List ℕ) → List Piece
all_pieces units = flat_map pieces_of units

-- the packet of a piece; the counters of the packets go round from 0 to 15
abbrev pub packet_of : ℕ → ℕ → Piece → List ℕ
packet_of pid number piece = written_packet pid piece.starts (number % 16) piece.bytes

-- where a slot stands in a list of slots, the first of which has that number
abbrev pub place_from : ℕ → ℕ → List ℕ → Option ℕ
place_from number slot [] = None
place_from number slot (first ∷ slots) = if first == slot then Some number else place_from (number + 1) slot slots

-- the packet at a place, or the null packet at none
abbrev pub packet_at : ℕ → List Piece → Option ℕ → List ℕ
packet_at pid pieces None = null_packet
packet_at pid pieces (Some number) = packet_of pid number (slice_index_or pieces number no_piece)

-- the packet at a slot: that of the piece whose slot it is, and else the null packet
abbrev pub slot_packet : ℕ → List Piece → List ℕ → ℕ → List ℕ
slot_packet pid pieces slots slot = packet_at pid pieces (place_from 0 slot slots)

-- how many slots there are up to the last one of a list
abbrev pub slot_count : List ℕ → ℕ
slot_count [] = 0
slot_count (slot ∷ slots) = slice_index (slot ∷ slots) (length slots) + 1

-- the packets at all slots from 0 to the last used one
abbrev pub stream_of : ℕ → List Piece → List ℕ → List ℕ
stream_of pid pieces slots = flat_map (slot_packet pid pieces slots) (range_with_len 0 (slot_count slots))

-- the packets at the slots before one
abbrev pub packets_before : ℕ → List Piece → List ℕ → ℕ → List ℕ
packets_before pid pieces slots until = flat_map (slot_packet pid pieces slots) (range_with_len 0 until)

-- a piece has 1 to 184 bytes
abbrev pub IsPiece : Piece → Type 0
IsPiece piece = (1 ≤ length piece.bytes) × (length piece.bytes ≤ PAYLOAD_LENGTH)
