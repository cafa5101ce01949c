-- Packets that are kept until they are written, each with its slot.
use Rattle.std.specs.Prelude.{◌≡◌, ℕ, ◌+◌, List, [], ◌∷◌, length, slice_index_or, All, Option, Some, None}
use Rattle.std.specs.List.{flat_map, range_with_len}
use Rattle.std.specs.List.Sorted.{IsStrictlyIncreasing}
use Rattle.stream_syntax.specs.TransportPackets.{null_packet}
use Rattle.stream_syntax.specs.declared.wire.TheConstants.{PACKET_LENGTH}
use Rattle.slot_stream.specs.SlotStream.{Piece, packet_of, place_from}

-- packets, and the slot of each
pub record SlottedPackets : Type 0 where
  pub slots : List ℕ
  pub packets : List (List ℕ)

-- the packets of pieces, the first of which has that number in its stream
abbrev pub numbered : ℕ → ℕ → List Piece → List (List ℕ)
numbered pid number [] = []
numbered pid number (piece ∷ pieces) = packet_of pid number piece ∷ numbered pid (number + 1) pieces

-- the packet at a place of a list, or the null packet at none
abbrev pub listed_packet : List (List ℕ) → Option ℕ → List ℕ
listed_packet packets None = null_packet
listed_packet packets (Some place) = slice_index_or packets place null_packet

-- the packet at a slot: the one whose slot it is, and else the null packet
abbrev pub kept_packet : SlottedPackets → ℕ → List ℕ
kept_packet kept slot = listed_packet kept.packets (place_from 0 slot kept.slots)

-- the packets at so many slots from one on
abbrev pub packets_from : SlottedPackets → ℕ → ℕ → List ℕ
packets_from kept from count = flat_map (kept_packet kept) (range_with_len from count)

-- each packet has a slot, these rise, and packets have 188 bytes
pub record HaveRisingSlots (kept : SlottedPackets) : Type 0 where
  pub pairs : length kept.slots ≡ length kept.packets
  pub rising : IsStrictlyIncreasing kept.slots
  pub whole : All (λ packet. length packet ≡ PACKET_LENGTH) kept.packets
