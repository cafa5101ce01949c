-- The packets of slots that are written at once.
use Rattle.std.specs.Prelude.{◌≡◌, ℕ, ◌+◌, ◌<◌, List, [], All, length, slice_index_or, None}
use Rattle.std.specs.List.{flat_map, range_with_len}
use Rattle.stream_syntax.specs.TransportPackets.{null_packet}
use Rattle.slot_stream.specs.SlotStream.{Piece, place_from, slot_packet}

-- the packets at so many slots from one on
abbrev pub packets_at : ℕ → List Piece → List ℕ → ℕ → ℕ → List ℕ
packets_at pid pieces slots from count = flat_map (slot_packet pid pieces slots) (range_with_len from count)

-- all are null packets
abbrev pub AreNull : List (List ℕ) → Type 0
AreNull packets = All (λ packet. packet ≡ null_packet) packets

-- of packets at slots from one on, those at slots that are not in the list are null packets
abbrev pub AreNullElsewhere : List ℕ → ℕ → List (List ℕ) → Type 0
AreNullElsewhere slots from packets =
    (i : ℕ) → i < length packets → place_from 0 (from + i) slots ≡ None → slice_index_or packets i [] ≡ null_packet
