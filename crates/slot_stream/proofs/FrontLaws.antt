-- Pieces and slots with further ones behind them: the packets at the slots before these are the same.
use Rattle.std.proofs.Common.{◌≡◌, ◌∙◌, refl, sym, ap, ℕ, ◌+◌, ◌<◌, ◌≤◌, ◌==◌, Bool, true, false, cond, List, [], ◌∷◌, ◌++◌, length, All, Option, Some, None, arith}
use Rattle.std.specs.List.{concat, range_with_len}
use Rattle.std.proofs.lemmas.List.{get_or_append_left}
use Rattle.slot_stream.specs.SlotStream.{Piece, no_piece, packet_at, packet_of, packets_before, place_from, slot_count, slot_packet, stream_of}
use Rattle.slot_stream.proofs.LaidPackets.{joined_map, map-same}
use Rattle.slot_stream.proofs.SlotLaws.{place_from-none, stream-rest}

-- later slots are not that of an earlier packet
place_front : (number slot until : ℕ) (slots late : List ℕ) → All (λ slot. until ≤ slot) late → slot < until
    → place_from number slot (slots ++ late) ≡ place_from number slot slots
place_front number slot until [] late above below =
    place_from-none late number slot
    (λ j within same. let least = above j 0 within in omega (arith, least, same, below))
place_front number slot until (first ∷ slots) late above below =
    ap (λ rest. cond (first == slot) (Some number) rest) (place_front (number + 1) slot until slots late above below)

-- a place, where there is one, is below a bound
abbrev IsBelow : ℕ → Option ℕ → Type 0
IsBelow bound None = Unit {0}
IsBelow bound (Some place) = place < bound

either_below : (same : Bool) (bound number : ℕ) (rest : Option ℕ) → number < bound → IsBelow bound rest
    → IsBelow bound (cond same (Some number) rest)
either_below true bound number rest here there = here
either_below false bound number rest here there = there

place_below : (number slot bound : ℕ) (slots : List ℕ) → number + length slots ≤ bound
    → IsBelow bound (place_from number slot slots)
place_below number slot bound [] most = tt
place_below number slot bound (first ∷ slots) most =
    either_below (first == slot) bound number (place_from (number + 1) slot slots) (omega arith)
    (place_below (number + 1) slot bound slots (omega arith))

piece_front : (pid : ℕ) (pieces more : List Piece) (place : Option ℕ) → IsBelow (length pieces) place
    → packet_at pid (pieces ++ more) place ≡ packet_at pid pieces place
piece_front pid pieces more None below = refl
piece_front pid pieces more (Some place) below =
    ap (packet_of pid place) (get_or_append_left pieces more no_piece place below)

packet_front : (pid : ℕ) (pieces more : List Piece) (slots late : List ℕ) (until slot : ℕ)
    → length pieces ≡ length slots → All (λ slot. until ≤ slot) late → slot < until
    → slot_packet pid (pieces ++ more) (slots ++ late) slot ≡ slot_packet pid pieces slots slot
packet_front pid pieces more slots late until slot same above below =
    ap (packet_at pid (pieces ++ more)) (place_front 0 slot until slots late above below)
    ∙ piece_front pid pieces more (place_from 0 slot slots)
    (place_below 0 slot (length pieces) slots (omega (arith, same)))

-- pieces that come later leave the packets at the slots before theirs as they are
pub later_pieces_leave_the_front : (pid : ℕ) (pieces more : List Piece) (slots late : List ℕ) (until : ℕ)
    → length pieces ≡ length slots → All (λ slot. until ≤ slot) late
    → packets_before pid (pieces ++ more) (slots ++ late) until ≡ packets_before pid pieces slots until
later_pieces_leave_the_front pid pieces more slots late until same above =
    let long = slot_packet pid (pieces ++ more) (slots ++ late) in
    let short = slot_packet pid pieces slots in
    joined_map long (range_with_len 0 until)
    ∙ ap concat (map-same long short 0 until
    (λ i below. packet_front pid pieces more slots late until (0 + i) same above (omega arith)))
    ∙ sym (joined_map short (range_with_len 0 until))

-- a stream begins with the packets at its first slots
pub stream_begins_with_its_front : (pid : ℕ) (pieces : List Piece) (slots : List ℕ) (until : ℕ)
    → until ≤ slot_count slots
    → (rest : List ℕ) × (stream_of pid pieces slots ≡ packets_before pid pieces slots until ++ rest)
stream_begins_with_its_front pid pieces slots until most =
    let split = stream-rest (slot_packet pid pieces slots) until (slot_count slots) most in (split.0, sym split.1)
