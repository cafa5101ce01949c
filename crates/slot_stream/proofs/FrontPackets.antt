-- The packets of slots in bytes: how many bytes they have, and which bytes of a stream its first packets are.
use Rattle.std.proofs.Common.{◌≡◌, ◌∙◌, refl, sym, ap, ℕ, zero, suc, ◌+◌, ◌-◌, ◌*◌, ◌<◌, ◌≤◌, min, List, [], ◌∷◌, ◌++◌, length, take, drop, get_or, All, Option, Some, None, inl, inr, arith, length-append, length-drop, add-one}
use Rattle.std.specs.List.{range_with_len}
use Rattle.std.specs.Prelude.{slice_index_or}
use Rattle.std.proofs.lemmas.Bool.{cases_lt}
use Rattle.std.proofs.lemmas.List.{get_or-append-add, length-replicate, length-take, take_all}
use Rattle.std.proofs.lemmas.List.Elements.{All-append, All-head, All-map, All-tail}
use Rattle.std.proofs.lemmas.List.FromFn.{get_or-range_with_len, length-range_with_len}
use Rattle.std.proofs.Math.Seq.{take-append_seam}
use Rattle.stream_syntax.specs.TransportPackets.{adaptation_field}
use Rattle.stream_syntax.specs.declared.wire.TheConstants.{PAYLOAD_LENGTH}
use Rattle.slot_stream.specs.SlotStream.{IsPiece, Piece, all_pieces, no_piece, packet_at, packet_of, packets_before, piece_count, piece_of, pieces_of, place_from, slot_count, slot_packet, stream_of}
use Rattle.slot_stream.proofs.FrontLaws.{later_pieces_leave_the_front, stream_begins_with_its_front}
use Rattle.slot_stream.proofs.SlotLaws.{stream-more}

-- ---- how long they are

length-adaptation : (k : ℕ) → length (adaptation_field k) ≡ k
length-adaptation zero = refl
length-adaptation (suc zero) = refl
length-adaptation (suc (suc stuffing)) = omega (arith, length-replicate {A = ℕ} stuffing 0xFF)

-- the packet of a piece has 188 bytes
pub length-packet : (pid number : ℕ) (piece : Piece) → length piece.bytes ≤ PAYLOAD_LENGTH
    → length (packet_of pid number piece) ≡ 188
length-packet pid number piece fits =
    omega (
      arith,
      fits,
      length-append (adaptation_field (184 - length piece.bytes)) piece.bytes,
      length-adaptation (184 - length piece.bytes),
    )

piece_fits : (pieces : List Piece) (k : ℕ) → All IsPiece pieces
    → length (slice_index_or pieces k no_piece).bytes ≤ PAYLOAD_LENGTH
piece_fits [] k each = omega arith
piece_fits (piece ∷ pieces) zero each = (All-head IsPiece piece pieces each).1
piece_fits (piece ∷ pieces) (suc k) each = piece_fits pieces k (All-tail IsPiece piece pieces each)

length-at : (pid : ℕ) (pieces : List Piece) (place : Option ℕ) → All IsPiece pieces
    → length (packet_at pid pieces place) ≡ 188
length-at pid pieces None each = refl
length-at pid pieces (Some k) each =
    length-packet pid k (slice_index_or pieces k no_piece) (piece_fits pieces k each)

-- so many packets have 188 times so many bytes
pub length-before : (pid : ℕ) (pieces : List Piece) (slots : List ℕ) (count : ℕ) → All IsPiece pieces
    → length (packets_before pid pieces slots count) ≡ 188 * count
length-before pid pieces slots zero each = refl
length-before pid pieces slots (suc count) each =
    let sent = slot_packet pid pieces slots in
    let more : packets_before pid pieces slots (suc count) ≡ packets_before pid pieces slots count ++ sent count =
    ap (packets_before pid pieces slots) (sym (add-one count)) ∙ stream-more sent count in
    omega (
      arith,
      ap (λ (bytes : List ℕ). length bytes) more,
      length-append (packets_before pid pieces slots count) (sent count),
      length-before pid pieces slots count each,
      length-at pid pieces (place_from 0 count slots) each,
    )

-- ---- the pieces of units

one_piece : (unit : List ℕ) (k : ℕ) → k < piece_count unit → IsPiece (piece_of unit k)
one_piece unit k below =
    let long = length-take 184 (drop (184 * k) unit) in
    let left = length-drop (184 * k) unit in
    (omega (arith, long, left, below), omega (arith, long, left))

pieces_of_unit : (unit : List ℕ) → All IsPiece (pieces_of unit)
pieces_of_unit unit =
    All-map IsPiece (piece_of unit) (range_with_len 0 (piece_count unit))
    (λ k d within.
    let short : k < piece_count unit =
    omega (arith, within, length-range_with_len 0 (piece_count unit)) in
    let place = get_or-range_with_len 0 (piece_count unit) k d short in
    one_piece unit (get_or (range_with_len 0 (piece_count unit)) k d) (omega (arith, place, short)))

-- the pieces of units have 1 to 184 bytes each
pub all_are_pieces : (units : List (List ℕ)) → All IsPiece (all_pieces units)
all_are_pieces [] = λ k d within. absurd (omega (arith, within))
all_are_pieces (unit ∷ units) =
    All-append IsPiece (pieces_of unit) (all_pieces units) (pieces_of_unit unit) (all_are_pieces units)

-- ---- prefixes of a stream

min_left : (a b : ℕ) → a ≤ b → a ≡ min a b
min_left a b less = grind arith

min_right : (a b : ℕ) → b < a → b ≡ min a b
min_right a b less = grind arith

-- the first bytes of a stream are its first packets, as far as it has them
pub front_of_stream : (pid : ℕ) (pieces : List Piece) (slots : List ℕ) (count : ℕ) → All IsPiece pieces
    → take (188 * count) (stream_of pid pieces slots)
    ≡ packets_before pid pieces slots (min count (slot_count slots))
front_of_stream pid pieces slots count each =
    let all = slot_count slots in
    elim (cases_lt all count) [
      | inl few ↦ take_all (188 * count) (stream_of pid pieces slots)
          (omega (arith, length-before pid pieces slots all each, few))
          ∙ ap (packets_before pid pieces slots) (min_right count all few)
      | inr many ↦
          let front = packets_before pid pieces slots count in
          let split = stream_begins_with_its_front pid pieces slots count many in
          let long : 188 * count ≡ length front = sym (length-before pid pieces slots count each) in
          ap (λ (n : ℕ). take n (stream_of pid pieces slots)) long
          ∙ ap (take (length front)) split.1
          ∙ take-append_seam front split.0
          ∙ ap (packets_before pid pieces slots) (min_left count all many)
    ]

-- further slots from one on reach behind it
reaches : (slots late : List ℕ) (until : ℕ) → 1 ≤ length late → All (λ slot. until ≤ slot) late
    → until < slot_count (slots ++ late)
reaches [] [] until some above = absurd (omega (arith, some))
reaches [] (slot ∷ late) until some above = let last = above (length late) 0 (omega arith) in omega (arith, last)
reaches (slot ∷ slots) late until some above = last_of slot slots late until some above
  where
    last_of : (slot : ℕ) (slots late : List ℕ) (until : ℕ) → 1 ≤ length late → All (λ slot. until ≤ slot) late
        → until < slot_count ((slot ∷ slots) ++ late)
    last_of slot slots [] until some above = absurd (omega (arith, some))
    last_of slot slots (first ∷ late) until some above =
        let last = above (length late) 0 (omega arith) in
        let long = length-append slots (first ∷ late) in
        let place : length (slots ++ first ∷ late) ≡ length (slot ∷ slots) + length late = omega (arith, long) in
        omega (
          arith,
          last,
          ap (λ (n : ℕ). slice_index_or ((slot ∷ slots) ++ first ∷ late) n 0) place,
          get_or-append-add (slot ∷ slots) (first ∷ late) (length late) 0,
        )

enough : (slots late later : List ℕ) (until : ℕ) → All (λ slot. until ≤ slot) later
    → (1 ≤ length late → 1 ≤ length later) → min until (slot_count (slots ++ late)) ≤ slot_count (slots ++ later)
enough slots [] [] until above goes_on = grind arith
enough slots (slot ∷ late) [] until above goes_on = absurd (omega (arith, goes_on (omega arith)))
enough slots late (slot ∷ later) until above goes_on =
    let far = reaches slots (slot ∷ later) until (omega arith) above in
    let least : min until (slot_count (slots ++ late)) ≤ until = grind arith in
    omega (arith, far, least)

-- Two streams of the same first pieces at the same first slots, and of further ones at slots from one on: the second
-- begins with all packets that the first has before that slot, where it has further pieces if the first has
pub front_stays : (pid : ℕ) (pieces more others : List Piece) (slots late later : List ℕ) (until : ℕ)
    → All IsPiece (pieces ++ more) → length pieces ≡ length slots
    → All (λ slot. until ≤ slot) late → All (λ slot. until ≤ slot) later → (1 ≤ length late → 1 ≤ length later)
    → (rest : List ℕ)
    × (stream_of pid (pieces ++ others) (slots ++ later)
    ≡ take (188 * until) (stream_of pid (pieces ++ more) (slots ++ late)) ++ rest)
front_stays pid pieces more others slots late later until each same above over goes_on =
    let count = min until (slot_count (slots ++ late)) in
    let low : count ≤ until = grind arith in
    let split = stream_begins_with_its_front pid (pieces ++ others) (slots ++ later) count
    (enough slots late later until over goes_on) in
    let front : packets_before pid (pieces ++ others) (slots ++ later) count
    ≡ packets_before pid pieces slots count =
    later_pieces_leave_the_front pid pieces others slots later count same
    (λ k d within. let far = over k d within in omega (arith, far, low)) in
    let back : packets_before pid (pieces ++ more) (slots ++ late) count ≡ packets_before pid pieces slots count =
    later_pieces_leave_the_front pid pieces more slots late count same
    (λ k d within. let far = above k d within in omega (arith, far, low)) in
    let taken = front_of_stream pid (pieces ++ more) (slots ++ late) until each in (
      split.0,
      split.1 ∙ ap (λ (bytes : List ℕ). bytes ++ split.0) (front ∙ sym back ∙ sym taken),
    )
