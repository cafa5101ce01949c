-- The packets of a set: those of its units, one unit after the other. Each unit begins a packet with the start flag,
-- and all its packets but the last are full; in the stream each packet of the set stands at its slot.
use Rattle.std.proofs.Common.{◌≡◌, ◌∙◌, ℕ, zero, suc, ◌+◌, ◌-◌, ◌*◌, ◌<◌, ◌≤◌, true, false, List, [], ◌∷◌, ◌++◌, length, map, drop, get_or, replicate, refl, sym, ap, arith, length-append, length-drop}
use Rattle.std.specs.Prelude.{slice_index, slice_index_or, sum}
use Rattle.std.specs.List.{range_with_len, flat_map}
use Rattle.std.proofs.Math.ListN.{get_or-append}
use Rattle.std.proofs.lemmas.List.{length-take, length-replicate, map-append, get_or-drop}
use Rattle.std.proofs.lemmas.List.FromFn.{length-map-range_with_len}
use Rattle.std.proofs.lemmas.List.Sums.{sum_by-cons}
use Rattle.sub_base.specs.Pace.{pace_of}
use Rattle.sub_base.specs.Profile.{profile_of}
use Rattle.sub_base.specs.declared.load.WriteLoad.{WriteLoad}
use Rattle.stream_syntax.specs.TransportPackets.{null_packet}
use Rattle.schedule.specs.Packets.{payload_in, unit_payloads, payloads_of, units_of, packets_of, first_packet}
use Rattle.schedule.specs.Slots.{slot_of}
use Rattle.shown_stream.specs.Compiled.{all_units, IsCompiledTo, Compiling}
use Rattle.sent_sets.specs.SentStream.{AreSizedAs}
use Rattle.slot_stream.specs.SlotStream.{Piece, no_piece, piece_count, piece_of, pieces_of, all_pieces, packet_of}
use Rattle.shown_stream.proofs.Sent.CompiledPackets.{packets_in}
use Rattle.slot_stream.proofs.LaidPackets.{laid, IsAhead}
use Rattle.slot_stream.proofs.SentPieces.{AreFurther}
use Rattle.slot_stream.proofs.SentStream.{further_of, its_pieces, its_further}
use Rattle.sent_sets.proofs.LateStream.{later_slots}
use Rattle.sent_sets.proofs.PacketCounts.{count_pieces, count_of_set, pieces_from}
use Rattle.sent_sets.proofs.RisingSlots.{slots_rise}

-- ---- the pieces of a unit

abbrev pub bytes_in : Piece → ℕ
bytes_in piece = length piece.bytes

-- each piece has 184 bytes of its unit, and the last what is left
piece_bytes : (unit : List ℕ) (k : ℕ) → bytes_in (piece_of unit k) ≡ payload_in (length unit) k
piece_bytes unit k = omega (arith, length-take 184 (drop (184 * k) unit), length-drop (184 * k) unit)

pieces_bytes : (unit : List ℕ) (k count : ℕ)
    → map bytes_in (map (piece_of unit) (range_with_len k count))
    ≡ map (payload_in (length unit)) (range_with_len k count)
pieces_bytes unit k zero = refl
pieces_bytes unit k (suc count) =
    ap (λ n. n ∷ map bytes_in (map (piece_of unit) (range_with_len (k + 1) count))) (piece_bytes unit k)
    ∙ ap (λ rest. payload_in (length unit) k ∷ rest) (pieces_bytes unit (k + 1) count)

-- the packets of a set's units have the bytes that a schedule counts for them
pub all_bytes : (packets : List (List ℕ)) → payloads_of (map length packets) ≡ map bytes_in (all_pieces packets)
unfolding payloads_of
all_bytes [] = refl
all_bytes (packet ∷ packets) =
    ap (λ front. front ++ flat_map unit_payloads (map length packets))
    (sym (pieces_bytes packet 0 (piece_count packet)))
    ∙ ap (λ rest. map bytes_in (pieces_of packet) ++ rest) (all_bytes packets)
    ∙ sym (map-append bytes_in (pieces_of packet) (all_pieces packets))

units_at : (i : ℕ) (loads : List WriteLoad) (units : List (List (List ℕ))) → i < length loads
    → AreSizedAs loads units → map length (get_or units i []) ≡ units_of loads i
units_at i [] units inside sized = absurd (omega arith)
units_at i (load ∷ loads) [] inside sized = absurd sized
units_at zero (load ∷ loads) (packets ∷ units) inside sized = sized.0
units_at (suc i) (load ∷ loads) (packets ∷ units) inside sized = units_at i loads units (omega arith) sized.1

-- the bytes of the packets of a set
pub set_bytes : (i : ℕ) (loads : List WriteLoad) (units : List (List (List ℕ))) → i < length loads
    → AreSizedAs loads units → payloads_of (units_of loads i) ≡ map bytes_in (all_pieces (get_or units i []))
set_bytes i loads units inside sized =
    ap payloads_of (sym (units_at i loads units inside sized)) ∙ all_bytes (get_or units i [])

-- a set has as many packets as its units have together
pub set_count : (i : ℕ) (loads : List WriteLoad) (units : List (List (List ℕ))) → i < length loads
    → AreSizedAs loads units → packets_of loads i ≡ sum (map piece_count (get_or units i []))
set_count i loads units inside sized = count_of_set i loads units inside sized ∙ count (get_or units i [])
  where
    count : (packets : List (List ℕ)) → length (all_pieces packets) ≡ sum (map piece_count packets)
    count [] = refl
    count (packet ∷ packets) =
        omega (
          arith,
          count packets,
          length-append (pieces_of packet) (all_pieces packets),
          length-map-range_with_len (piece_of packet) 0 (piece_count packet),
          sum_by-cons (λ (n : ℕ). n) (piece_count packet) (map piece_count packets),
        )

-- a unit begins with its first piece, and with no other one
pub unit_starts : (unit : List ℕ) → 1 ≤ length unit
    → map (λ (piece : Piece). piece.starts) (pieces_of unit) ≡ true ∷ replicate (piece_count unit - 1) false
unit_starts unit some =
    ap (map (λ (piece : Piece). piece.starts)) (its_pieces unit some)
    ∙ ap (λ rest. true ∷ rest)
    (no_start (further_of unit) (its_further unit some)
    ∙ ap (λ n. replicate n false) (length-map-range_with_len (piece_of unit) 1 (piece_count unit - 1)))
  where
    no_start : (pieces : List Piece) → AreFurther pieces
        → map (λ (piece : Piece). piece.starts) pieces ≡ replicate (length pieces) false
    no_start [] h = refl
    no_start (piece ∷ pieces) h =
        ap (λ starts. starts ∷ map (λ (piece : Piece). piece.starts) pieces) h.0.1
        ∙ ap (λ rest. false ∷ rest) (no_start pieces h.1)

-- ---- the packets at their slots

behind_front : (front rest : List (List ℕ)) (k : ℕ)
    → get_or (front ++ rest) (length front + k) [] ≡ get_or rest k []
behind_front [] rest k = let same : 0 + k ≡ k = omega arith in ap (λ n. get_or rest n []) same
behind_front (first ∷ front) rest k =
    let same : suc (length front) + k
    ≡ suc (length front + k) = omega arith in ap (λ n. get_or (first ∷ (front ++ rest)) n []) same
    ∙ behind_front front rest k

-- the packet of a piece stands at the piece's slot
at_slot : (pid from number k : ℕ) (pieces : List Piece) (slots : List ℕ) → IsAhead from slots
    → length pieces ≡ length slots → k < length pieces
    → get_or (laid pid from number pieces slots) (slice_index slots k - from) []
    ≡ packet_of pid (number + k) (slice_index_or pieces k no_piece)
at_slot pid from number k [] slots ahead same inside = absurd (omega arith)
at_slot pid from number k (piece ∷ pieces) [] ahead same inside = absurd (omega arith)
at_slot pid from number zero (piece ∷ pieces) (slot ∷ slots) ahead same inside =
    let rest = laid pid (slot + 1) (number + 1) pieces slots in
    let long = length-replicate {A = List ℕ} (slot - from) null_packet in
    let place : slot - from ≡ length (replicate (slot - from) null_packet) + 0 = omega (arith, long) in
    let first : number ≡ number + 0 = omega arith in
    ap (λ n. get_or (replicate (slot - from) null_packet ++ packet_of pid number piece ∷ rest) n []) place
    ∙ behind_front (replicate (slot - from) null_packet) (packet_of pid number piece ∷ rest) 0
    ∙ ap (λ n. packet_of pid n piece) first
at_slot pid from number (suc k) (piece ∷ pieces) (slot ∷ slots) ahead same inside =
    let rest = laid pid (slot + 1) (number + 1) pieces slots in
    let long = length-replicate {A = List ℕ} (slot - from) null_packet in
    let least = ahead.0 in
    let later = later_slots (slot + 1) slots k ahead.1 (omega arith) in
    let place : slice_index slots k - from
    ≡ length (replicate (slot - from) null_packet)
    + suc (slice_index slots k - (slot + 1)) = omega (arith, long) in
    let next : number + 1 + k ≡ number + suc k = omega arith in
    ap (λ n. get_or (replicate (slot - from) null_packet ++ packet_of pid number piece ∷ rest) n []) place
    ∙ behind_front (replicate (slot - from) null_packet) (packet_of pid number piece ∷ rest)
    (suc (slice_index slots k - (slot + 1)))
    ∙ at_slot pid (slot + 1) (number + 1) k pieces slots ahead.1 (omega arith) (omega arith)
    ∙ ap (λ n. packet_of pid n (slice_index_or pieces k no_piece)) next

-- packet k of a set stands at its slot: it carries piece k of the set's units
pub packet_at_slot : (compiling : Compiling) (bytes : List ℕ)
    (compiled : IsCompiledTo compiling bytes) (i k : ℕ) → i < length compiled.loads
    → k < packets_of compiled.loads i
    → slice_index_or (packets_in compiling bytes compiled)
    (slot_of compiled.loads compiled.table.slots i k) []
    ≡ packet_of compiling.pid (first_packet compiled.loads i + k)
    (slice_index_or (all_pieces (get_or compiled.units i [])) k no_piece)
packet_at_slot compiling bytes compiled i k inside within =
    let loads = compiled.loads in
    let slots = compiled.table.slots in
    let pieces = all_pieces (all_units compiled.units) in
    let own = all_pieces (get_or compiled.units i []) in
    let later = all_pieces (all_units (drop (suc i) compiled.units)) in
    let number = first_packet loads i + k in
    let ahead =
    slots_rise loads (length loads) (pace_of compiling.script.origin (profile_of compiling.profile)) compiled.table
    compiled.schedule in
    let same : length pieces ≡ length slots =
    sym (count_pieces loads compiled.units compiled.sized) ∙ sym compiled.schedule.packets in
    let behind = pieces_from i loads compiled.units inside compiled.sized in
    let many : packets_of loads i ≡ length own = count_of_set i loads compiled.units inside compiled.sized in
    let left : length (drop (first_packet loads i) pieces) ≡ length own + length later =
    ap length behind ∙ length-append own later in
    let all : number < length pieces = omega (arith, within, many, left, length-drop (first_packet loads i) pieces) in
    let whole : slice_index slots number ≡ slice_index slots number - 0 = omega arith in
    ap (λ n. get_or (laid compiling.pid 0 0 pieces slots) n []) whole
    ∙ at_slot compiling.pid 0 0 number pieces slots ahead same all
    ∙ ap (λ n. packet_of compiling.pid n (slice_index_or pieces number no_piece)) (omega arith)
    ∙ ap (packet_of compiling.pid number)
    (sym (get_or-drop (first_packet loads i) pieces k no_piece)
    ∙ ap (λ (found : List Piece). get_or found k no_piece) behind
    ∙ get_or-append own later no_piece k (omega (arith, within, many)))
