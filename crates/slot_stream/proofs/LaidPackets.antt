-- The packets of pieces at their slots, with null packets in the slots between, one after another.
use Rattle.std.proofs.Common.{◌≡◌, ◌∙◌, ℕ, zero, suc, ◌+◌, ◌-◌, ◌<◌, ◌≤◌, cond, List, [], ◌∷◌, ◌++◌, length, map, get_or, replicate, Some, None, refl, sym, ap, arith}
use Rattle.std.specs.List.{range_with_len, flat_map, concat}
use Rattle.std.proofs.lemmas.Bool.{eq-eqb, ne_eqb}
use Rattle.std.proofs.lemmas.List.{map-append}
use Rattle.stream_syntax.specs.TransportPackets.{null_packet}
use Rattle.slot_stream.specs.SlotStream.{Piece, no_piece, packet_of, packet_at, place_from, slot_packet, slot_count, stream_of}

-- the packets from a slot on, the first piece being that of this number
abbrev pub laid : ℕ → ℕ → ℕ → List Piece → List ℕ → List (List ℕ)
laid pid from number [] slots = []
laid pid from number (piece ∷ pieces) [] = []
laid pid from number (piece ∷ pieces) (slot ∷ slots) =
    replicate (slot - from) null_packet ++ packet_of pid number piece ∷ laid pid (slot + 1) (number + 1) pieces slots

-- slots from one on, rising
abbrev pub IsAhead : ℕ → List ℕ → Type 0
IsAhead from [] = Unit {0}
IsAhead from (slot ∷ slots) = (from ≤ slot) × IsAhead (slot + 1) slots

-- the slot behind the last of some
abbrev pub behind : ℕ → List ℕ → ℕ
behind from [] = from
behind from (slot ∷ slots) = behind (slot + 1) slots

behind-last : (from slot : ℕ) (slots : List ℕ)
    → behind from (slot ∷ slots) ≡ get_or (slot ∷ slots) (length slots) 0 + 1
behind-last from slot [] = refl
behind-last from slot (next ∷ slots) = behind-last (slot + 1) next slots

behind-count : (slots : List ℕ) → behind 0 slots ≡ slot_count slots
behind-count [] = refl
behind-count (slot ∷ slots) = behind-last 0 slot slots

behind-above : (from : ℕ) (slots : List ℕ) → IsAhead from slots → from ≤ behind from slots
behind-above from [] h = omega arith
behind-above from (slot ∷ slots) h = let rest = behind-above (slot + 1) slots h.1 in let first = h.0 in omega arith

-- ---- lists of numbers

-- numbers in two parts
pub range-split : (n a m : ℕ) → range_with_len a (n + m) ≡ range_with_len a n ++ range_with_len (a + n) m
range-split zero a m = ap (range_with_len a) (omega arith) ∙ ap (λ k. range_with_len k m) (omega arith)
range-split (suc n) a m =
    let more : suc n + m ≡ suc (n + m) = omega arith in
    let next : (a + 1) + n ≡ a + suc n = omega arith in
    ap (range_with_len a) more
    ∙ ap (λ rest. a ∷ rest) (range-split n (a + 1) m
    ∙ ap (λ k. range_with_len (a + 1) n ++ range_with_len k m) next)

-- the same one by one
pub map-same : {Y : Type 0} (f g : ℕ → Y) (from count : ℕ)
    → ((i : ℕ) → i < count → f (from + i) ≡ g (from + i))
    → map f (range_with_len from count) ≡ map g (range_with_len from count)
map-same f g from zero h = refl
map-same {Y} f g from (suc count) h =
    ap {B = List Y} (λ first. first ∷ map f (range_with_len (from + 1) count))
    (ap f (omega arith) ∙ h 0 (omega arith)
    ∙ ap g (omega arith))
    ∙ ap {B = List Y} (λ rest. g from ∷ rest) (map-same f g (from + 1) count (λ i within. ap f (omega arith)
    ∙ h (suc i) (omega arith) ∙ ap g (omega arith)))

map-constant : {Y : Type 0} (y : Y) (from count : ℕ)
    → map (λ n. y) (range_with_len from count) ≡ replicate count y
map-constant y from zero = refl
map-constant {Y} y from (suc count) = ap {B = List Y} (λ rest. y ∷ rest) (map-constant y (from + 1) count)

-- ---- the packets at slots

-- a slot before all of some is none of them
none_before : (number slot from : ℕ) (slots : List ℕ) → IsAhead from slots → slot < from
    → place_from number slot slots ≡ None
none_before number slot from [] h less = refl
none_before number slot from (first ∷ slots) h less =
    let least = h.0 in
    ap (λ same. cond same (Some number) (place_from (number + 1) slot slots))
    (ne_eqb first slot (λ e. omega arith))
    ∙ none_before (number + 1) slot (first + 1) slots h.1 (omega arith)

-- the packet at a slot, where the first of these slots is that of the piece of this number
abbrev packet_from : ℕ → List Piece → ℕ → List ℕ → ℕ → List ℕ
packet_from pid pieces number slots slot = packet_at pid pieces (place_from number slot slots)

-- the packets at the slots from one on are those of the pieces that are left
at_slots : (pid : ℕ) (pieces : List Piece) (number from : ℕ) (left : List Piece) (slots : List ℕ)
    → IsAhead from slots
    → length left ≡ length slots
    → ((i : ℕ) → i < length left → get_or pieces (number + i) no_piece ≡ get_or left i no_piece)
    → map (packet_from pid pieces number slots) (range_with_len from (behind from slots - from))
    ≡ laid pid from number left slots
at_slots pid pieces number from [] [] ahead same are = let none : from - from
    ≡ 0 = omega arith in ap (λ n. map (packet_from pid pieces number []) (range_with_len from n)) none
at_slots pid pieces number from [] (slot ∷ slots) ahead same are = absurd (omega arith)
at_slots pid pieces number from (piece ∷ left) [] ahead same are = absurd (omega arith)
at_slots pid pieces number from (piece ∷ left) (slot ∷ slots) ahead same are =
    let f = packet_from pid pieces number (slot ∷ slots) in
    let g = slot - from in
    let m = behind (slot + 1) slots - (slot + 1) in
    let least = ahead.0 in
    let count : behind (slot + 1) slots - from ≡ g + suc m = omega (arith, behind-above (slot + 1) slots ahead.1) in
    let gap : (i : ℕ) → i < g
    → f (from + i)
    ≡ null_packet = λ i early. ap (packet_at pid pieces)
    (none_before number (from + i) slot (slot ∷ slots) (omega arith, ahead.1) (omega arith)) in
    let reached : from + g ≡ slot = omega arith in
    let first : number ≡ number + 0 = omega arith in
    let its_piece : get_or pieces number no_piece ≡ piece =
    ap (λ n. get_or pieces n no_piece) first ∙ are 0 (omega arith) in
    let here : f slot
    ≡ packet_of pid number piece = ap
    (λ equal. packet_at pid pieces (cond equal (Some number) (place_from (number + 1) slot slots)))
    (eq-eqb slot slot refl)
    ∙ ap (packet_of pid number) its_piece in
    let later : (i : ℕ) → i < m → f (slot + 1 + i) ≡ packet_from pid pieces (number + 1) slots (slot + 1 + i)
    = λ i within. ap
    (λ equal. packet_at pid pieces (cond equal (Some number) (place_from (number + 1) (slot + 1 + i) slots)))
    (ne_eqb slot (slot + 1 + i) (λ e. omega (arith, e))) in
    ap (λ n. map f (range_with_len from n)) count
    ∙ ap (map f) (range-split g from (suc m))
    ∙ map-append f (range_with_len from g) (range_with_len (from + g) (suc m))
    ∙ ap (λ nulls. nulls ++ map f (range_with_len (from + g) (suc m))) (map-same f (λ s. null_packet) from g gap
    ∙ map-constant null_packet from g)
    ∙ ap (λ s. replicate g null_packet ++ map f (range_with_len s (suc m))) reached
    ∙ ap (λ packet. replicate g null_packet ++ packet ∷ map f (range_with_len (slot + 1) m)) here
    ∙ ap (λ rest. replicate g null_packet ++ packet_of pid number piece ∷ rest)
    (map-same f (packet_from pid pieces (number + 1) slots) (slot + 1) m later
    ∙ at_slots pid pieces (number + 1) (slot + 1) left slots ahead.1 (omega arith)
    (λ i within. ap (λ n. get_or pieces n no_piece) (omega arith) ∙ are (suc i) (omega arith)))

pub joined_map : (f : ℕ → List ℕ) (xs : List ℕ) → flat_map f xs ≡ concat (map f xs)
joined_map f [] = refl
joined_map f (x ∷ xs) = ap (λ rest. f x ++ rest) (joined_map f xs)

-- a stream is its packets, one after another
pub stream_is_laid : (pid : ℕ) (pieces : List Piece) (slots : List ℕ) → IsAhead 0 slots
    → length pieces ≡ length slots
    → stream_of pid pieces slots ≡ concat (laid pid 0 0 pieces slots)
stream_is_laid pid pieces slots ahead same =
    let whole : behind 0 slots ≡ behind 0 slots - 0 = omega arith in
    joined_map (slot_packet pid pieces slots) (range_with_len 0 (slot_count slots))
    ∙ ap (λ n. concat (map (slot_packet pid pieces slots) (range_with_len 0 n))) (sym (behind-count slots) ∙ whole)
    ∙ ap concat
    (at_slots pid pieces 0 0 pieces slots ahead same (λ i within. ap (λ n. get_or pieces n no_piece) (omega arith)))
