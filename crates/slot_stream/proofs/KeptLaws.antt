-- Packets that are kept: those of pieces, the packet at a slot, and those that a stream has left.
use Rattle.std.proofs.Common.{◌≡◌, ◌≢◌, ◌∙◌, refl, sym, ap, subst, ℕ, zero, suc, ◌+◌, ◌-◌, ◌*◌, ◌<◌, ◌≤◌, ◌==◌, cond, nat_lt, true, false, Bool, List, [], ◌∷◌, ◌++◌, length, take, drop, get_or, All, Option, Some, None, option_map, inl, inr, arith, length-drop}
use Rattle.std.specs.List.{concat, flat_map, range_with_len}
use Rattle.std.specs.List.Sorted.{IsNonDecreasingBy, IsPartitionPoint, IsStrictlyIncreasing}
use Rattle.std.proofs.lemmas.Bool.{cases_lt, ne_eqb}
use Rattle.std.proofs.lemmas.Bool.Decides.{nat_tests}
use Rattle.std.proofs.lemmas.Grind.{flat_map-append}
use Rattle.std.proofs.lemmas.List.{append-nil, get_or-drop, get_or_default, length-take-le, take_more}
use Rattle.std.proofs.Math.Seq.{drop-append_seam}
use Rattle.stream_syntax.specs.TransportPackets.{null_packet}
use Rattle.slot_stream.specs.KeptPackets.{HaveRisingSlots, SlottedPackets, kept_packet, listed_packet, numbered, packets_from}
use Rattle.slot_stream.specs.SlotStream.{IsPiece, Piece, no_piece, packet_at, packet_of, packets_before, place_from, slot_packet}
use Rattle.slot_stream.specs.SlotWalk.{IsNextPlace}
use Rattle.slot_stream.proofs.FrontPackets.{length-before, length-packet}
use Rattle.slot_stream.proofs.LaidPackets.{joined_map, map-same, range-split}
use Rattle.slot_stream.proofs.SlotLaws.{IsNext-idle, IsNext-sent, later_slot, place_from-idle, place_from-next}

-- ---- the packets of pieces

numbered_append : (pid number : ℕ) (pieces : List Piece) (piece : Piece)
    → numbered pid number (pieces ++ piece ∷ [])
    ≡ numbered pid number pieces ++ packet_of pid (number + length pieces) piece ∷ []
numbered_append pid number [] piece = ap (λ (k : ℕ). packet_of pid k piece ∷ []) (omega arith)
numbered_append pid number (first ∷ pieces) piece =
    ap (λ (rest : List (List ℕ)). packet_of pid number first ∷ rest)
    (numbered_append pid (number + 1) pieces piece
    ∙ ap (λ (k : ℕ). numbered pid (number + 1) pieces ++ packet_of pid k piece ∷ []) (omega arith))

-- one packet more
pub numbered_more : (pid number : ℕ) (pieces : List Piece) (i : ℕ) (piece : Piece) → i < length pieces
    → piece ≡ get_or pieces i piece
    → numbered pid number (take (i + 1) pieces)
    ≡ numbered pid number (take i pieces) ++ packet_of pid (number + i) piece ∷ []
numbered_more pid number pieces i piece within is =
    let long : number + length (take i pieces) ≡ number + i =
    ap (λ (k : ℕ). number + k) (length-take-le i pieces (omega (arith, within))) in
    ap (numbered pid number) (take_more pieces i piece within)
    ∙ numbered_append pid number (take i pieces) (get_or pieces i piece)
    ∙ ap (λ (k : ℕ). numbered pid number (take i pieces) ++ packet_of pid k (get_or pieces i piece) ∷ []) long
    ∙ ap (λ (one : Piece). numbered pid number (take i pieces) ++ packet_of pid (number + i) one ∷ []) (sym is)

pub length-numbered : (pid number : ℕ) (pieces : List Piece) → length (numbered pid number pieces) ≡ length pieces
length-numbered pid number [] = refl
length-numbered pid number (piece ∷ pieces) = ap suc (length-numbered pid (number + 1) pieces)

-- the packet of the piece at a place
numbered_at : (pid number : ℕ) (pieces : List Piece) (k : ℕ) → k < length pieces
    → get_or (numbered pid number pieces) k null_packet ≡ packet_of pid (number + k) (get_or pieces k no_piece)
numbered_at pid number [] k within = absurd (omega (arith, within))
numbered_at pid number (piece ∷ pieces) zero within = ap (λ (n : ℕ). packet_of pid n piece) (omega arith)
numbered_at pid number (piece ∷ pieces) (suc k) within =
    numbered_at pid (number + 1) pieces k (omega (arith, within))
    ∙ ap (λ (n : ℕ). packet_of pid n (get_or pieces k no_piece)) (omega arith)

-- each has 188 bytes
pub numbered_whole : (pid number : ℕ) (pieces : List Piece) → All IsPiece pieces
    → All (λ (packet : List ℕ). length packet ≡ 188) (numbered pid number pieces)
numbered_whole pid number [] each k d within = absurd (omega (arith, within))
numbered_whole pid number (piece ∷ pieces) each zero d within =
    length-packet pid number piece (each 0 piece (omega arith)).1
numbered_whole pid number (piece ∷ pieces) each (suc k) d within =
    numbered_whole pid (number + 1) pieces (λ j e inside. each (suc j) e (omega (arith, inside))) k d
    (omega (arith, within))

-- ---- the packet at a slot

pub kept_next : (kept : SlottedPackets) (next slot : ℕ) (d : List ℕ) → IsNextPlace kept.slots next slot
    → length kept.slots ≡ length kept.packets → next < length kept.slots → get_or kept.slots next 0 ≡ slot
    → kept_packet kept slot ≡ get_or kept.packets next d
kept_next kept next slot d at pairs within is =
    ap (listed_packet kept.packets) (place_from-next kept.slots next slot at within is)
    ∙ get_or_default kept.packets next null_packet d (omega (arith, within, pairs))

pub kept_idle : (kept : SlottedPackets) (next slot : ℕ) → IsStrictlyIncreasing kept.slots
    → IsNextPlace kept.slots next slot
    → (next < length kept.slots → get_or kept.slots next 0 ≢ slot) → kept_packet kept slot ≡ null_packet
kept_idle kept next slot rising at idle =
    ap (listed_packet kept.packets) (place_from-idle kept.slots next slot rising at idle)

-- what holds of the packet that is put out next holds of the one at its slot
pub next_put : (Holds : List ℕ → Type 0) (kept : SlottedPackets) (next slot : ℕ) (slots : List ℕ)
    (packets : List (List ℕ))
    (d : List ℕ) → slots ≡ kept.slots → packets ≡ kept.packets → HaveRisingSlots kept → IsNextPlace kept.slots next slot
    → next < length slots → get_or slots next 0 ≡ slot → Holds (get_or packets next d) → Holds (kept_packet kept slot)
next_put Holds kept next slot slots packets d same are good at within is holds =
    let inside : next < length kept.slots = subst (λ (xs : List ℕ). next < length xs) same within in
    let here : get_or kept.slots next 0 ≡ slot = ap (λ (xs : List ℕ). get_or xs next 0) (sym same) ∙ is in
    let told = kept_next kept next slot d at good.pairs inside here in
    subst Holds (ap (λ (xs : List (List ℕ)). get_or xs next d) are ∙ sym told) holds

-- what holds of the null packet holds of the one at a slot that no packet is kept for
pub idle_put : (Holds : List ℕ → Type 0) (kept : SlottedPackets) (next slot : ℕ) (slots null : List ℕ)
    → slots ≡ kept.slots
    → HaveRisingSlots kept → IsNextPlace kept.slots next slot → (next < length slots → get_or slots next 0 ≢ slot)
    → null ≡ null_packet → Holds null → Holds (kept_packet kept slot)
idle_put Holds kept next slot slots null same good at idle is holds =
    let Idle : List ℕ → Type 0 = λ xs. next < length xs → get_or xs next 0 ≢ slot in
    subst Holds (is ∙ sym (kept_idle kept next slot good.rising at (subst Idle same idle))) holds

-- after the slot of a packet that is kept, and after another one
pub next_sent : (kept : SlottedPackets) (next slot : ℕ) (slots : List ℕ) → slots ≡ kept.slots → HaveRisingSlots kept
    → IsNextPlace kept.slots next slot → next < length slots → get_or slots next 0 ≡ slot
    → IsNextPlace kept.slots (next + 1) (slot + 1)
next_sent kept next slot slots same good at within is =
    IsNext-sent kept.slots next slot good.rising at (subst (λ (xs : List ℕ). next < length xs) same within)
    (ap (λ (xs : List ℕ). get_or xs next 0) (sym same) ∙ is)

pub next_idle : (kept : SlottedPackets) (next slot : ℕ) (slots : List ℕ) → slots ≡ kept.slots → HaveRisingSlots kept
    → IsNextPlace kept.slots next slot → (next < length slots → get_or slots next 0 ≢ slot)
    → IsNextPlace kept.slots next (slot + 1)
next_idle kept next slot slots same good at idle =
    let Idle : List ℕ → Type 0 = λ xs. next < length xs → get_or xs next 0 ≢ slot in
    IsNext-idle kept.slots next slot good.rising at (subst Idle same idle)

-- one slot more is put out
pub packets_more : (kept : SlottedPackets) (from slot : ℕ) → from ≤ slot
    → packets_from kept from (slot + 1 - from) ≡ packets_from kept from (slot - from) ++ kept_packet kept slot
packets_more kept from slot order =
    let count = slot - from in
    let more : slot + 1 - from ≡ count + 1 = omega (arith, order) in
    let place : from + count ≡ slot = omega (arith, order) in
    ap (packets_from kept from) more
    ∙ ap (λ (xs : List ℕ). flat_map (kept_packet kept) xs) (range-split count from 1)
    ∙ flat_map-append (kept_packet kept) (range_with_len from count) ((from + count) ∷ [])
    ∙ ap (λ (xs : List ℕ). packets_from kept from count ++ xs)
    (append-nil (kept_packet kept (from + count)) ∙ ap (kept_packet kept) place)

-- what is put out goes on to the last slot
pub packets_rest : (kept : SlottedPackets) (from slot until : ℕ) → from ≤ slot → slot ≤ until
    → (rest : List ℕ) × (packets_from kept from (slot - from) ++ rest ≡ packets_from kept from (until - from))
packets_rest kept from slot until order within =
    let count = slot - from in
    let all : until - from ≡ count + (until - slot) = omega (arith, order, within) in (
      packets_from kept (from + count) (until - slot),
      sym (ap (packets_from kept from) all
          ∙ ap (λ (xs : List ℕ). flat_map (kept_packet kept) xs) (range-split count from (until - slot))
          ∙ flat_map-append (kept_packet kept) (range_with_len from count)
          (range_with_len (from + count) (until - slot))),
    )

-- rising slots do not fall
pub never_falls : (slots : List ℕ) → IsStrictlyIncreasing slots → IsNonDecreasingBy (λ (slot : ℕ). slot) slots
never_falls slots rising i j d low short =
    let within : i < length slots = omega (arith, low, short) in
    let first = get_or_default slots i d 0 within in
    let second = get_or_default slots j d 0 short in
    elim (cases_lt i j) [
      | inl below ↦ omega (arith, later_slot slots i j rising below short, first, second)
      | inr above ↦
          let same : i ≡ j = omega (arith, above, low) in
          omega (arith, ap (λ (k : ℕ). get_or slots k d) same)
    ]

-- the slots before one, found by parting
pub first_next : (slots : List ℕ) (next from : ℕ) → next ≤ length slots
    → IsPartitionPoint (λ slot. nat_lt slot from ≡ true) (λ slot. nat_lt slot from ≡ false) slots next
    → IsNextPlace slots next from
first_next slots next from within (before, after) = record {
  within = within;
  before = λ j low. let test = before j 0 (omega arith) low in below (get_or slots j 0) from test;
  after = λ j low high. let test = after j 0 low high in above (get_or slots j 0) from test;
}
  where
    below : (slot from : ℕ) → nat_lt slot from ≡ true → slot < from
    below slot from test = grind (arith, nat_tests)

    above : (slot from : ℕ) → nat_lt slot from ≡ false → from ≤ slot
    above slot from test = grind (arith, nat_tests)

-- ---- what a stream has left

-- places that are counted from another number
place_shift : (number offset slot : ℕ) (slots : List ℕ)
    → place_from (offset + number) slot slots ≡ option_map (λ (k : ℕ). offset + k) (place_from number slot slots)
place_shift number offset slot [] = refl
place_shift number offset slot (first ∷ slots) = here (first == slot)
    (ap (λ (k : ℕ). place_from k slot slots) (omega arith) ∙ place_shift (number + 1) offset slot slots)
  where
    here : (b : Bool) → place_from (offset + number + 1) slot slots
        ≡ option_map (λ (k : ℕ). offset + k) (place_from (number + 1) slot slots)
        → cond b (Some (offset + number)) (place_from (offset + number + 1) slot slots)
        ≡ option_map (λ (k : ℕ). offset + k) (cond b (Some number) (place_from (number + 1) slot slots))
    here true rest = refl
    here false rest = rest

-- slots before one are passed over
skip : (slots : List ℕ) (n number slot : ℕ) → n ≤ length slots → ((j : ℕ) → j < n → get_or slots j 0 < slot)
    → place_from number slot slots ≡ place_from (number + n) slot (drop n slots)
skip slots zero number slot within before = ap (λ (k : ℕ). place_from k slot slots) (omega arith)
skip [] (suc n) number slot within before = absurd (omega (arith, within))
skip (first ∷ slots) (suc n) number slot within before =
    let low : first < slot = before 0 (omega arith) in
    ap (λ same. cond same (Some number) (place_from (number + 1) slot slots))
    (ne_eqb first slot (λ e. omega (arith, low, e)))
    ∙ skip slots n (number + 1) slot (omega (arith, within)) (λ j less. before (suc j) (omega (arith, less)))
    ∙ ap (λ (k : ℕ). place_from k slot (drop n slots)) (omega arith)

-- a place, where there is one, is one of the list's
abbrev IsBelow : ℕ → Option ℕ → Type 0
IsBelow bound None = Unit {0}
IsBelow bound (Some place) = place < bound

either_below : (same : Bool) (bound number : ℕ) (rest : Option ℕ) → number < bound → IsBelow bound rest
    → IsBelow bound (cond same (Some number) rest)
either_below true bound number rest here there = here
either_below false bound number rest here there = there

place_below : (number slot bound : ℕ) (slots : List ℕ) → number + length slots ≤ bound
    → IsBelow bound (place_from number slot slots)
place_below number slot bound [] most = tt
place_below number slot bound (first ∷ slots) most =
    either_below (first == slot) bound number (place_from (number + 1) slot slots) (omega (arith, most))
    (place_below (number + 1) slot bound slots (omega (arith, most)))

-- the packets that are left of pieces
abbrev pub left_of : ℕ → List Piece → List ℕ → ℕ → SlottedPackets
left_of pid pieces slots n = record { slots = drop n slots; packets = numbered pid n (drop n pieces) }

same_packet : (pid : ℕ) (pieces : List Piece) (n : ℕ) (place : Option ℕ) → IsBelow (length (drop n pieces)) place
    → packet_at pid pieces (option_map (λ (k : ℕ). n + k) place)
    ≡ listed_packet (numbered pid n (drop n pieces)) place
same_packet pid pieces n None below = refl
same_packet pid pieces n (Some place) below =
    ap (packet_of pid (n + place)) (sym (get_or-drop n pieces place no_piece))
    ∙ sym (numbered_at pid n (drop n pieces) place below)

-- from one slot on, a stream has the packets that are left of its pieces behind those of earlier slots
left_packet : (pid : ℕ) (pieces : List Piece) (slots : List ℕ) (n slot : ℕ) → length pieces ≡ length slots
    → n ≤ length slots → ((j : ℕ) → j < n → get_or slots j 0 < slot)
    → slot_packet pid pieces slots slot ≡ kept_packet (left_of pid pieces slots n) slot
left_packet pid pieces slots n slot same within before =
    let long : length (drop n pieces) ≡ length (drop n slots) =
    omega (arith, length-drop n pieces, length-drop n slots, same) in
    let shifted : place_from (0 + n) slot (drop n slots)
    ≡ option_map (λ (k : ℕ). n + k) (place_from 0 slot (drop n slots)) =
    ap (λ (k : ℕ). place_from k slot (drop n slots)) (omega arith) ∙ place_shift 0 n slot (drop n slots) in
    ap (packet_at pid pieces) (skip slots n 0 slot within before ∙ shifted)
    ∙ same_packet pid pieces n (place_from 0 slot (drop n slots))
    (place_below 0 slot (length (drop n pieces)) (drop n slots) (omega (arith, long)))

-- the packets from one slot on are those that are left
pub left_packets : (pid : ℕ) (pieces : List Piece) (slots : List ℕ) (n from until : ℕ)
    → All IsPiece pieces → length pieces ≡ length slots → n ≤ length slots
    → ((j : ℕ) → j < n → get_or slots j 0 < from) → from ≤ until
    → drop (188 * from) (packets_before pid pieces slots until)
    ≡ packets_from (left_of pid pieces slots n) from (until - from)
left_packets pid pieces slots n from until each same within before order =
    let sent = slot_packet pid pieces slots in
    let kept = kept_packet (left_of pid pieces slots n) in
    let more = until - from in
    let first = packets_before pid pieces slots from in
    let all : until ≡ from + more = omega (arith, order) in
    let split : packets_before pid pieces slots until ≡ first ++ flat_map sent (range_with_len from more) =
    ap (packets_before pid pieces slots) all ∙ ap (flat_map sent) (range-split from 0 more)
    ∙ flat_map-append sent (range_with_len 0 from) (range_with_len (0 + from) more)
    ∙ ap (λ (k : ℕ). first ++ flat_map sent (range_with_len k more)) (omega arith) in
    let long : 188 * from ≡ length first = sym (length-before pid pieces slots from each) in
    ap (λ (k : ℕ). drop k (packets_before pid pieces slots until)) long
    ∙ ap (drop (length first)) split
    ∙ drop-append_seam first (flat_map sent (range_with_len from more))
    ∙ joined_map sent (range_with_len from more)
    ∙ ap (λ (packets : List (List ℕ)). concat packets)
    (map-same sent kept from more
    (λ i low. left_packet pid pieces slots n (from + i) same within
    (λ j less. omega (arith, before j less))))
    ∙ sym (joined_map kept (range_with_len from more))
