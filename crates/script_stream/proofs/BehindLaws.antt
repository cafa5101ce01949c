-- What stands behind the first packets of a stream, and behind some of its slots.
use Rattle.std.proofs.Common.{◌≡◌, ◌∙◌, sym, ap, subst, ℕ, zero, suc, ◌+◌, ◌-◌, ◌*◌, ◌^◌, ◌<◌, ◌≤◌, List, [], ◌∷◌, ◌++◌, length, take, drop, get_or, All, inl, inr, arith, length-drop}
use Rattle.std.specs.Prelude.{slice_index}
use Rattle.std.specs.List.Sorted.{IsStrictlyIncreasing}
use Rattle.std.proofs.Math.Seq.{drop-append_seam}
use Rattle.std.proofs.lemmas.Bool.{cases_lt}
use Rattle.std.proofs.lemmas.Grind.{flat_map-append}
use Rattle.std.proofs.lemmas.List.{drop_all, get_or-drop, length-take-le, take-append-drop}
use Rattle.schedule.specs.Packets.{first_packet, no_load, packets_of, payloads_of}
use Rattle.schedule.specs.Slots.{Timetable, slots_of, start_of}
use Rattle.schedule.proofs.SumLaws.{sum_below-rises, sum_below-suc, sum_below-zero}
use Rattle.sent_sets.specs.SentStream.{AreSizedAs}
use Rattle.sent_sets.proofs.PacketCounts.{count_before}
use Rattle.slot_stream.specs.KeptPackets.{HaveRisingSlots, packets_from}
use Rattle.slot_stream.specs.SlotStream.{IsPiece, Piece, all_pieces, packets_before, pieces_of}
use Rattle.slot_stream.proofs.FrontPackets.{length-before}
use Rattle.slot_stream.proofs.KeptLaws.{left_of, left_packets, length-numbered, numbered_whole}
use Rattle.sub_base.specs.Lists.{all_of}
use Rattle.sub_base.specs.declared.load.WriteLoad.{WriteLoad}
use Rattle.script_stream.specs.Private.Timing.{AreSlotted}

-- ---- packets of sets

-- the packets of the first sets, and of some behind them
first_packet-drop : (loads : List WriteLoad) (f k : ℕ)
    → first_packet loads (f + k) ≡ first_packet loads f + first_packet (drop f loads) k
first_packet-drop loads f zero =
    ap (first_packet loads) (let same : f + 0 ≡ f = omega arith in same)
    ∙ omega (arith, sum_below-zero (packets_of (drop f loads)))
first_packet-drop loads f (suc k) =
    let one : packets_of (drop f loads) k ≡ packets_of loads (f + k) =
    ap (λ (load : WriteLoad). length (payloads_of load.units)) (get_or-drop f loads k no_load) in
    ap (first_packet loads) (let same : f + suc k ≡ suc (f + k) = omega arith in same)
    ∙ sum_below-suc (packets_of loads) (f + k)
    ∙ omega (arith, first_packet-drop loads f k, one, sum_below-suc (packets_of (drop f loads)) k)

-- the sets behind the first ones have the packets that are left
pub packets_behind : (loads : List WriteLoad) (slots : List ℕ) (f : ℕ) → f ≤ length loads
    → length slots ≡ first_packet loads (length loads)
    → (first_packet loads f ≤ length slots)
    × (length (drop (first_packet loads f) slots) ≡ first_packet (drop f loads) (length (drop f loads)))
packets_behind loads slots f within packets =
    let more = length loads - f in
    let all : f + more ≡ length loads = omega (arith, within) in
    let long : length (drop f loads) ≡ more = length-drop f loads in
    let sum = first_packet-drop loads f more in
    let whole = ap (first_packet loads) all in
    let rest = ap (first_packet (drop f loads)) long in (
      omega (arith, sum, whole, packets),
      omega (arith, sum, whole, packets, rest, length-drop (first_packet loads f) slots),
    )

-- the pieces of the sets behind the first ones
pub pieces_behind : (loads : List WriteLoad) (units : List (List (List ℕ))) (f : ℕ) → f ≤ length loads
    → AreSizedAs loads units
    → all_pieces (all_of (drop f units)) ≡ drop (first_packet loads f) (all_pieces (all_of units))
pieces_behind loads units f within sized =
    let front = all_pieces (all_of (take f units)) in
    let rest = all_pieces (all_of (drop f units)) in
    let whole : all_pieces (all_of units) ≡ front ++ rest =
    ap (λ (all : List (List (List ℕ))). all_pieces (all_of all)) (sym (take-append-drop f units))
    ∙ ap all_pieces (flat_map-append (λ (list : List (List ℕ)). list) (take f units) (drop f units))
    ∙ flat_map-append pieces_of (all_of (take f units)) (all_of (drop f units)) in
    sym (ap (λ (n : ℕ). drop n (all_pieces (all_of units))) (count_before f loads units within sized)
    ∙ ap (drop (length front)) whole ∙ drop-append_seam front rest)

-- ---- slots

rising-drop : (n : ℕ) (slots : List ℕ) → IsStrictlyIncreasing slots → IsStrictlyIncreasing (drop n slots)
rising-drop n slots rising k within =
    let first = get_or-drop n slots k 0 in
    let next : get_or (drop n slots) (k + 1) 0 ≡ get_or slots (n + k + 1) 0 =
    get_or-drop n slots (k + 1) 0
    ∙ ap (λ (i : ℕ). get_or slots i 0) (let same : n + (k + 1) ≡ n + k + 1 = omega arith in same) in
    omega (arith, first, next, rising (n + k) (omega (arith, within, length-drop n slots)))

-- rising slots are no lower than their places
slot_high : (slots : List ℕ) (k : ℕ) → IsStrictlyIncreasing slots → k < length slots → k ≤ get_or slots k 0
slot_high slots zero rising within = omega arith
slot_high slots (suc k) rising within =
    let next : get_or slots k 0 < get_or slots (suc k) 0 =
    subst (λ (i : ℕ). get_or slots k 0 < get_or slots i 0) (let same : k + 1 ≡ suc k = omega arith in same)
    (rising k (omega (arith, within))) in
    omega (arith, next, slot_high slots k rising (omega (arith, within)))

-- so there are not more than slots can be
few_slots : (slots : List ℕ) → IsStrictlyIncreasing slots → All (λ slot. slot < 2 ^ 56) slots
    → length slots ≤ 2 ^ 56
few_slots [] rising small = omega arith
few_slots (slot ∷ slots) rising small =
    let last : length slots < length (slot ∷ slots) = omega arith in
    omega (
      arith,
      slot_high (slot ∷ slots) (length slots) rising last,
      small (length slots) 0 last,
    )

starts_at : (loads : List WriteLoad) (table : Timetable) (i : ℕ) → i ≤ length loads → AreSlotted loads table
    → start_of table i ≡ first_packet loads i
starts_at loads table zero within slotted = sym (sum_below-zero (packets_of loads))
starts_at loads table (suc i) within slotted =
    slotted.ends i (omega (arith, within))
    ∙ ap (first_packet loads) (let same : i + 1 ≡ suc i = omega arith in same)

-- the packets up to a set are those before it, and one for each of its slots
pub set_slots : (loads : List WriteLoad) (table : Timetable) (i : ℕ) → i < length loads → AreSlotted loads table
    → (first_packet loads i + length (slots_of table i) ≡ first_packet loads (i + 1))
    × (first_packet loads (i + 1) ≤ 2 ^ 56)
set_slots loads table i within slotted =
    let start = starts_at loads table i (omega (arith, within)) slotted in
    let end = slotted.ends i within in
    let more : first_packet loads i ≤ first_packet loads (i + 1) =
    sum_below-rises (packets_of loads) i (i + 1) (omega arith) in
    let all : first_packet loads (i + 1) ≤ first_packet loads (length loads) =
    sum_below-rises (packets_of loads) (i + 1) (length loads) (omega (arith, within)) in
    let behind = drop (start_of table i) table.slots in
    let enough : slice_index table.ends i - start_of table i ≤ length behind =
    omega (arith, start, end, all, slotted.packets, length-drop (start_of table i) table.slots) in
    let own : length (slots_of table i) ≡ slice_index table.ends i - start_of table i =
    length-take-le (slice_index table.ends i - start_of table i) behind enough in (
      omega (arith, own, start, end, more),
      omega (arith, all, slotted.packets, few_slots table.slots slotted.rise slotted.small),
    )

-- where one set more has more packets than so many, so have all numbers of sets above
pub most_sets : (loads : List WriteLoad) (table : Timetable) (i most : ℕ) → i < length loads
    → AreSlotted loads table → most < first_packet loads i + length (slots_of table i)
    → (sets : ℕ) → sets ≤ length loads → first_packet loads sets ≤ most → sets ≤ i
most_sets loads table i most within slotted many sets among few =
    elim (cases_lt i sets) [
      | inl past ↦
          let own = set_slots loads table i within slotted in
          let more : first_packet loads (i + 1) ≤ first_packet loads sets =
          sum_below-rises (packets_of loads) (i + 1) sets (omega (arith, past)) in
          absurd (omega (arith, own.0, more, many, few))
      | inr order ↦ order
    ]

-- ---- what a stream has left

-- behind so many slots of a stream stand the packets that are left of it, where those before the first of these stand
-- at earlier slots
pub left_behind : (pid : ℕ) (pieces : List Piece) (slots : List ℕ) (n sent count : ℕ) → All IsPiece pieces
    → length pieces ≡ length slots → n ≤ length slots → ((j : ℕ) → j < n → get_or slots j 0 < sent)
    → drop (188 * sent) (packets_before pid pieces slots count)
    ≡ packets_from (left_of pid pieces slots n) sent (count - sent)
left_behind pid pieces slots n sent count each same within before =
    elim (cases_lt count sent) [
      | inl past ↦
          let none : count - sent ≡ 0 = omega (arith, past) in
          let long = length-before pid pieces slots count each in
          drop_all (188 * sent) (packets_before pid pieces slots count) (omega (arith, long, past))
          ∙ sym (ap (packets_from (left_of pid pieces slots n) sent) none)
      | inr order ↦ left_packets pid pieces slots n sent count each same within before order
    ]

-- these are kept in order
pub left_kept : (pid : ℕ) (pieces : List Piece) (slots : List ℕ) (n : ℕ) → All IsPiece pieces
    → length pieces ≡ length slots → IsStrictlyIncreasing slots → HaveRisingSlots (left_of pid pieces slots n)
left_kept pid pieces slots n each same rising = record {
  pairs =
      omega (
        arith,
        length-drop n slots,
        length-drop n pieces,
        same,
        length-numbered pid n (drop n pieces),
      );
  rising = rising-drop n slots rising;
  whole = numbered_whole pid n (drop n pieces) (rest_are each);
}
  where
    rest_are : All IsPiece pieces → All IsPiece (drop n pieces)
    rest_are each k d low =
        subst IsPiece (sym (get_or-drop n pieces k d)) (each (n + k) d (omega (arith, low, length-drop n pieces)))
