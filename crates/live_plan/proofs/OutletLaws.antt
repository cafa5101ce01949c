-- The packets that an outlet writes: those of its batch behind the slots that were written.
use Rattle.std.proofs.Common.{◌≡◌, ◌∙◌, refl, sym, ap, subst, ℕ, zero, suc, ◌+◌, ◌-◌, ◌*◌, ◌≤◌, List, [], ◌∷◌, ◌++◌, length, take, drop, All, Option, Some, None, arith, length-append}
use Rattle.std.specs.List.{flat_map, range_with_len}
use Rattle.std.specs.Prelude.{slice_index_or}
use Rattle.std.proofs.lemmas.Grind.{flat_map-append}
use Rattle.std.proofs.lemmas.List.{drop-drop, drop-take}
use Rattle.std.proofs.lemmas.List.Elements.{All-head, All-tail}
use Rattle.std.proofs.Math.Seq.{drop-append_seam, take-append_seam}
use Rattle.slot_stream.specs.KeptPackets.{HaveRisingSlots, SlottedPackets, kept_packet, listed_packet, packets_from}
use Rattle.slot_stream.specs.SlotStream.{place_from}
use Rattle.slot_stream.proofs.LaidPackets.{range-split}
use Rattle.stream_syntax.specs.TransportPackets.{null_packet}
use Rattle.live_plan.specs.Outlets.{IsOutletOf, OutletState}

-- ---- how long the packets are

listed_whole : (packets : List (List ℕ)) (k : ℕ) → All (λ (packet : List ℕ). length packet ≡ 188) packets
    → length (slice_index_or packets k null_packet) ≡ 188
listed_whole [] k each = refl
listed_whole (packet ∷ packets) zero each = All-head (λ (one : List ℕ). length one ≡ 188) packet packets each
listed_whole (packet ∷ packets) (suc k) each =
    listed_whole packets k (All-tail (λ (one : List ℕ). length one ≡ 188) packet packets each)

at_whole : (packets : List (List ℕ)) (place : Option ℕ) → All (λ (packet : List ℕ). length packet ≡ 188) packets
    → length (listed_packet packets place) ≡ 188
at_whole packets None each = refl
at_whole packets (Some k) each = listed_whole packets k each

-- so many packets have 188 times so many bytes
length-from : (kept : SlottedPackets) (from count : ℕ) → HaveRisingSlots kept
    → length (packets_from kept from count) ≡ 188 * count
length-from kept from zero is = refl
length-from kept from (suc count) is =
    omega (
      arith,
      at_whole kept.packets (place_from 0 from kept.slots) is.whole,
      length-append (kept_packet kept from) (packets_from kept (from + 1) count),
      length-from kept (from + 1) count is,
    )

-- the packets at slots in two parts
parted : (kept : SlottedPackets) (from n more : ℕ)
    → packets_from kept from (n + more) ≡ packets_from kept from n ++ packets_from kept (from + n) more
parted kept from n more =
    ap (λ (slots : List ℕ). flat_map (kept_packet kept) slots) (range-split n from more)
    ∙ flat_map-append (kept_packet kept) (range_with_len from n) (range_with_len (from + n) more)

-- the first of them, and those behind
first_packets : (kept : SlottedPackets) (from n count : ℕ) → HaveRisingSlots kept → n ≤ count
    → take (188 * n) (packets_from kept from count) ≡ packets_from kept from n
first_packets kept from n count is few =
    let front = packets_from kept from n in
    let all : count ≡ n + (count - n) = omega (arith, few) in
    let long : 188 * n ≡ length front = sym (length-from kept from n is) in
    ap (λ (k : ℕ). take k (packets_from kept from count)) long
    ∙ ap (λ (k : ℕ). take (length front) (packets_from kept from k)) all
    ∙ ap (take (length front)) (parted kept from n (count - n))
    ∙ take-append_seam front (packets_from kept (from + n) (count - n))

later_packets : (kept : SlottedPackets) (from n count : ℕ) → HaveRisingSlots kept → n ≤ count
    → drop (188 * n) (packets_from kept from count) ≡ packets_from kept (from + n) (count - n)
later_packets kept from n count is few =
    let front = packets_from kept from n in
    let all : count ≡ n + (count - n) = omega (arith, few) in
    let long : 188 * n ≡ length front = sym (length-from kept from n is) in
    ap (λ (k : ℕ). drop k (packets_from kept from count)) long
    ∙ ap (λ (k : ℕ). drop (length front) (packets_from kept from k)) all
    ∙ ap (drop (length front)) (parted kept from n (count - n))
    ∙ drop-append_seam front (packets_from kept (from + n) (count - n))

-- ---- what is written

-- how many slots of an outlet were written, are due and are there
pub record InOrder (outlet : OutletState) : Type 0 where
  pub sent : outlet.sent ≤ outlet.due
  pub due : outlet.due ≤ outlet.count
  pub kept : HaveRisingSlots outlet.kept

-- what is due and was not written is what is kept of these slots
pub due_left : (packets due : List ℕ) (outlet : OutletState) → InOrder outlet → IsOutletOf packets due outlet
    → packets_from outlet.kept outlet.sent (outlet.due - outlet.sent) ≡ drop (188 * outlet.sent) due
due_left packets due outlet good is =
    let n = outlet.due - outlet.sent in
    let few : n ≤ outlet.count - outlet.sent = omega (arith, good.sent, good.due) in
    let all : 188 * outlet.due ≡ 188 * outlet.sent + 188 * n = omega (arith, good.sent) in
    sym (first_packets outlet.kept outlet.sent n (outlet.count - outlet.sent) good.kept few)
    ∙ ap (take (188 * n)) (sym is.left)
    ∙ sym (drop-take (188 * outlet.sent) (188 * n) packets)
    ∙ ap (λ (k : ℕ). drop (188 * outlet.sent) (take k packets)) (sym all)
    ∙ ap (drop (188 * outlet.sent)) (sym is.is_due)

-- what was not written is all that is kept
pub all_left : (packets due : List ℕ) (outlet : OutletState) → IsOutletOf packets due outlet
    → packets_from outlet.kept outlet.sent (outlet.count - outlet.sent) ≡ drop (188 * outlet.sent) packets
all_left packets due outlet is = sym is.left

-- once what is due was written, the rest is kept
pub due_sent : (packets due : List ℕ) (old new : OutletState) → InOrder old → IsOutletOf packets due old
    → new ≡ record old { sent = old.due } → IsOutletOf packets due new
due_sent packets due old new good is same =
    let n = old.due - old.sent in
    let few : n ≤ old.count - old.sent = omega (arith, good.sent, good.due) in
    let all : 188 * old.due ≡ 188 * old.sent + 188 * n = omega (arith, good.sent) in
    let place : old.sent + n ≡ old.due = omega (arith, good.sent) in
    let count : old.count - old.sent - n ≡ old.count - old.due = omega (arith, good.sent) in
    subst (IsOutletOf packets due) (sym same) (record {
      whole = is.whole;
      few = is.few;
      left = ap (λ (k : ℕ). drop k packets) all
          ∙ sym (drop-drop (188 * n) (188 * old.sent) packets)
          ∙ ap (drop (188 * n)) is.left
          ∙ later_packets old.kept old.sent n (old.count - old.sent) good.kept few
          ∙ (λ i. packets_from old.kept (place i) (count i));
      is_due = is.is_due;
    })
