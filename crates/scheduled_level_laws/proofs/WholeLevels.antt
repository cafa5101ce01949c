-- The whole stream, received from its first packet on, gives the schedule's levels and its done ticks.
use Rattle.std.proofs.Common.{◌≡◌, ◌∙◌, ℕ, zero, suc, ◌+◌, ◌-◌, ◌==◌, ◌&&◌, ◌<◌, ◌≤◌, max, nat_le, nat_lt, Bool, true, false, cond, List, length, refl, sym, ap, subst, arith}
use Rattle.std.specs.Prelude.{slice_index}
use Rattle.std.proofs.lemmas.Bool.Decides.{nat_tests}
use Rattle.sub_base.specs.Pace.{tick_of, left_by}
use Rattle.sub_base.specs.declared.load.WriteLoad.{WriteLoad}
use Rattle.sub_base.specs.declared.pace.Pace.{Pace}
use Rattle.buffer_model.specs.Calls.{level_at}
use Rattle.schedule.proofs.BufferLaws.{left_of-no}
use Rattle.schedule.proofs.PacketLaws.{load_at}
use Rattle.schedule.proofs.SumLaws.{sum_below-zero, sum_below-same}
use Rattle.schedule.specs.Arrivals.{payload_by, arrived_of, coded_level_at as scheduled_level}
use Rattle.schedule.specs.Packets.{sum_below, load_of, size_of, packets_of, payload_of}
use Rattle.schedule.specs.Slots.{Timetable, slot_of, left_of, shown_before, set_done_at as scheduled_done}
use Rattle.scheduled_level_laws.specs.EnteredCalls.{from_of, heard_load, is_whole, entered_calls, whole_entry, planned_painting}
use Rattle.scheduled_level_laws.proofs.EnteredSums.{AreSlots, last_packet, heard_of}
use Rattle.scheduled_level_laws.proofs.EnteredLevels.{IsEntry, heard_before, heard_done, gone_of, came_of, all_arrived, all_left}
use Rattle.scheduled_level_laws.proofs.EnteredLess.{done_is_whole}
use Rattle.scheduled_level_laws.proofs.EnteredWithin.{Holds}

-- every packet of every set counts, with the painting that is planned
pub whole_is : (loads : List WriteLoad) (slots : List ℕ) → AreSlots loads slots
    → IsEntry loads slots (planned_painting loads) whole_entry
whole_is loads slots are = record {
  are = are;
  within = λ inside. omega (arith, last_packet loads slots 0 are inside);
  most = λ i inside. omega arith;
}

from_first : (i : ℕ) → from_of whole_entry i ≡ 0
from_first i = by (i == 0)
  where
    by : (b : Bool) → cond b zero zero ≡ zero
    by true = refl
    by false = refl

whole_size : (loads : List WriteLoad) (i : ℕ)
    → (heard_load loads (planned_painting loads) whole_entry i).size ≡ size_of loads i
whole_size loads i =
    ap (λ (n : ℕ). size_of loads i - sum_below (payload_of loads i) n) (from_first i)
    ∙ omega (arith, sum_below-zero (payload_of loads i))

every_before : (loads : List WriteLoad) (i : ℕ) → heard_before loads whole_entry i ≡ shown_before loads i
every_before loads zero = refl
every_before loads (suc i) =
    ap (λ b. cond b (load_of loads i).pts 0) (let t : nat_le 0 i ≡ true = grind (arith, nat_tests) in t)

-- a set is done in the whole stream when the schedule says
pub one_done : (loads : List WriteLoad) (pace : Pace) (slots : List ℕ) (i : ℕ) → AreSlots loads slots
    → i < length loads
    → heard_done loads pace slots (planned_painting loads) whole_entry i ≡ scheduled_done loads pace slots i
one_done loads pace slots i are inside =
    λ k. max (tick_of pace (slot_of loads slots i (packets_of loads i - 1))) (every_before loads i k) + same k
    + (load_of loads i).painted
  where
    same : (heard_load loads (planned_painting loads) whole_entry i).size ≡ (load_of loads i).size
    same = whole_size loads i ∙ sym (load_at loads i are.each inside).size

whole_came : (loads : List WriteLoad) (slots : List ℕ) (slot i : ℕ)
    → came_of loads slots (suc slot) whole_entry i ≡ arrived_of loads slots slot i
whole_came loads slots slot i =
    ap (λ b. cond b (sum_below (heard_of loads slots (suc slot) whole_entry i) (packets_of loads i)) 0)
    (let t : nat_le 0 i ≡ true = grind (arith, nat_tests) in t)
    ∙ sum_below-same (heard_of loads slots (suc slot) whole_entry i) (payload_by loads slots slot i)
    (packets_of loads i)
    (λ k within. ap
    (λ (n : ℕ). cond (nat_le n k && nat_lt (slot_of loads slots i k) (suc slot)) (payload_of loads i k) 0)
    (from_first i)
    ∙ (let least : nat_le 0 k ≡ true = grind (arith, nat_tests) in
    let below : nat_lt (slot_of loads slots i k) (suc slot) ≡ nat_le (slot_of loads slots i k) slot =
    grind (arith, nat_tests) in
    λ n. cond (least n && below n) (payload_of loads i k) 0))

whole_gone : (loads : List WriteLoad) (pace : Pace) (table : Timetable) (slot i : ℕ) → Holds loads pace table
    → i < length loads
    → gone_of loads pace table.slots (suc slot) (planned_painting loads) whole_entry (tick_of pace slot) i
    ≡ left_of loads table.dones (tick_of pace slot) i
whole_gone loads pace table slot i holds inside =
    ap (λ b. cond (b && is_whole loads table.slots (suc slot) i)
    (left_by (tick_of pace slot) (heard_done loads pace table.slots (planned_painting loads) whole_entry i)
    (heard_load loads (planned_painting loads) whole_entry i).size) 0)
    (let t : nat_le 0 i ≡ true = grind (arith, nat_tests) in t)
    ∙ (λ n. cond (is_whole loads table.slots (suc slot) i)
    (left_by (tick_of pace slot) (at n) (whole_size loads i n)) 0)
    ∙ by (is_whole loads table.slots (suc slot) i) refl
  where
    at : heard_done loads pace table.slots (planned_painting loads) whole_entry i ≡ slice_index table.dones i
    at = one_done loads pace table.slots i holds.are inside ∙ sym (holds.dones i inside)

    by : (b : Bool) → is_whole loads table.slots (suc slot) i ≡ b
        → cond b (left_of loads table.dones (tick_of pace slot) i) 0
        ≡ left_of loads table.dones (tick_of pace slot) i
    by true e = refl
    by false e =
        sym (left_of-no loads table.dones (tick_of pace slot) i
        (after (nat_lt (tick_of pace slot) (slice_index table.dones i)) refl))
      where
        after : (b : Bool) → nat_lt (tick_of pace slot) (slice_index table.dones i) ≡ b
            → tick_of pace slot < slice_index table.dones i
        after true t = grind (arith, nat_tests)
        after false t = absurd (let low : slice_index table.dones i ≤ tick_of pace slot = grind (arith, nat_tests) in
            let whole =
            done_is_whole loads pace table.slots i slot holds.are inside
            (subst (λ (n : ℕ). n ≤ tick_of pace slot) (holds.dones i inside) low) in
            let wrong : true ≡ false = sym whole ∙ e in cc)

-- and its levels are the schedule's
pub one_level : (loads : List WriteLoad) (pace : Pace) (table : Timetable) (slot : ℕ) → Holds loads pace table
    → level_at pace slot 0
    (entered_calls loads table.slots (suc slot) (planned_painting loads) whole_entry (length loads))
    ≡ scheduled_level loads (length loads) pace table.slots table.dones slot
one_level loads pace table slot holds =
    let came =
    all_arrived loads table.slots (suc slot) (planned_painting loads) whole_entry (length loads)
    ∙ sum_below-same (came_of loads table.slots (suc slot) whole_entry) (arrived_of loads table.slots slot)
    (length loads) (λ i inside. whole_came loads table.slots slot i) in
    let gone =
    all_left loads pace table.slots (suc slot) (planned_painting loads) whole_entry (tick_of pace slot)
    (length loads) (whole_is loads table.slots holds.are) (omega arith)
    ∙ sum_below-same
    (gone_of loads pace table.slots (suc slot) (planned_painting loads) whole_entry (tick_of pace slot))
    (left_of loads table.dones (tick_of pace slot)) (length loads)
    (λ i inside. whole_gone loads pace table slot i holds inside) in
    omega (arith, came, gone)
