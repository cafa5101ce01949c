-- Entering a scheduled stream later makes no level higher and no set later, set by set.
use Rattle.std.proofs.Common.{◌≡◌, ◌∙◌, ℕ, zero, suc, ◌+◌, ◌-◌, ◌&&◌, ◌<◌, ◌≤◌, max, nat_le, nat_lt, Bool, true, false, cond, List, length, refl, ap, subst, arith}
use Rattle.std.proofs.Math.Nat.{le-max_left}
use Rattle.std.specs.Prelude.{slice_index}
use Rattle.std.proofs.lemmas.Bool.Decides.{nat_tests}
use Rattle.sub_base.specs.Pace.{tick_of}
use Rattle.sub_base.specs.declared.load.WriteLoad.{WriteLoad}
use Rattle.sub_base.specs.declared.pace.Pace.{Pace}
use Rattle.schedule.proofs.BufferLaws.{tick_of-before, left_of-yes, left_of-no}
use Rattle.schedule.proofs.PacketLaws.{payloads, load_at}
use Rattle.schedule.proofs.SumLaws.{sum_below-le, sum_below-same}
use Rattle.schedule.specs.Arrivals.{payload_by, arrived_of}
use Rattle.schedule.specs.Packets.{sum_below, load_of, size_of, packets_of, payload_of}
use Rattle.schedule.specs.Slots.{slot_of, left_of, shown_before, set_done_at as scheduled_done}
use Rattle.scheduled_level_laws.specs.EnteredCalls.{Entry, from_of, heard_load, is_whole}
use Rattle.scheduled_level_laws.proofs.EnteredSums.{AreSlots, heard_of, heard_size, all_below}
use Rattle.scheduled_level_laws.proofs.EnteredLevels.{IsEntry, heard_before, heard_done, from_within, gone_of, came_of}

-- ---- no set is later

no_later_before : (loads : List WriteLoad) (entry : Entry) (i : ℕ)
    → heard_before loads entry i ≤ shown_before loads i
no_later_before loads entry zero = omega arith
no_later_before loads entry (suc i) = by (nat_le entry.set i)
  where
    by : (b : Bool) → cond b (load_of loads i).pts 0 ≤ (load_of loads i).pts
    by true = omega arith
    by false = omega arith

later_of : (last a b : ℕ) → a ≤ b → max last a ≤ max last b
later_of last a b less = grind arith

three_less : (a b c d e f : ℕ) → a ≤ d → b ≤ e → c ≤ f → a + b + c ≤ d + e + f
three_less a b c d e f first second third = omega (arith, first, second, third)

pub done_no_later : (loads : List WriteLoad) (pace : Pace) (slots : List ℕ) (painted : ℕ → ℕ)
    (entry : Entry) (i : ℕ) → IsEntry loads slots painted entry → i < length loads
    → heard_done loads pace slots painted entry i ≤ scheduled_done loads pace slots i
done_no_later loads pace slots painted entry i is inside =
    let last : ℕ = tick_of pace (slot_of loads slots i (packets_of loads i - 1)) in
    three_less (max last (heard_before loads entry i))
    (size_of loads i - sum_below (payload_of loads i) (from_of entry i)) (painted i)
    (max last (shown_before loads i)) (load_of loads i).size (load_of loads i).painted
    (later_of last (heard_before loads entry i) (shown_before loads i) (no_later_before loads entry i))
    (omega (arith, (load_at loads i is.are.each inside).size)) (is.most i inside)

-- ---- no level is higher

-- a set whose bytes have left by the tick of a slot has come by then
pub done_is_whole : (loads : List WriteLoad) (pace : Pace) (slots : List ℕ) (i slot : ℕ) → AreSlots loads slots
    → i < length loads → scheduled_done loads pace slots i ≤ tick_of pace slot
    → is_whole loads slots (suc slot) i ≡ true
done_is_whole loads pace slots i slot are inside done =
    let last : ℕ = tick_of pace (slot_of loads slots i (packets_of loads i - 1)) in
    let low =
    tick_of-before pace (slot_of loads slots i (packets_of loads i - 1)) slot
    (last_before last (shown_before loads i) (load_of loads i).size (load_of loads i).painted (tick_of pace slot)
    (load_at loads i are.each inside).some done) in
    grind (arith, nat_tests)
  where
    last_before : (last shown size painted tick : ℕ) → 1 ≤ size → max last shown + size + painted ≤ tick
        → last < tick
    last_before last shown size painted tick some most = omega (arith, le-max_left last shown, some, most)

-- what has come by a slot of an entered stream has come of the whole one
came_less : (loads : List WriteLoad) (slots : List ℕ) (slot : ℕ) (entry : Entry) (i : ℕ)
    → came_of loads slots (suc slot) entry i ≤ arrived_of loads slots slot i
came_less loads slots slot entry i = by (nat_le entry.set i)
  where
    each : (least below within : Bool) (bytes : ℕ) → below ≡ within
        → cond (least && below) bytes 0 ≤ cond within bytes 0
    each true true within bytes same = subst (λ b. bytes ≤ cond b bytes 0) same (omega arith)
    each true false within bytes same = omega arith
    each false below within bytes same = omega arith

    one_test : (a b : ℕ) → nat_lt a (suc b) ≡ nat_le a b
    one_test a b = grind (arith, nat_tests)

    by : (b : Bool)
        → cond b (sum_below (heard_of loads slots (suc slot) entry i) (packets_of loads i)) 0
        ≤ arrived_of loads slots slot i
    by true =
        sum_below-le (heard_of loads slots (suc slot) entry i) (payload_by loads slots slot i) (packets_of loads i)
        (λ k within. each (nat_le (from_of entry i) k) (nat_lt (slot_of loads slots i k) (suc slot))
        (nat_le (slot_of loads slots i k) slot) (payload_of loads i k) (one_test (slot_of loads slots i k) slot))
    by false = omega arith

-- a set of which all has come
all_came : (loads : List WriteLoad) (slots : List ℕ) (i slot : ℕ) → AreSlots loads slots → i < length loads
    → is_whole loads slots (suc slot) i ≡ true → arrived_of loads slots slot i ≡ size_of loads i
all_came loads slots i slot are inside whole =
    sum_below-same (payload_by loads slots slot i) (payload_of loads i) (packets_of loads i)
    (λ k within. ap (λ b. cond b (payload_of loads i k) 0)
    (let below = all_below loads slots (suc slot) i k are inside whole within in let t : nat_le
    (slot_of loads slots i k) slot ≡ true = grind (arith, nat_tests) in t))
    ∙ payloads loads i

-- the inequality that decides a set: what has come of it here and what has left of it in the whole stream are together
-- at most what has come of it there and what has left of it here
pub each_set : (loads : List WriteLoad) (pace : Pace) (slots dones : List ℕ) (painted : ℕ → ℕ) (entry : Entry)
    (slot i : ℕ) → IsEntry loads slots painted entry → i < length loads
    → slice_index dones i ≡ scheduled_done loads pace slots i
    → came_of loads slots (suc slot) entry i + left_of loads dones (tick_of pace slot) i
    ≤ arrived_of loads slots slot i + gone_of loads pace slots (suc slot) painted entry (tick_of pace slot) i
each_set loads pace slots dones painted entry slot i is inside at =
    by (nat_le (slice_index dones i) (tick_of pace slot)) refl
  where
    Claim : Type 0
    Claim =
        came_of loads slots (suc slot) entry i + left_of loads dones (tick_of pace slot) i
        ≤ arrived_of loads slots slot i + gone_of loads pace slots (suc slot) painted entry (tick_of pace slot) i

    less : came_of loads slots (suc slot) entry i ≤ arrived_of loads slots slot i
    less = came_less loads slots slot entry i

    received : (b : Bool) → nat_le entry.set i ≡ b → slice_index dones i ≤ tick_of pace slot → Claim
    received false e done =
        (let whole = done_is_whole loads pace slots i slot is.are inside
        (subst (λ (n : ℕ). n ≤ tick_of pace slot) at done) in
        let came : came_of loads slots (suc slot) entry i ≡ 0 =
        ap (λ b. cond b (sum_below (heard_of loads slots (suc slot) entry i) (packets_of loads i)) 0) e in
        omega (
          arith,
          came,
          left_of-yes loads dones (tick_of pace slot) i done,
          all_came loads slots i slot is.are
              inside whole,
        ))
    received true e done =
        (let whole = done_is_whole loads pace slots i slot is.are inside
        (subst (λ (n : ℕ). n ≤ tick_of pace slot) at done) in
        let came : came_of loads slots (suc slot) entry i
        ≡ sum_below (heard_of loads slots (suc slot) entry i) (packets_of loads i) = ap
        (λ b. cond b (sum_below (heard_of loads slots (suc slot) entry i) (packets_of loads i)) 0) e in
        let low = from_within loads slots painted entry i is inside in
        let heard = heard_size loads slots (suc slot) entry i is.are inside whole (omega (arith, low)) in
        let earlier : heard_done loads pace slots painted entry i ≤ tick_of pace slot =
        omega (arith, done_no_later loads pace slots painted entry i is inside, done, at) in
        let gone : gone_of loads pace slots (suc slot) painted entry (tick_of pace slot) i
        ≡ (heard_load loads painted entry i).size =
        (let t : nat_le (heard_done loads pace slots painted entry i) (tick_of pace slot)
        ≡ true = grind (arith, nat_tests) in
        rw (e, whole) (ap (λ b. cond b (heard_load loads painted entry i).size 0) t)) in
        omega (
          arith,
          came,
          heard,
          gone,
          left_of-yes loads dones (tick_of pace slot) i done,
          all_came loads slots i slot
              is.are inside whole,
        ))

    by : (b : Bool) → nat_le (slice_index dones i) (tick_of pace slot) ≡ b → Claim
    by true e = received (nat_le entry.set i) refl (grind (arith, nat_tests))
    by false e =
        (let none = left_of-no loads dones (tick_of pace slot) i
        (let t : tick_of pace slot < slice_index dones i = grind (arith, nat_tests) in t) in let few = less in omega
        (arith, few, none))
