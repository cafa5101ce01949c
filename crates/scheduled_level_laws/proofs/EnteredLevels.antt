-- Entering a scheduled stream later makes no level higher and no set later, and the whole stream gives the schedule's
-- levels.
use Rattle.std.proofs.Common.{◌≡◌, ◌∙◌, ℕ, zero, suc, ◌+◌, ◌-◌, ◌==◌, ◌&&◌, ◌<◌, ◌≤◌, nat_le, nat_lt, Bool, true, false, cond, List, [], ◌∷◌, length, refl, sym, ap, subst, arith}
use Rattle.std.proofs.lemmas.Bool.Decides.{nat_tests}
use Rattle.sub_base.specs.Pace.{tick_of, done_tick, left_by}
use Rattle.sub_base.specs.declared.load.WriteLoad.{WriteLoad}
use Rattle.sub_base.specs.declared.pace.Pace.{Pace}
use Rattle.buffer_model.specs.Calls.{Call, Arrived, SetWhole, last_slot, last_shown, arrived, unassigned, left, done_of}
use Rattle.schedule.proofs.SumLaws.{sum_below-zero, sum_below-suc, sum_below-ends}
use Rattle.schedule.specs.Packets.{sum_below, load_of, packets_of, payload_of}
use Rattle.schedule.specs.Slots.{slot_of}
use Rattle.scheduled_level_laws.specs.EnteredCalls.{Entry, from_of, counts, packet_calls, heard_load, is_whole, calls_of_set, entered_calls}
use Rattle.scheduled_level_laws.proofs.EnteredSums.{AreSlots, in_order, last_packet, heard_of, packets_arrived, packets_unassigned, packets_left, packets_shown, heard_size}

-- ---- where a stream is entered

-- an entry into a stream: it lies in a set, and no set asks more painting than it has
pub record IsEntry (loads : List WriteLoad) (slots : List ℕ) (painted : ℕ → ℕ) (entry : Entry) : Type 0 where
  pub are : AreSlots loads slots
  pub within : entry.set < length loads → entry.packet < packets_of loads entry.set
  pub most : (i : ℕ) → i < length loads → painted i ≤ (load_of loads i).painted

-- the time of the set before, where it is received
abbrev pub heard_before : List WriteLoad → Entry → ℕ → ℕ
heard_before loads entry zero = 0
heard_before loads entry (suc i) = cond (nat_le entry.set i) (load_of loads i).pts 0

-- the tick at which set i is done
abbrev pub heard_done : List WriteLoad → Pace → List ℕ → (ℕ → ℕ) → Entry → ℕ → ℕ
heard_done loads pace slots painted entry i =
    done_tick (tick_of pace (slot_of loads slots i (packets_of loads i - 1))) (heard_before loads entry i)
    (heard_load loads painted entry i)

pub from_within : (loads : List WriteLoad) (slots : List ℕ) (painted : ℕ → ℕ) (entry : Entry) (i : ℕ)
    → IsEntry loads slots painted entry → i < length loads → from_of entry i < packets_of loads i
from_within loads slots painted entry i is inside = by (i == entry.set) refl
  where
    by : (b : Bool) → (i == entry.set) ≡ b → cond (i == entry.set) entry.packet 0 < packets_of loads i
    by true e =
        (let same : i
        ≡ entry.set = grind (arith, nat_tests) in subst (λ (n : ℕ). n < packets_of loads i)
        (sym (ap (λ b. cond b entry.packet 0) e))
        (subst (λ (n : ℕ). entry.packet < packets_of loads n) (sym same)
        (is.within (subst (λ (n : ℕ). n < length loads) same inside))))
    by false e =
        subst (λ (n : ℕ). n < packets_of loads i) (sym (ap (λ b. cond b entry.packet 0) e))
        (let last = last_packet loads slots i is.are inside in omega (arith, last))

-- ---- a past of whole sets

-- the sets before one that is whole are whole
before_whole : (loads : List WriteLoad) (slots : List ℕ) (bound i : ℕ) → AreSlots loads slots
    → suc i < length loads → is_whole loads slots bound (suc i) ≡ true → is_whole loads slots bound i ≡ true
before_whole loads slots bound i are inside whole =
    let less =
    in_order loads slots i (suc i) (packets_of loads i - 1) (packets_of loads (suc i) - 1) are (omega arith) inside
    (last_packet loads slots i are (omega (arith, inside))) (last_packet loads slots (suc i) are inside) in
    let low : slot_of loads slots (suc i) (packets_of loads (suc i) - 1) < bound = grind (arith, nat_tests) in
    grind (arith, nat_tests)

-- behind the sets before one that is whole nothing is unassigned, and the last time is that of the set before
past_unassigned : (loads : List WriteLoad) (slots : List ℕ) (bound : ℕ) (painted : ℕ → ℕ) (entry : Entry)
    (i : ℕ) → AreSlots loads slots → i < length loads → is_whole loads slots bound i ≡ true
    → unassigned (entered_calls loads slots bound painted entry i) ≡ 0
past_unassigned loads slots bound painted entry zero are inside whole = refl
past_unassigned loads slots bound painted entry (suc i) are inside whole = by (nat_le entry.set i)
  where
    by : (b : Bool)
        → unassigned
        (cond b (calls_of_set loads slots bound painted entry i (entered_calls loads slots bound painted entry i)) [])
        ≡ 0
    by false = refl
    by true =
        ap (λ b. unassigned
        (cond b (SetWhole (heard_load loads painted entry i)
        ∷ packet_calls loads slots bound entry i (packets_of loads i)
        (entered_calls loads slots bound painted entry i))
        (packet_calls loads slots bound entry i (packets_of loads i)
        (entered_calls loads slots bound painted entry i)))) (before_whole loads slots bound i are inside whole)

past_shown : (loads : List WriteLoad) (slots : List ℕ) (bound : ℕ) (painted : ℕ → ℕ) (entry : Entry)
    (i : ℕ) → AreSlots loads slots → i < length loads → is_whole loads slots bound i ≡ true
    → last_shown (entered_calls loads slots bound painted entry i) ≡ heard_before loads entry i
past_shown loads slots bound painted entry zero are inside whole = refl
past_shown loads slots bound painted entry (suc i) are inside whole = by (nat_le entry.set i)
  where
    by : (b : Bool)
        → last_shown
        (cond b (calls_of_set loads slots bound painted entry i (entered_calls loads slots bound painted entry i)) [])
        ≡ cond b (load_of loads i).pts 0
    by false = refl
    by true =
        ap (λ b. last_shown
        (cond b (SetWhole (heard_load loads painted entry i)
        ∷ packet_calls loads slots bound entry i (packets_of loads i)
        (entered_calls loads slots bound painted entry i))
        (packet_calls loads slots bound entry i (packets_of loads i)
        (entered_calls loads slots bound painted entry i)))) (before_whole loads slots bound i are inside whole)

-- the last packet of a whole set is the last of all
last_of_set : (loads : List WriteLoad) (slots : List ℕ) (bound : ℕ) (painted : ℕ → ℕ) (entry : Entry)
    (i : ℕ) (past : List Call) → IsEntry loads slots painted entry → i < length loads
    → is_whole loads slots bound i ≡ true
    → last_slot (packet_calls loads slots bound entry i (packets_of loads i) past)
    ≡ slot_of loads slots i (packets_of loads i - 1)
last_of_set loads slots bound painted entry i past is inside whole = by (packets_of loads i) refl
  where
    from : from_of entry i < packets_of loads i
    from = from_within loads slots painted entry i is inside

    by : (count : ℕ) → packets_of loads i ≡ count
        → last_slot (packet_calls loads slots bound entry i count past)
        ≡ slot_of loads slots i (packets_of loads i - 1)
    by zero e = absurd (let low = from in omega (arith, low, e))
    by (suc k) e =
        (let same : packets_of loads i - 1 ≡ k = omega (arith, e) in
        let least : nat_le (from_of entry i) k ≡ true =
        (let low = from in let limit : from_of entry i ≤ k = omega (arith, low, e) in grind (arith, nat_tests)) in
        let below : nat_lt (slot_of loads slots i k) bound ≡ true =
        ap (λ (n : ℕ). nat_lt (slot_of loads slots i n) bound) (sym same) ∙ whole in
        let here : counts loads slots bound entry i k ≡ true = rw (least, below) refl in
        ap (λ b. last_slot
        (cond b (Arrived (slot_of loads slots i k) (payload_of loads i k)
        ∷ packet_calls loads slots bound entry i k past) (packet_calls loads slots bound entry i k past))) here
        ∙ ap (slot_of loads slots i) (sym same))

-- so the set is done at its tick
pub set_done : (loads : List WriteLoad) (pace : Pace) (slots : List ℕ) (bound : ℕ) (painted : ℕ → ℕ)
    (entry : Entry) (i : ℕ) → IsEntry loads slots painted entry → i < length loads
    → is_whole loads slots bound i ≡ true
    → done_of pace (heard_load loads painted entry i)
    (packet_calls loads slots bound entry i (packets_of loads i) (entered_calls loads slots bound painted entry i))
    ≡ heard_done loads pace slots painted entry i
set_done loads pace slots bound painted entry i is inside whole =
    λ k. done_tick
    (tick_of pace
    (last_of_set loads slots bound painted entry i (entered_calls loads slots bound painted entry i) is inside whole
    k))
    ((packets_shown loads slots bound entry i (packets_of loads i) (entered_calls loads slots bound painted entry i)
    ∙ past_shown loads slots bound painted entry i is.are inside whole) k) (heard_load loads painted entry i)

-- ---- what left

-- what has left of set i by a tick, by a bound
abbrev pub gone_of : List WriteLoad → Pace → List ℕ → ℕ → (ℕ → ℕ) → Entry → ℕ → ℕ → ℕ
gone_of loads pace slots bound painted entry tick i =
    cond (nat_le entry.set i && is_whole loads slots bound i)
    (left_by tick (heard_done loads pace slots painted entry i) (heard_load loads painted entry i).size) 0

-- what has come of it
abbrev pub came_of : List WriteLoad → List ℕ → ℕ → Entry → ℕ → ℕ
came_of loads slots bound entry i =
    cond (nat_le entry.set i) (sum_below (heard_of loads slots bound entry i) (packets_of loads i)) 0

set_left : (loads : List WriteLoad) (pace : Pace) (slots : List ℕ) (bound : ℕ) (painted : ℕ → ℕ)
    (entry : Entry) (tick i : ℕ) → IsEntry loads slots painted entry → i < length loads
    → nat_le entry.set i ≡ true
    → left pace tick
    (calls_of_set loads slots bound painted entry i (entered_calls loads slots bound painted entry i))
    ≡ left pace tick (entered_calls loads slots bound painted entry i)
    + gone_of loads pace slots bound painted entry tick i
set_left loads pace slots bound painted entry tick i is inside here = by (is_whole loads slots bound i) refl
  where
    past : List Call
    past = entered_calls loads slots bound painted entry i

    packets : List Call
    packets = packet_calls loads slots bound entry i (packets_of loads i) past

    by : (b : Bool) → is_whole loads slots bound i ≡ b
        → left pace tick (calls_of_set loads slots bound painted entry i past)
        ≡ left pace tick past + gone_of loads pace slots bound painted entry tick i
    by false e =
        (let calls : left pace tick (calls_of_set loads slots bound painted entry i past)
        ≡ left pace tick packets = ap
        (λ b. left pace tick (cond b (SetWhole (heard_load loads painted entry i) ∷ packets) packets)) e in
        let gone : gone_of loads pace slots bound painted entry tick i ≡ 0 = rw (here, e) refl in
        omega (arith, calls, gone, packets_left pace tick loads slots bound entry i (packets_of loads i) past))
    by true e =
        (let calls : left pace tick (calls_of_set loads slots bound painted entry i past)
        ≡ left_by tick (done_of pace (heard_load loads painted entry i) packets) (unassigned packets)
        + left pace tick packets = ap
        (λ b. left pace tick (cond b (SetWhole (heard_load loads painted entry i) ∷ packets) packets)) e in
        let bytes : unassigned packets ≡ (heard_load loads painted entry i).size =
        (let low = from_within loads slots painted entry i is inside in
        omega (
          arith,
          packets_unassigned loads slots bound entry i (packets_of loads i) past,
          past_unassigned loads
              slots bound painted entry i is.are inside e,
          heard_size loads slots bound entry i is.are inside e
              (omega (arith, low)),
        )) in
        let gone : gone_of loads pace slots bound painted entry tick i
        ≡ left_by tick (heard_done loads pace slots painted entry i) (heard_load loads painted entry i).size = rw
        (here, e) refl in
        let same : left_by tick (done_of pace (heard_load loads painted entry i) packets) (unassigned packets)
        ≡ left_by tick (heard_done loads pace slots painted entry i) (heard_load loads painted entry i).size =
        λ k. left_by tick (set_done loads pace slots bound painted entry i is inside e k) (bytes k) in
        omega (arith, calls, gone, same, packets_left pace tick loads slots bound entry i (packets_of loads i) past))

set_arrived : (loads : List WriteLoad) (slots : List ℕ) (bound : ℕ) (painted : ℕ → ℕ) (entry : Entry)
    (i : ℕ) (past : List Call)
    → arrived (calls_of_set loads slots bound painted entry i past)
    ≡ arrived past + sum_below (heard_of loads slots bound entry i) (packets_of loads i)
set_arrived loads slots bound painted entry i past =
    by (is_whole loads slots bound i) ∙ packets_arrived loads slots bound entry i (packets_of loads i) past
  where
    by : (b : Bool)
        → arrived
        (cond b (SetWhole (heard_load loads painted entry i)
        ∷ packet_calls loads slots bound entry i (packets_of loads i) past)
        (packet_calls loads slots bound entry i (packets_of loads i) past))
        ≡ arrived (packet_calls loads slots bound entry i (packets_of loads i) past)
    by true = refl
    by false = refl

-- what has come and left of the first sets, set by set
pub all_arrived : (loads : List WriteLoad) (slots : List ℕ) (bound : ℕ) (painted : ℕ → ℕ) (entry : Entry)
    (n : ℕ) → arrived (entered_calls loads slots bound painted entry n)
    ≡ sum_below (came_of loads slots bound entry) n
all_arrived loads slots bound painted entry zero = sym (sum_below-zero (came_of loads slots bound entry))
all_arrived loads slots bound painted entry (suc i) =
    by (nat_le entry.set i) refl (all_arrived loads slots bound painted entry i)
  where
    by : (b : Bool) → nat_le entry.set i ≡ b
        → arrived (entered_calls loads slots bound painted entry i) ≡ sum_below (came_of loads slots bound entry) i
        → arrived
        (cond (nat_le entry.set i)
        (calls_of_set loads slots bound painted entry i (entered_calls loads slots bound painted entry i)) [])
        ≡ sum_below (came_of loads slots bound entry) (suc i)
    by true e again =
        (let here : came_of loads slots bound entry i
        ≡ sum_below (heard_of loads slots bound entry i) (packets_of loads i) = rw e refl in
        let calls : arrived
        (cond (nat_le entry.set i)
        (calls_of_set loads slots bound painted entry i (entered_calls loads slots bound painted entry i)) [])
        ≡ arrived
        (calls_of_set loads slots bound painted entry i (entered_calls loads slots bound painted entry i)) = ap
        (λ b. arrived
        (cond b (calls_of_set loads slots bound painted entry i (entered_calls loads slots bound painted entry i))
        [])) e in
        omega (
          arith,
          again,
          here,
          calls,
          set_arrived loads slots bound painted entry i
              (entered_calls loads slots bound painted entry i),
          sum_below-suc (came_of loads slots bound entry) i,
        ))
    by false e again =
        (let calls : arrived
        (cond (nat_le entry.set i)
        (calls_of_set loads slots bound painted entry i (entered_calls loads slots bound painted entry i)) [])
        ≡ 0 = ap (λ b. arrived
        (cond b (calls_of_set loads slots bound painted entry i (entered_calls loads slots bound painted entry i))
        [])) e in
        let none : sum_below (came_of loads slots bound entry) (suc i)
        ≡ sum_below (came_of loads slots bound entry) 0 = sum_below-ends (came_of loads slots bound entry) 0
        (suc i) (omega arith)
        (λ j low high. ap (λ b. cond b (sum_below (heard_of loads slots bound entry j) (packets_of loads j)) 0)
        (let t : nat_le entry.set j ≡ false = grind (arith, nat_tests) in t)) in
        omega (arith, calls, none, sum_below-zero (came_of loads slots bound entry)))

pub all_left : (loads : List WriteLoad) (pace : Pace) (slots : List ℕ) (bound : ℕ) (painted : ℕ → ℕ)
    (entry : Entry) (tick n : ℕ) → IsEntry loads slots painted entry → n ≤ length loads
    → left pace tick (entered_calls loads slots bound painted entry n)
    ≡ sum_below (gone_of loads pace slots bound painted entry tick) n
all_left loads pace slots bound painted entry tick zero is inside =
    sym (sum_below-zero (gone_of loads pace slots bound painted entry tick))
all_left loads pace slots bound painted entry tick (suc i) is inside =
    by (nat_le entry.set i) refl (all_left loads pace slots bound painted entry tick i is (omega (arith, inside)))
  where
    by : (b : Bool) → nat_le entry.set i ≡ b
        → left pace tick (entered_calls loads slots bound painted entry i)
        ≡ sum_below (gone_of loads pace slots bound painted entry tick) i
        → left pace tick
        (cond (nat_le entry.set i)
        (calls_of_set loads slots bound painted entry i (entered_calls loads slots bound painted entry i)) [])
        ≡ sum_below (gone_of loads pace slots bound painted entry tick) (suc i)
    by true e again =
        (let calls : left pace tick
        (cond (nat_le entry.set i)
        (calls_of_set loads slots bound painted entry i (entered_calls loads slots bound painted entry i)) [])
        ≡ left pace tick
        (calls_of_set loads slots bound painted entry i (entered_calls loads slots bound painted entry i)) = ap
        (λ b. left pace tick
        (cond b (calls_of_set loads slots bound painted entry i (entered_calls loads slots bound painted entry i))
        [])) e in
        omega (
          arith,
          again,
          calls,
          set_left loads pace slots bound painted entry tick i is (omega (arith, inside))
              e,
          sum_below-suc (gone_of loads pace slots bound painted entry tick) i,
        ))
    by false e again =
        (let calls : left pace tick
        (cond (nat_le entry.set i)
        (calls_of_set loads slots bound painted entry i (entered_calls loads slots bound painted entry i)) [])
        ≡ 0 = ap (λ b. left pace tick
        (cond b (calls_of_set loads slots bound painted entry i (entered_calls loads slots bound painted entry i))
        [])) e in
        let none : sum_below (gone_of loads pace slots bound painted entry tick) (suc i)
        ≡ sum_below (gone_of loads pace slots bound painted entry tick) 0 = sum_below-ends
        (gone_of loads pace slots bound painted entry tick) 0 (suc i) (omega arith)
        (λ j low high. ap
        (λ b. cond (b && is_whole loads slots bound j)
        (left_by tick (heard_done loads pace slots painted entry j) (heard_load loads painted entry j).size) 0)
        (let t : nat_le entry.set j ≡ false = grind (arith, nat_tests) in t)) in
        omega (arith, calls, none, sum_below-zero (gone_of loads pace slots bound painted entry tick)))
