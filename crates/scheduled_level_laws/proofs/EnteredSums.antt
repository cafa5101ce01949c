-- The bytes that arrive and leave, set by set.
use Rattle.std.proofs.Common.{◌≡◌, ◌∙◌, ◌⊎◌, inl, inr, ℕ, zero, suc, ◌+◌, ◌-◌, ◌<◌, ◌≤◌, nat_le, nat_lt, Bool, true, false, cond, List, ◌∷◌, length, refl, ap, arith}
use Rattle.std.specs.Prelude.{All, slice_index}
use Rattle.std.specs.List.Sorted.{IsStrictlyIncreasing}
use Rattle.std.proofs.lemmas.Bool.Decides.{nat_tests}
use Rattle.std.proofs.lemmas.List.Kept.{AllPairs-from_increasing}
use Rattle.sub_base.specs.declared.load.WriteLoad.{WriteLoad}
use Rattle.sub_base.specs.declared.pace.Pace.{Pace}
use Rattle.buffer_model.specs.Calls.{Call, Arrived, last_shown, arrived, unassigned, left}
use Rattle.schedule.proofs.PacketLaws.{payloads, some_packets, some_bytes}
use Rattle.schedule.proofs.SumLaws.{sum_below-zero, sum_below-suc, sum_below-rises}
use Rattle.schedule.specs.Packets.{sum_below, size_of, packets_of, first_packet, payload_of}
use Rattle.schedule.specs.Slots.{slot_of, IsLoad}
use Rattle.scheduled_level_laws.specs.EnteredCalls.{Entry, from_of, counts, packet_calls, is_whole}

-- ---- the order of slots

-- slots of packets that rise, and sets with packets
pub record AreSlots (loads : List WriteLoad) (slots : List ℕ) : Type 0 where
  pub each : All IsLoad loads
  pub count : length slots ≡ first_packet loads (length loads)
  pub rise : IsStrictlyIncreasing slots

-- the packets before set i and those of it are those before the next
next_packet : (loads : List WriteLoad) (i : ℕ)
    → first_packet loads (suc i) ≡ first_packet loads i + packets_of loads i
next_packet loads i = sum_below-suc (packets_of loads) i

later_packets : (loads : List WriteLoad) (i j : ℕ) → i < j
    → first_packet loads i + packets_of loads i ≤ first_packet loads j
later_packets loads i j before =
    omega (arith, next_packet loads i, sum_below-rises (packets_of loads) (suc i) j (omega (arith, before)))

pub within_slots : (loads : List WriteLoad) (slots : List ℕ) (i k : ℕ) → AreSlots loads slots
    → i < length loads → k < packets_of loads i → first_packet loads i + k < length slots
within_slots loads slots i k are inside within =
    omega (arith, within, later_packets loads i (length loads) inside, ap (λ (n : ℕ). n) are.count)

pub rising : (slots : List ℕ) (a b : ℕ) → IsStrictlyIncreasing slots → a < b → b < length slots
    → slice_index slots a < slice_index slots b
rising slots a b rise before within = AllPairs-from_increasing slots rise a b 0 before within

-- packets of one set stand in their order
pub in_set : (loads : List WriteLoad) (slots : List ℕ) (i k m : ℕ) → AreSlots loads slots → i < length loads
    → k < m → m < packets_of loads i → slot_of loads slots i k < slot_of loads slots i m
in_set loads slots i k m are inside before within =
    rising slots (first_packet loads i + k) (first_packet loads i + m) are.rise (omega (arith, before))
    (within_slots loads slots i m are inside within)

-- and those of a set behind those of the sets before it
pub in_order : (loads : List WriteLoad) (slots : List ℕ) (i j k m : ℕ) → AreSlots loads slots → i < j
    → j < length loads → k < packets_of loads i → m < packets_of loads j
    → slot_of loads slots i k < slot_of loads slots j m
in_order loads slots i j k m are before inside first second =
    rising slots (first_packet loads i + k) (first_packet loads j + m) are.rise
    (omega (arith, first, later_packets loads i j before)) (within_slots loads slots j m are inside second)

pub last_packet : (loads : List WriteLoad) (slots : List ℕ) (i : ℕ) → AreSlots loads slots → i < length loads
    → packets_of loads i - 1 < packets_of loads i
last_packet loads slots i are inside = omega (arith, some_packets loads i (some_bytes loads i are.each inside))

-- ---- packets

-- the bytes of packet k of set i, where it counts and stands below the bound
abbrev pub heard_of : List WriteLoad → List ℕ → ℕ → Entry → ℕ → ℕ → ℕ
heard_of loads slots bound entry i k = cond (counts loads slots bound entry i k) (payload_of loads i k) 0

pub packets_arrived : (loads : List WriteLoad) (slots : List ℕ) (bound : ℕ) (entry : Entry) (i k : ℕ)
    (past : List Call)
    → arrived (packet_calls loads slots bound entry i k past)
    ≡ arrived past + sum_below (heard_of loads slots bound entry i) k
packets_arrived loads slots bound entry i zero past = omega (arith, sum_below-zero (heard_of loads slots bound entry i))
packets_arrived loads slots bound entry i (suc k) past =
    by (counts loads slots bound entry i k) refl (packets_arrived loads slots bound entry i k past)
  where
    by : (b : Bool) → counts loads slots bound entry i k ≡ b
        → arrived (packet_calls loads slots bound entry i k past)
        ≡ arrived past + sum_below (heard_of loads slots bound entry i) k
        → arrived
        (cond (counts loads slots bound entry i k)
        (Arrived (slot_of loads slots i k) (payload_of loads i k) ∷ packet_calls loads slots bound entry i k past)
        (packet_calls loads slots bound entry i k past))
        ≡ arrived past + sum_below (heard_of loads slots bound entry i) (suc k)
    by true e again =
        (let more = sum_below-suc (heard_of loads slots bound entry i) k in let here : heard_of loads slots bound entry
        i k ≡ payload_of loads i k = ap (λ b. cond b (payload_of loads i k) 0) e in rw e
        (omega (arith, again, more, here)))
    by false e again =
        (let more = sum_below-suc (heard_of loads slots bound entry i) k in let here : heard_of loads slots bound entry
        i k ≡ 0 = ap (λ b. cond b (payload_of loads i k) 0) e in rw e (omega (arith, again, more, here)))

pub packets_unassigned : (loads : List WriteLoad) (slots : List ℕ) (bound : ℕ) (entry : Entry) (i k : ℕ)
    (past : List Call)
    → unassigned (packet_calls loads slots bound entry i k past)
    ≡ unassigned past + sum_below (heard_of loads slots bound entry i) k
packets_unassigned loads slots bound entry i zero past =
    omega (arith, sum_below-zero (heard_of loads slots bound entry i))
packets_unassigned loads slots bound entry i (suc k) past =
    by (counts loads slots bound entry i k) refl (packets_unassigned loads slots bound entry i k past)
  where
    by : (b : Bool) → counts loads slots bound entry i k ≡ b
        → unassigned (packet_calls loads slots bound entry i k past)
        ≡ unassigned past + sum_below (heard_of loads slots bound entry i) k
        → unassigned
        (cond (counts loads slots bound entry i k)
        (Arrived (slot_of loads slots i k) (payload_of loads i k) ∷ packet_calls loads slots bound entry i k past)
        (packet_calls loads slots bound entry i k past))
        ≡ unassigned past + sum_below (heard_of loads slots bound entry i) (suc k)
    by true e again =
        (let more = sum_below-suc (heard_of loads slots bound entry i) k in let here : heard_of loads slots bound entry
        i k ≡ payload_of loads i k = ap (λ b. cond b (payload_of loads i k) 0) e in rw e
        (omega (arith, again, more, here)))
    by false e again =
        (let more = sum_below-suc (heard_of loads slots bound entry i) k in let here : heard_of loads slots bound entry
        i k ≡ 0 = ap (λ b. cond b (payload_of loads i k) 0) e in rw e (omega (arith, again, more, here)))

pub packets_left : (pace : Pace) (tick : ℕ) (loads : List WriteLoad) (slots : List ℕ) (bound : ℕ) (entry : Entry)
    (i k : ℕ) (past : List Call)
    → left pace tick (packet_calls loads slots bound entry i k past) ≡ left pace tick past
packets_left pace tick loads slots bound entry i zero past = refl
packets_left pace tick loads slots bound entry i (suc k) past =
    by (counts loads slots bound entry i k) (packets_left pace tick loads slots bound entry i k past)
  where
    by : (b : Bool) → left pace tick (packet_calls loads slots bound entry i k past) ≡ left pace tick past
        → left pace tick
        (cond b (Arrived (slot_of loads slots i k) (payload_of loads i k)
        ∷ packet_calls loads slots bound entry i k past) (packet_calls loads slots bound entry i k past))
        ≡ left pace tick past
    by true again = again
    by false again = again

pub packets_shown : (loads : List WriteLoad) (slots : List ℕ) (bound : ℕ) (entry : Entry) (i k : ℕ)
    (past : List Call) → last_shown (packet_calls loads slots bound entry i k past) ≡ last_shown past
packets_shown loads slots bound entry i zero past = refl
packets_shown loads slots bound entry i (suc k) past =
    by (counts loads slots bound entry i k) (packets_shown loads slots bound entry i k past)
  where
    by : (b : Bool) → last_shown (packet_calls loads slots bound entry i k past) ≡ last_shown past
        → last_shown
        (cond b (Arrived (slot_of loads slots i k) (payload_of loads i k)
        ∷ packet_calls loads slots bound entry i k past) (packet_calls loads slots bound entry i k past))
        ≡ last_shown past
    by true again = again
    by false again = again

-- ---- a set that is whole

-- where its last packet stands below the bound, all of its packets do
pub all_below : (loads : List WriteLoad) (slots : List ℕ) (bound i k : ℕ) → AreSlots loads slots
    → i < length loads → is_whole loads slots bound i ≡ true → k < packets_of loads i
    → nat_lt (slot_of loads slots i k) bound ≡ true
all_below loads slots bound i k are inside whole within = by (grind arith)
  where
    last : slot_of loads slots i (packets_of loads i - 1) < bound
    last = grind (arith, nat_tests)

    by : (k ≡ packets_of loads i - 1) ⊎ (k < packets_of loads i - 1)
        → nat_lt (slot_of loads slots i k) bound ≡ true
    by (inl same) = ap (λ (n : ℕ). nat_lt (slot_of loads slots i n) bound) same ∙ whole
    by (inr before) =
        (let less = in_set loads slots i k (packets_of loads i - 1) are inside before
        (last_packet loads slots i are inside) in let low = last in grind (arith, nat_tests))

-- its bytes are those from its first packet that counts on
pub heard_size : (loads : List WriteLoad) (slots : List ℕ) (bound : ℕ) (entry : Entry) (i : ℕ)
    → AreSlots loads slots → i < length loads → is_whole loads slots bound i ≡ true
    → from_of entry i ≤ packets_of loads i
    → sum_below (heard_of loads slots bound entry i) (packets_of loads i)
    ≡ size_of loads i - sum_below (payload_of loads i) (from_of entry i)
heard_size loads slots bound entry i are inside whole from =
    omega (
      arith,
      parts (packets_of loads i) (omega arith),
      payloads loads i,
      from_there (packets_of loads i)
          (nat_le (packets_of loads i) (from_of entry i)) refl from,
    )
  where
    from_there : (k : ℕ) (c : Bool) → nat_le k (from_of entry i) ≡ c → from_of entry i ≤ k
        → sum_below (payload_of loads i) (cond (nat_le k (from_of entry i)) k (from_of entry i))
        ≡ sum_below (payload_of loads i) (from_of entry i)
    from_there k true t least =
        (let equal : k
        ≡ from_of entry i = grind (arith, nat_tests) in ap
        (λ b. sum_below (payload_of loads i) (cond b k (from_of entry i))) t
        ∙ ap (sum_below (payload_of loads i)) equal)
    from_there k false t least = ap (λ b. sum_below (payload_of loads i) (cond b k (from_of entry i))) t

    -- up to a packet all bytes are those before the first one that counts, and those that count
    parts : (k : ℕ) → k ≤ packets_of loads i
        → sum_below (payload_of loads i) k
        ≡ sum_below (payload_of loads i) (cond (nat_le k (from_of entry i)) k (from_of entry i))
        + sum_below (heard_of loads slots bound entry i) k
    parts zero low =
        omega (
          arith,
          sum_below-zero (heard_of loads slots bound entry i),
          ap
              (λ b. sum_below (payload_of loads i) (cond b 0 (from_of entry i)))
              (let t : nat_le 0 (from_of entry i) ≡ true = grind (arith, nat_tests) in t),
        )
    parts (suc k) low = one (nat_le (from_of entry i) k) refl (parts k (omega (arith, low)))
      where
        one : (b : Bool) → nat_le (from_of entry i) k ≡ b
            → sum_below (payload_of loads i) k
            ≡ sum_below (payload_of loads i) (cond (nat_le k (from_of entry i)) k (from_of entry i))
            + sum_below (heard_of loads slots bound entry i) k
            → sum_below (payload_of loads i) (suc k)
            ≡ sum_below (payload_of loads i) (cond (nat_le (suc k) (from_of entry i)) (suc k) (from_of entry i))
            + sum_below (heard_of loads slots bound entry i) (suc k)
        one true e again =
            (let below = all_below loads slots bound i k are inside whole (omega (arith, low)) in
            let here : heard_of loads slots bound entry i k ≡ payload_of loads i k = rw (e, below) refl in
            let after : sum_below (payload_of loads i)
            (cond (nat_le (suc k) (from_of entry i)) (suc k) (from_of entry i))
            ≡ sum_below (payload_of loads i) (from_of entry i) =
            ap (λ b. sum_below (payload_of loads i) (cond b (suc k) (from_of entry i)))
            (let t : nat_le (suc k) (from_of entry i) ≡ false = grind (arith, nat_tests) in t) in
            let before : sum_below (payload_of loads i) (cond (nat_le k (from_of entry i)) k (from_of entry i))
            ≡ sum_below (payload_of loads i) (from_of entry i) = from_there k (nat_le k (from_of entry i)) refl
            (grind (arith, nat_tests)) in
            omega (
              arith,
              again,
              after,
              before,
              here,
              sum_below-suc (payload_of loads i) k,
              sum_below-suc
                  (heard_of loads slots bound entry i) k,
            ))
        one false e again =
            (let here : heard_of loads slots bound entry i k ≡ 0 = rw e refl in
            let after : sum_below (payload_of loads i)
            (cond (nat_le (suc k) (from_of entry i)) (suc k) (from_of entry i))
            ≡ sum_below (payload_of loads i) (suc k) =
            ap (λ b. sum_below (payload_of loads i) (cond b (suc k) (from_of entry i)))
            (let t : nat_le (suc k) (from_of entry i) ≡ true = grind (arith, nat_tests) in t) in
            let before : sum_below (payload_of loads i) (cond (nat_le k (from_of entry i)) k (from_of entry i))
            ≡ sum_below (payload_of loads i) k =
            ap (λ b. sum_below (payload_of loads i) (cond b k (from_of entry i)))
            (let t : nat_le k (from_of entry i) ≡ true = grind (arith, nat_tests) in t) in
            omega (
              arith,
              again,
              after,
              before,
              here,
              sum_below-suc (payload_of loads i) k,
              sum_below-suc
                  (heard_of loads slots bound entry i) k,
            ))
