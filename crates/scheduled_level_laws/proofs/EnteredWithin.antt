-- Wherever a scheduled stream is entered, the coded data buffer holds and every set is in time; no level is higher than
-- that of the whole stream.
use Rattle.std.proofs.Common.{◌≡◌, ◌∙◌, ℕ, zero, suc, ◌+◌, ◌-◌, ◌&&◌, ◌<◌, ◌≤◌, nat_le, nat_lt, Bool, true, false, cond, List, [], ◌∷◌, length, refl, sym, ap, subst, arith}
use Rattle.std.specs.Prelude.{slice_index}
use Rattle.std.proofs.lemmas.Bool.Decides.{nat_tests}
use Rattle.sub_base.specs.Pace.{tick_of, left_by}
use Rattle.sub_base.specs.declared.load.WriteLoad.{WriteLoad}
use Rattle.sub_base.specs.declared.pace.Pace.{Pace}
use Rattle.buffer_model.specs.Calls.{Call, Arrived, SetWhole, arrived, left, level_at}
use Rattle.buffer_model.specs.Within.{AreWithin}
use Rattle.schedule.proofs.BufferLaws.{tick_of-rises}
use Rattle.schedule.proofs.PacketLaws.{payloads}
use Rattle.schedule.proofs.SumLaws.{sum_below-zero, sum_below-suc, sum_below-more, sum_below-le, sum_below-same}
use Rattle.schedule.specs.Arrivals.{payload_by, arrived_of, coded_level_at as scheduled_level}
use Rattle.schedule.specs.Packets.{sum_below, load_of, size_of, packets_of, payload_of, bytes_with}
use Rattle.schedule.specs.Slots.{Timetable, slot_of, left_of, set_done_at as scheduled_done}
use Rattle.scheduled_level_laws.specs.EnteredCalls.{Entry, from_of, counts, packet_calls, heard_load, is_whole, calls_of_set, entered_calls}
use Rattle.scheduled_level_laws.proofs.EnteredSums.{AreSlots, in_order, last_packet, heard_of, packets_arrived, packets_left}
use Rattle.scheduled_level_laws.proofs.EnteredLevels.{IsEntry, heard_done, gone_of, came_of, set_done, all_arrived, all_left}
use Rattle.scheduled_level_laws.proofs.EnteredLess.{done_no_later, each_set}

-- ---- a schedule that holds

-- each packet can stand where it stands, each set is done at its tick, and each by its presentation time
pub record Holds (loads : List WriteLoad) (pace : Pace) (table : Timetable) : Type 0 where
  pub are : AreSlots loads table.slots
  pub room : (i k : ℕ) → i < length loads → k < packets_of loads i
      → bytes_with loads i k
      ≤ pace.coded + sum_below (left_of loads table.dones (tick_of pace (slot_of loads table.slots i k))) i
  pub dones : (i : ℕ) → i < length loads → slice_index table.dones i ≡ scheduled_done loads pace table.slots i
  pub ready : (i : ℕ) → i < length loads → slice_index table.dones i ≤ (load_of loads i).pts

-- ---- levels at every slot

sums_less : (f g h k : ℕ → ℕ) (n : ℕ) → ((j : ℕ) → j < n → f j + g j ≤ h j + k j)
    → sum_below f n + sum_below g n ≤ sum_below h n + sum_below k n
sums_less f g h k zero each = omega (arith, sum_below-zero f, sum_below-zero g)
sums_less f g h k (suc n) each =
    omega (
      arith,
      sums_less f g h k n (λ j before. each j (omega (arith, before))),
      each n (omega arith),
      sum_below-suc
          f n,
      sum_below-suc g n,
      sum_below-suc h n,
      sum_below-suc k n,
    )

cut_less : (came gone arrived left : ℕ) → came + left ≤ arrived + gone → (came + 0) - gone ≤ arrived - left
cut_less came gone arrived left less = omega (arith, less)

-- a level is at most that of the whole stream
pub no_higher : (loads : List WriteLoad) (pace : Pace) (table : Timetable) (painted : ℕ → ℕ) (entry : Entry)
    (slot : ℕ) → Holds loads pace table → IsEntry loads table.slots painted entry
    → level_at pace slot 0 (entered_calls loads table.slots (suc slot) painted entry (length loads))
    ≤ scheduled_level loads (length loads) pace table.slots table.dones slot
no_higher loads pace table painted entry slot holds is =
    let came = all_arrived loads table.slots (suc slot) painted entry (length loads) in
    let gone =
    all_left loads pace table.slots (suc slot) painted entry (tick_of pace slot) (length loads) is (omega arith) in
    let less =
    sums_less (came_of loads table.slots (suc slot) entry) (left_of loads table.dones (tick_of pace slot))
    (arrived_of loads table.slots slot)
    (gone_of loads pace table.slots (suc slot) painted entry (tick_of pace slot)) (length loads)
    (λ i inside. each_set loads pace table.slots table.dones painted entry slot i is inside (holds.dones i inside)) in
    rw (came, gone)
    (cut_less (sum_below (came_of loads table.slots (suc slot) entry) (length loads))
    (sum_below (gone_of loads pace table.slots (suc slot) painted entry (tick_of pace slot)) (length loads))
    (sum_below (arrived_of loads table.slots slot) (length loads))
    (sum_below (left_of loads table.dones (tick_of pace slot)) (length loads)) less)

-- later more has left
left_more : (done bytes tick later : ℕ) → tick ≤ later → left_by tick done bytes ≤ left_by later done bytes
left_more done bytes tick later after = by (nat_le done tick) refl
  where
    by : (b : Bool) → nat_le done tick ≡ b → left_by tick done bytes ≤ left_by later done bytes
    by false e = subst (λ b. cond b bytes 0 ≤ left_by later done bytes) (sym e) (omega arith)
    by true e =
        (let t : nat_le done later
        ≡ true = grind (arith, nat_tests) in subst (λ b. left_by tick done bytes ≤ cond b bytes 0) (sym t)
        (subst (λ b. cond b bytes 0 ≤ bytes) (sym e) (omega arith)))

payload_less : (b : Bool) (bytes : ℕ) → cond b bytes 0 ≤ bytes
payload_less true bytes = omega arith
payload_less false bytes = omega arith

arrived_less : (loads : List WriteLoad) (slots : List ℕ) (slot i k : ℕ)
    → sum_below (payload_by loads slots slot i) k ≤ sum_below (payload_of loads i) k
arrived_less loads slots slot i k =
    sum_below-le (payload_by loads slots slot i) (payload_of loads i) k
    (λ m within. payload_less (nat_le (slot_of loads slots i m) slot) (payload_of loads i m))

-- the bytes of the first sets, and of the first packets of the next, that came by a slot: those that the buffer has
-- room for and those that have left
sets_held : (loads : List WriteLoad) (pace : Pace) (table : Timetable) (slot n : ℕ) → Holds loads pace table
    → n ≤ length loads
    → sum_below (arrived_of loads table.slots slot) n
    ≤ pace.coded + sum_below (left_of loads table.dones (tick_of pace slot)) n
sets_held loads pace table slot zero holds inside = omega (arith, sum_below-zero (arrived_of loads table.slots slot))
sets_held loads pace table slot (suc n) holds inside =
    omega (
      arith,
      sum_below-suc (arrived_of loads table.slots slot) n,
      sum_below-suc
          (left_of loads table.dones (tick_of pace slot)) n,
      packets_held (packets_of loads n) (omega arith)
          (sets_held loads pace table slot n holds (omega (arith, inside))),
    )
  where
    packets_held : (k : ℕ) → k ≤ packets_of loads n
        → sum_below (arrived_of loads table.slots slot) n
        ≤ pace.coded + sum_below (left_of loads table.dones (tick_of pace slot)) n
        → sum_below (arrived_of loads table.slots slot) n + sum_below (payload_by loads table.slots slot n) k
        ≤ pace.coded + sum_below (left_of loads table.dones (tick_of pace slot)) n
    packets_held zero within before = omega (arith, sum_below-zero (payload_by loads table.slots slot n), before)
    packets_held (suc k) within before =
        by (nat_le (slot_of loads table.slots n k) slot) refl (packets_held k (omega (arith, within)) before)
      where
        by : (b : Bool) → nat_le (slot_of loads table.slots n k) slot ≡ b
            → sum_below (arrived_of loads table.slots slot) n + sum_below (payload_by loads table.slots slot n) k
            ≤ pace.coded + sum_below (left_of loads table.dones (tick_of pace slot)) n
            → sum_below (arrived_of loads table.slots slot) n
            + sum_below (payload_by loads table.slots slot n) (suc k)
            ≤ pace.coded + sum_below (left_of loads table.dones (tick_of pace slot)) n
        by false e again =
            (let none : payload_by loads table.slots slot n k
            ≡ 0 = ap (λ b. cond b (payload_of loads n k) 0) e in omega
            (arith, again, none, sum_below-suc (payload_by loads table.slots slot n) k))
        by true e again =
            (let low : slot_of loads table.slots n k ≤ slot = grind (arith, nat_tests) in
            let tick = tick_of-rises pace (slot_of loads table.slots n k) slot low in
            let room = holds.room n k (omega (arith, inside)) (omega (arith, within)) in
            let sets =
            sum_below-le (arrived_of loads table.slots slot) (size_of loads) n
            (λ j before. omega
            (arith, arrived_less loads table.slots slot j (packets_of loads j), payloads loads j)) in
            let gone =
            sum_below-le (left_of loads table.dones (tick_of pace (slot_of loads table.slots n k)))
            (left_of loads table.dones (tick_of pace slot)) n
            (λ j before. left_more (slice_index table.dones j) (size_of loads j)
            (tick_of pace (slot_of loads table.slots n k)) (tick_of pace slot) tick) in
            omega (
              arith,
              room,
              sets,
              gone,
              arrived_less loads table.slots slot n (suc k),
              sum_below-suc
                  (payload_of loads n) k,
              sum_below-more (payload_of loads n) k,
            ))

-- at every slot, also where no packet stands, the whole stream's level is within the buffer
pub level_within : (loads : List WriteLoad) (pace : Pace) (table : Timetable) (slot : ℕ) → Holds loads pace table
    → scheduled_level loads (length loads) pace table.slots table.dones slot ≤ pace.coded
level_within loads pace table slot holds =
    omega (arith, sets_held loads pace table slot (length loads) holds (omega arith))

-- ---- what is received is within the buffer and in time

-- a set whose packets stand below the slot of another packet: by that slot just what came of it came and left
came_same : (loads : List WriteLoad) (slots : List ℕ) (bound : ℕ) (entry : Entry) (slot j : ℕ)
    → ((k : ℕ) → k < packets_of loads j → slot_of loads slots j k < slot) → slot < bound
    → came_of loads slots bound entry j ≡ came_of loads slots (suc slot) entry j
came_same loads slots bound entry slot j all below =
    ap (λ (n : ℕ). cond (nat_le entry.set j) n 0)
    (sum_below-same (heard_of loads slots bound entry j) (heard_of loads slots (suc slot) entry j) (packets_of loads j)
    each)
  where
    each : (k : ℕ) → k < packets_of loads j
        → heard_of loads slots bound entry j k ≡ heard_of loads slots (suc slot) entry j k
    each k within =
        ap (λ b. cond (nat_le (from_of entry j) k && b) (payload_of loads j k) 0)
        (let low = all k within in let t : nat_lt (slot_of loads slots j k) bound
        ≡ nat_lt (slot_of loads slots j k) (suc slot) = grind (arith, nat_tests) in t)

gone_same : (loads : List WriteLoad) (pace : Pace) (slots : List ℕ) (bound : ℕ) (painted : ℕ → ℕ)
    (entry : Entry) (tick slot j : ℕ) → slot_of loads slots j (packets_of loads j - 1) < slot → slot < bound
    → gone_of loads pace slots bound painted entry tick j ≡ gone_of loads pace slots (suc slot) painted entry tick j
gone_same loads pace slots bound painted entry tick slot j low below =
    ap (λ b. cond (nat_le entry.set j && b)
    (left_by tick (heard_done loads pace slots painted entry j) (heard_load loads painted entry j).size) 0)
    (let t : nat_lt (slot_of loads slots j (packets_of loads j - 1)) bound
    ≡ nat_lt (slot_of loads slots j (packets_of loads j - 1)) (suc slot) = grind (arith, nat_tests) in t)

-- the level at a packet that arrives is within the buffer
packet_within : (loads : List WriteLoad) (pace : Pace) (table : Timetable) (bound : ℕ) (painted : ℕ → ℕ)
    (entry : Entry) (i k : ℕ) → Holds loads pace table → IsEntry loads table.slots painted entry
    → i < length loads → k < packets_of loads i
    → slot_of loads table.slots i k < bound
    → level_at pace (slot_of loads table.slots i k) (payload_of loads i k)
    (packet_calls loads table.slots bound entry i k (entered_calls loads table.slots bound painted entry i))
    ≤ pace.coded
packet_within loads pace table bound painted entry i k holds is inside within below =
    omega (
      arith,
      came,
      gone,
      least,
      fewer,
      more,
      holds.room i k inside within,
      sum_below-suc (payload_of loads i)
          k,
      sum_below-more (payload_of loads i) k,
    )
  where
    slot : ℕ
    slot = slot_of loads table.slots i k

    tick : ℕ
    tick = tick_of pace slot

    past : List Call
    past = packet_calls loads table.slots bound entry i k (entered_calls loads table.slots bound painted entry i)

    before : (j m : ℕ) → j < i → m < packets_of loads j → slot_of loads table.slots j m < slot
    before j m earlier part = in_order loads table.slots j i m k is.are earlier inside part within

    came : arrived past
        ≡ sum_below (came_of loads table.slots bound entry) i + sum_below (heard_of loads table.slots bound entry i) k
    came =
        omega (
          arith,
          packets_arrived loads table.slots bound entry i k
              (entered_calls loads table.slots bound painted entry i),
          all_arrived loads table.slots bound painted entry i,
        )

    gone : left pace tick past ≡ sum_below (gone_of loads pace table.slots bound painted entry tick) i
    gone =
        packets_left pace tick loads table.slots bound entry i k (entered_calls loads table.slots bound painted entry i)
        ∙ all_left loads pace table.slots bound painted entry tick i is (omega (arith, inside))

    each : (j : ℕ) → j < i
        → came_of loads table.slots bound entry j + left_of loads table.dones tick j
        ≤ size_of loads j + gone_of loads pace table.slots bound painted entry tick j
    each j earlier = omega (
      arith,
      came_same loads table.slots bound entry slot j (λ m part. before j m earlier part) below,
      gone_same loads pace table.slots bound painted entry tick slot j
          (before j (packets_of loads j - 1) earlier
          (last_packet loads table.slots j is.are (omega (arith, earlier, inside)))) below,
      each_set loads pace table.slots table.dones painted entry slot j is (omega (arith, earlier, inside))
          (holds.dones j (omega (arith, earlier, inside))),
      arrived_less loads table.slots slot j (packets_of loads j),
      payloads loads j,
    )

    least : sum_below (came_of loads table.slots bound entry) i + sum_below (left_of loads table.dones tick) i
        ≤ sum_below (size_of loads) i + sum_below (gone_of loads pace table.slots bound painted entry tick) i
    least =
        sums_less (came_of loads table.slots bound entry) (left_of loads table.dones tick) (size_of loads)
        (gone_of loads pace table.slots bound painted entry tick) i each

    fewer : sum_below (heard_of loads table.slots bound entry i) k ≤ sum_below (payload_of loads i) k
    fewer =
        sum_below-le (heard_of loads table.slots bound entry i) (payload_of loads i) k
        (λ m part. payload_less (counts loads table.slots bound entry i m) (payload_of loads i m))

    more : 0 ≤ payload_of loads i k
    more = omega arith

-- a past of packets of a set, behind one that is within the buffer, is so
packets_within : (loads : List WriteLoad) (pace : Pace) (table : Timetable) (bound : ℕ) (painted : ℕ → ℕ)
    (entry : Entry) (i k : ℕ) → Holds loads pace table → IsEntry loads table.slots painted entry
    → i < length loads → k ≤ packets_of loads i
    → AreWithin pace (entered_calls loads table.slots bound painted entry i)
    → AreWithin pace
    (packet_calls loads table.slots bound entry i k (entered_calls loads table.slots bound painted entry i))
packets_within loads pace table bound painted entry i zero holds is inside within before = before
packets_within loads pace table bound painted entry i (suc k) holds is inside within before =
    by (counts loads table.slots bound entry i k) refl
    (packets_within loads pace table bound painted entry i k holds is inside (omega (arith, within)) before)
  where
    past : List Call
    past = packet_calls loads table.slots bound entry i k (entered_calls loads table.slots bound painted entry i)

    by : (b : Bool) → counts loads table.slots bound entry i k ≡ b → AreWithin pace past
        → AreWithin pace
        (cond (counts loads table.slots bound entry i k)
        (Arrived (slot_of loads table.slots i k) (payload_of loads i k) ∷ past) past)
    by false e again =
        subst (λ b. AreWithin pace
        (cond b (Arrived (slot_of loads table.slots i k) (payload_of loads i k) ∷ past) past)) (sym e) again
    by true e again =
        subst (λ b. AreWithin pace
        (cond b (Arrived (slot_of loads table.slots i k) (payload_of loads i k) ∷ past) past)) (sym e) (
          packet_within loads pace table bound painted entry i k holds is inside (omega (arith, within))
              (grind (arith, nat_tests)),
          again,
        )

-- wherever the stream is entered, up to any packet: no level passes the buffer, and each set is done by its time
pub entered_within : (loads : List WriteLoad) (pace : Pace) (table : Timetable) (bound : ℕ) (painted : ℕ → ℕ)
    (entry : Entry) (n : ℕ) → Holds loads pace table → IsEntry loads table.slots painted entry
    → n ≤ length loads
    → AreWithin pace (entered_calls loads table.slots bound painted entry n)
entered_within loads pace table bound painted entry zero holds is inside = tt
entered_within loads pace table bound painted entry (suc i) holds is inside =
    by (nat_le entry.set i) (entered_within loads pace table bound painted entry i holds is (omega (arith, inside)))
  where
    before : List Call
    before = entered_calls loads table.slots bound painted entry i

    packets : List Call
    packets = packet_calls loads table.slots bound entry i (packets_of loads i) before

    whole : (b : Bool) → is_whole loads table.slots bound i ≡ b → AreWithin pace packets
        → AreWithin pace
        (cond (is_whole loads table.slots bound i) (SetWhole (heard_load loads painted entry i) ∷ packets) packets)
    whole false e again =
        subst (λ b. AreWithin pace (cond b (SetWhole (heard_load loads painted entry i) ∷ packets) packets)) (sym e)
        again
    whole true e again =
        subst (λ b. AreWithin pace (cond b (SetWhole (heard_load loads painted entry i) ∷ packets) packets)) (sym e) (
          omega (
            arith,
            set_done loads pace table.slots bound painted entry i is (omega (arith, inside)) e,
            done_no_later loads pace table.slots painted entry i is (omega (arith, inside)),
            holds.dones i (omega (arith, inside)),
            holds.ready i (omega (arith, inside)),
          ),
          again,
        )

    by : (b : Bool) → AreWithin pace before
        → AreWithin pace (cond b (calls_of_set loads table.slots bound painted entry i before) [])
    by false again = tt
    by true again =
        whole (is_whole loads table.slots bound i) refl
        (packets_within loads pace table bound painted entry i (packets_of loads i) holds is (omega (arith, inside))
        (omega arith) again)
