-- No arrival of the same packets is earlier than the schedule.
use Rattle.std.proofs.Common.{◌≡◌, ℕ, zero, suc, ◌+◌, ◌-◌, ◌<◌, ◌≤◌, inl, inr, List, length, ap, ◌∙◌, arith, add-one}
use Rattle.std.specs.Prelude.{slice_index, All}
use Rattle.std.specs.List.Sorted.{IsStrictlyIncreasing}
use Rattle.std.proofs.lemmas.Bool.{cases_lt}
use Rattle.std.proofs.lemmas.Bool.Decides.{nat_tests}
use Rattle.sub_base.specs.declared.load.WriteLoad.{WriteLoad}
use Rattle.sub_base.specs.declared.pace.Pace.{Pace}
use Rattle.schedule.specs.declared.fault.ScheduleFault.{ScheduleFault}
use Rattle.schedule.specs.declared.fault.ScheduleFault.TheVariants.{Memory, CodedFull, Late, SegmentFull}
use Rattle.schedule.specs.Arrivals.{payload_by, arrived_of, IsArrival, IsEarliest, IsHopeless}
use Rattle.schedule.specs.Packets.{sum_below, size_of, first_packet, packets_of, payload_of, bytes_with}
use Rattle.schedule.specs.Refusals.{IsScheduleCause}
use Rattle.sub_base.specs.Pace.{tick_of}
use Rattle.schedule.specs.Slots.{slot_of, left_of, set_done_at, Timetable, IsSchedule, IsLoad}
use Rattle.schedule.proofs.SumLaws.{sum_below-more, sum_below-zero, sum_below-rises, sum_below-same, sum_below-le, sum_below-ends}
use Rattle.schedule.proofs.BufferLaws.{tick_of-rises, left_of-no, left_of-most}
use Rattle.schedule.proofs.PacketLaws.{load_at, payloads, some_bytes, some_packets}
use Rattle.schedule.proofs.MakeLaws.{within_packets}

-- of rising slots, a later one is not less
pub rise-le : (slots : List ℕ) (a b : ℕ) → IsStrictlyIncreasing slots → a ≤ b → b < length slots
    → slice_index slots a ≤ slice_index slots b
rise-le slots a zero rise order within = let e : a ≡ 0 = omega arith in rw e (omega arith)
rise-le slots a (suc b) rise order within =
    elim (cases_lt a (suc b)) [
      | inl less ↦ omega (
        arith,
        rise-le slots a b rise (omega arith) (omega arith),
        rise b (omega arith),
        ap
            (λ (m : ℕ). slice_index slots m) (add-one b),
      )
      | inr same ↦ let e : a ≡ suc b = omega arith in rw e (omega arith)
    ]

-- a packet that has arrived, and one that has not
pub payload_by-yes : (loads : List WriteLoad) (slots : List ℕ) (slot i k : ℕ) → slot_of loads slots i k ≤ slot
    → payload_by loads slots slot i k ≡ payload_of loads i k
payload_by-yes loads slots slot i k h = grind (arith, nat_tests)

pub payload_by-no : (loads : List WriteLoad) (slots : List ℕ) (slot i k : ℕ) → slot < slot_of loads slots i k
    → payload_by loads slots slot i k ≡ 0
payload_by-no loads slots slot i k h = grind (arith, nat_tests)

pub payload_by-most : (loads : List WriteLoad) (slots : List ℕ) (slot i k : ℕ)
    → payload_by loads slots slot i k ≤ payload_of loads i k
payload_by-most loads slots slot i k = grind (arith, nat_tests)

-- a later done tick leaves no more bytes gone
pub left_of-le : (loads : List WriteLoad) (dones others : List ℕ) (tick i : ℕ)
    → slice_index dones i ≤ slice_index others i → left_of loads others tick i ≤ left_of loads dones tick i
left_of-le loads dones others tick i h = grind (arith, nat_tests)

-- the packets up to a place in rising slots have arrived by its slot
pub arrived-least : (loads : List WriteLoad) (n : ℕ) (slots : List ℕ) (i k : ℕ)
    → length slots ≡ first_packet loads n → IsStrictlyIncreasing slots →
    i < n → k < packets_of loads i
    → bytes_with loads i k ≤ sum_below (arrived_of loads slots (slot_of loads slots i k)) n
arrived-least loads n slots i k count rise before within =
    let slot = slot_of loads slots i k in
    let place = within_packets loads i k n before within in
    let all : (j : ℕ) → j < i → size_of loads j ≤ arrived_of loads slots slot j = λ j less.
    let same = sum_below-same (payload_by loads slots slot j) (payload_of loads j) (packets_of loads j)
    (λ m among. payload_by-yes loads slots slot j m
    (rise-le slots (first_packet loads j + m) (first_packet loads i + k) rise
    (omega (arith, within_packets loads j m i less among)) (omega (arith, count, place)))) in
    omega (arith, same, payloads loads j) in
    let own_same = sum_below-same (payload_by loads slots slot i) (payload_of loads i) (k + 1)
    (λ m among. payload_by-yes loads slots slot i m
    (rise-le slots (first_packet loads i + m) (first_packet loads i + k) rise (omega arith)
    (omega (arith, count, place)))) in
    let own = sum_below-rises (payload_by loads slots slot i) (k + 1) (packets_of loads i) (omega arith) in
    let sets = sum_below-le (size_of loads) (arrived_of loads slots slot) i all in
    let here = sum_below-more (arrived_of loads slots slot) i in
    let whole = sum_below-rises (arrived_of loads slots slot) (i + 1) n (omega arith) in
    omega (arith, own_same, own, sets, here, whole)

-- no other packets have
pub arrived-most : (loads : List WriteLoad) (n : ℕ) (slots : List ℕ) (i k : ℕ)
    → length slots ≡ first_packet loads n → IsStrictlyIncreasing slots →
    i < n → k < packets_of loads i
    → sum_below (arrived_of loads slots (slot_of loads slots i k)) n ≤ bytes_with loads i k
arrived-most loads n slots i k count rise before within =
    let slot = slot_of loads slots i k in
    let place = within_packets loads i k n before within in
    let later : (p : ℕ) → first_packet loads i + k < p → p < first_packet loads n → slot < slice_index slots p =
    λ p after among.
    omega (
      arith,
      rise (first_packet loads i + k) (omega (arith, count)),
      rise-le slots (first_packet loads i + k + 1) p
          rise (omega arith) (omega (arith, count)),
    ) in
    let none : (j : ℕ) → i + 1 ≤ j → j < n → arrived_of loads slots slot j ≡ 0 = λ j after among.
    sum_below-ends (payload_by loads slots slot j) 0 (packets_of loads j) (omega arith)
    (λ m _ less. payload_by-no loads slots slot j m (later (first_packet loads j + m)
    (omega (arith, within_packets loads i k j (omega arith) within)) (within_packets loads j m n among less)))
    ∙ sum_below-zero (payload_by loads slots slot j) in
    let own_rest = sum_below-ends (payload_by loads slots slot i) (k + 1) (packets_of loads i) (omega arith)
    (λ m after less. payload_by-no loads slots slot i m
    (later (first_packet loads i + m) (omega arith) (within_packets loads i m n before less))) in
    let own =
    sum_below-le (payload_by loads slots slot i) (payload_of loads i) (k + 1)
    (λ m _. payload_by-most loads slots slot i m) in
    let sets = sum_below-le (arrived_of loads slots slot) (size_of loads) i (λ j less.
    omega (
      arith,
      sum_below-le (payload_by loads slots slot j) (payload_of loads j) (packets_of loads j)
          (λ m _. payload_by-most loads slots slot j m),
      payloads loads j,
    )) in
    let rest = sum_below-ends (arrived_of loads slots slot) (i + 1) n (omega arith) none in
    let here = sum_below-more (arrived_of loads slots slot) i in
    omega (arith, own_rest, own, sets, rest, here)

-- at a packet of an arrival neither its set nor a later one is done, so that it has room among the sets before
pub arrival-room : (loads : List WriteLoad) (n : ℕ) (pace : Pace) (slots dones : List ℕ) (i k : ℕ)
    → All IsLoad loads → n ≤ length loads →
    IsArrival loads n pace slots dones → i < n → k < packets_of loads i →
    bytes_with loads i k ≤ pace.coded + sum_below (left_of loads dones (tick_of pace (slot_of loads slots i k))) i
arrival-room loads n pace slots dones i k each all at before within =
    let slot = slot_of loads slots i k in
    let place = within_packets loads i k n before within in
    let arrived = arrived-least loads n slots i k at.packets at.rise before within in
    let not_yet : (j : ℕ) → i ≤ j → j < n → left_of loads dones (tick_of pace slot) j ≡ 0 =
    λ j after among.
    let some = (load_at loads j each (omega arith)).some in
    let any = some_packets loads j (some_bytes loads j each (omega arith)) in
    let in_place = within_packets loads j (packets_of loads j - 1) n among (omega (arith, any)) in
    let order : first_packet loads i + k ≤ first_packet loads j + (packets_of loads j - 1) =
    elim (cases_lt i j) [
      | inl less ↦ omega (arith, within_packets loads i k j less within)
      | inr more ↦ let e : j ≡ i = omega arith in omega (arith, ap (first_packet loads) e, ap (packets_of loads) e)
    ] in
    let last =
    rise-le slots (first_packet loads i + k) (first_packet loads j + (packets_of loads j - 1)) at.rise order
    (omega (arith, at.packets, in_place)) in
    left_of-no loads dones (tick_of pace slot) j
    (omega (
      arith,
      at.done j among,
      some,
      tick_of-rises pace slot (slot_of loads slots j (packets_of loads j - 1))
          last,
    )) in
    let left = sum_below-ends (left_of loads dones (tick_of pace slot)) i n (omega arith) not_yet in
    omega (arith, arrived, left, at.level i k before within)

-- earlier slots make an earlier done tick
pub done_of-le : (loads : List WriteLoad) (pace : Pace) (slots others : List ℕ) (i : ℕ) →
    slot_of loads slots i (packets_of loads i - 1) ≤ slot_of loads others i (packets_of loads i - 1)
    → set_done_at loads pace slots i ≤ set_done_at loads pace others i
done_of-le loads pace slots others i h =
    omega (
      arith,
      tick_of-rises pace (slot_of loads slots i (packets_of loads i - 1))
          (slot_of loads others i (packets_of loads i - 1)) h,
    )

-- one packet: where all before stand no later than in an arrival, so does this one
pub earlier-packet : (loads : List WriteLoad) (n m : ℕ) (pace : Pace) (table : Timetable) (slots dones : List ℕ)
    (i k : ℕ) → All IsLoad loads →
    n ≤ m → m ≤ length loads → IsSchedule loads n pace table → IsArrival loads m pace slots dones → i < n
    → k < packets_of loads i →
    ((p : ℕ) → p < first_packet loads i + k → slice_index table.slots p ≤ slice_index slots p) →
    slot_of loads table.slots i k ≤ slot_of loads slots i k
earlier-packet loads n m pace table slots dones i k each fewer all at other before within earlier =
    let slot = slot_of loads slots i k in
    let place = within_packets loads i k m (omega arith) within in
    let gone =
    sum_below-le (left_of loads dones (tick_of pace slot)) (left_of loads table.dones (tick_of pace slot)) i
    (λ j less.
    let some = some_packets loads j (some_bytes loads j each (omega arith)) in
    let last =
    earlier (first_packet loads j + (packets_of loads j - 1))
    (omega (arith, within_packets loads j (packets_of loads j - 1) i less (omega (arith, some)))) in
    left_of-le loads table.dones dones (tick_of pace slot) j
    (omega (
      arith,
      at.dones j (omega arith),
      other.done j (omega arith),
      done_of-le loads pace table.slots slots j
          last,
    ))) in
    at.least i k slot before within (record {
      after =
          λ p next. omega (
            arith,
            earlier p (omega (arith, next)),
            other.rise p (omega (arith, next, other.packets, place)),
            ap
                (λ (q : ℕ). slice_index slots q) next,
          );
      window = other.window i k (omega arith) within;
      room = omega (arith, gone, arrival-room loads m pace slots dones i k each all other (omega arith) within);
    })

-- the packets of one set
pub earlier-set : (loads : List WriteLoad) (n m : ℕ) (pace : Pace) (table : Timetable) (slots dones : List ℕ)
    (i k : ℕ) → All IsLoad loads →
    n ≤ m → m ≤ length loads → IsSchedule loads n pace table → IsArrival loads m pace slots dones
    → i < n → k ≤ packets_of loads i →
    ((p : ℕ) → p < first_packet loads i → slice_index table.slots p ≤ slice_index slots p) →
    (p : ℕ) → p < first_packet loads i + k → slice_index table.slots p ≤ slice_index slots p
earlier-set loads n m pace table slots dones i zero each fewer all at other before within earlier p below =
    earlier p (omega arith)
earlier-set loads n m pace table slots dones i (suc k) each fewer all at other before within earlier p below =
    let front = earlier-set loads n m pace table slots dones i k each fewer all at other before (omega arith) earlier in
    elim (cases_lt p (first_packet loads i + k)) [
      | inl less ↦ front p less
      | inr more ↦
          let e : p ≡ first_packet loads i + k = omega arith in
          omega (
            arith,
            earlier-packet loads n m pace table slots dones i k each fewer all at other before (omega arith) front,
            ap (λ (q : ℕ). slice_index slots q) e,
            ap (λ (q : ℕ). slice_index table.slots q) e,
          )
    ]

-- all packets of the first i sets
pub earlier-sets : (loads : List WriteLoad) (n m : ℕ) (pace : Pace) (table : Timetable) (slots dones : List ℕ)
    (i : ℕ) → All IsLoad loads →
    n ≤ m → m ≤ length loads → IsSchedule loads n pace table → IsArrival loads m pace slots dones
    → i ≤ n →
    (p : ℕ) → p < first_packet loads i → slice_index table.slots p ≤ slice_index slots p
earlier-sets loads n m pace table slots dones zero each fewer all at other within p below =
    absurd (omega (arith, below, sum_below-zero (packets_of loads)))
earlier-sets loads n m pace table slots dones (suc i) each fewer all at other within p below =
    earlier-set loads n m pace table slots dones i (packets_of loads i) each fewer all at other (omega arith)
    (omega arith)
    (earlier-sets loads n m pace table slots dones i each fewer all at other (omega arith)) p
    (omega (arith, sum_below-more (packets_of loads) i, ap (first_packet loads) (add-one i)))

-- the done tick of a set
pub earlier-done : (loads : List WriteLoad) (n m : ℕ) (pace : Pace) (table : Timetable) (slots dones : List ℕ)
    (i : ℕ) → All IsLoad loads →
    n ≤ m → m ≤ length loads → IsSchedule loads n pace table → IsArrival loads m pace slots dones → i < n
    → slice_index table.dones i ≤ slice_index dones i
earlier-done loads n m pace table slots dones i each fewer all at other within =
    let some = some_packets loads i (some_bytes loads i each (omega arith)) in
    let last =
    earlier-sets loads n m pace table slots dones n each fewer all at other (omega arith)
    (first_packet loads i + (packets_of loads i - 1))
    (within_packets loads i (packets_of loads i - 1) n within (omega (arith, some))) in
    omega (arith, at.dones i within, other.done i (omega arith), done_of-le loads pace table.slots slots i last)

-- the schedule is the earliest arrival
pub earliest : (loads : List WriteLoad) (n : ℕ) (pace : Pace) (table : Timetable) → All IsLoad loads
    → IsSchedule loads n pace table → IsEarliest loads n pace table
earliest loads n pace table each at =
    record {
      slots =
          λ m slots dones fewer all other. earlier-sets loads n m pace table slots dones n each fewer all at other
          (omega arith);
      dones =
          λ m slots dones fewer all other i. earlier-done loads n m pace table slots dones i each fewer all at other;
    }

-- the schedule is an arrival
pub arrival : (loads : List WriteLoad) (n : ℕ) (pace : Pace) (table : Timetable)
    → IsStrictlyIncreasing table.slots → IsSchedule loads n pace table →
    IsArrival loads n pace table.slots table.dones
arrival loads n pace table rise at =
    record {
      packets = at.packets;
      rise = rise;
      window = λ i k before within. (at.stands i k before within).window;
      sets = at.sets.1;
      done = at.dones;
      level = λ i k before within.
          let tick = tick_of pace (slot_of loads table.slots i k) in
          omega (
            arith,
            arrived-most loads n table.slots i k at.packets rise before within,
            (at.stands i k before within).room,
            sum_below-rises (left_of loads table.dones tick) i n (omega arith),
          );
    }

-- a refusal holds for every arrival
pub hopeless : (loads : List WriteLoad) (pace : Pace) (fault : ScheduleFault) → All IsLoad loads
    → IsScheduleCause loads pace fault → IsHopeless loads pace fault
hopeless loads pace Memory each cause = tt
hopeless loads pace (CodedFull set size) each cause = λ m slots dones among all other.
    let some = some_packets loads set (some_bytes loads set each cause.among) in
    let last : packets_of loads set - 1 + 1 ≡ packets_of loads set = omega (arith, some) in
    let room =
    arrival-room loads m pace slots dones set (packets_of loads set - 1) each all other among (omega (arith, some))
    in
    let slot = slot_of loads slots set (packets_of loads set - 1) in
    let left =
    sum_below-le (left_of loads dones (tick_of pace slot)) (size_of loads) set
    (λ j _. left_of-most loads dones (tick_of pace slot) j) in
    omega (arith, room, left, ap (sum_below (payload_of loads set)) last, payloads loads set, cause.is_size, cause.full)
hopeless loads pace (Late set done shown) each cause = record {
  late = λ m slots dones among all other.
      let later =
      earlier-done loads (set + 1) m pace cause.table slots dones set each (omega arith) all cause.schedule other
      (omega arith) in
      (omega (arith, later, cause.is_done), omega (arith, later, cause.is_done, cause.is_shown, cause.late));
  table = cause.table;
  schedule = cause.schedule;
  is_done = cause.is_done;
  earliest = earliest loads (set + 1) pace cause.table each cause.schedule;
}
hopeless loads pace (SegmentFull set longest) each cause = (cause.is_longest, cause.long)
