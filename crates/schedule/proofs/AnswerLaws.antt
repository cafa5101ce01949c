-- A schedule on time and a fault exclude each other, and there is one fault.
use Rattle.std.proofs.Common.{◌≡◌, ◌≢◌, ◌⊎◌, inl, inr, refl, sym, ap, ℕ, zero, suc, ◌+◌, ◌-◌, ◌<◌, ◌≤◌, List, length, arith, add-one, Result, Ok, Err, IfOk, IfErr, subst}
use Rattle.std.specs.Prelude.{slice_index, All, MatchResult}
use Rattle.std.specs.List.Sorted.{IsStrictlyIncreasing}
use Rattle.std.proofs.lemmas.Bool.{cases_lt}
use Rattle.std.proofs.lemmas.Grind.{same_number_lists}
use Rattle.sub_base.specs.declared.load.WriteLoad.{WriteLoad}
use Rattle.sub_base.specs.declared.pace.Pace.{Pace}
use Rattle.schedule.specs.declared.fault.ScheduleFault.{ScheduleFault}
use Rattle.schedule.specs.declared.fault.ScheduleFault.TheVariants.{Memory, CodedFull, Late, SegmentFull}
use Rattle.schedule.specs.Arrivals.{IsArrival, IsEarliest, IsHopeless}
use Rattle.schedule.specs.Packets.{size_of, longest_of, load_of, first_packet, packets_of}
use Rattle.schedule.specs.Refusals.{IsScheduleCause, AnswersScheduleFault}
use Rattle.schedule.specs.Slots.{Timetable, IsSchedule, IsOnTime, IsLoad}
use Rattle.schedule.proofs.SumLaws.{sum_below-more, sum_below-zero}
use Rattle.schedule.proofs.EarliestLaws.{arrival, earlier-done, earliest, hopeless}

-- a packet among those of the first n sets: its set, and its number in that
record IsPacket (loads : List WriteLoad) (n p : ℕ) : Type 0 where
  i : ℕ
  k : ℕ
  among : i < n
  within : k < packets_of loads i
  is : p ≡ first_packet loads i + k

packet_at : (loads : List WriteLoad) (n p : ℕ) → p < first_packet loads n → IsPacket loads n p
packet_at loads zero p below = absurd (omega (arith, below, sum_below-zero (packets_of loads)))
packet_at loads (suc n) p below =
    elim (cases_lt p (first_packet loads n)) [
      | inl less ↦
          let at = packet_at loads n p less in
          record { i = at.i; k = at.k; among = omega (arith, at.among); within = at.within; is = at.is }
      | inr more ↦
          let count = sum_below-more (packets_of loads) n in
          record {
            i = n;
            k = p - first_packet loads n;
            among = omega arith;
            within = omega (arith, below, more, count, ap (first_packet loads) (add-one n));
            is = omega (arith, more);
          }
    ]

-- the slots of a schedule rise
pub rises : (loads : List WriteLoad) (n : ℕ) (pace : Pace) (table : Timetable) → IsSchedule loads n pace table
    → IsStrictlyIncreasing table.slots
rises loads n pace table at p short =
    let place = packet_at loads n (p + 1) (omega (arith, short, at.packets)) in
    omega (
      arith,
      (at.stands place.i place.k place.among place.within).after p place.is,
      ap (slice_index table.slots)
          place.is,
    )

arrives : (loads : List WriteLoad) (n : ℕ) (pace : Pace) (table : Timetable) → IsSchedule loads n pace table
    → IsArrival loads n pace table.slots table.dones
arrives loads n pace table at = arrival loads n pace table (rises loads n pace table at) at

-- the sets before one are on time, in a schedule of them and perhaps of more
record IsReached (loads : List WriteLoad) (pace : Pace) (set : ℕ) : Type 0 where
  table : Timetable
  count : ℕ
  more : set ≤ count
  most : count ≤ length loads
  schedule : IsSchedule loads count pace table
  on_time : IsOnTime loads set pace table

-- the set of a fault
abbrev set_of : ScheduleFault → ℕ
set_of Memory = 0
set_of (CodedFull set size) = set
set_of (Late set done shown) = set
set_of (SegmentFull set longest) = set

reached : (loads : List WriteLoad) (pace : Pace) (fault : ScheduleFault) → fault ≢ Memory
    → IsScheduleCause loads pace fault → IsReached loads pace (set_of fault)
reached loads pace Memory other cause = absurd (other refl)
reached loads pace (CodedFull set size) other cause =
    record {
      table = cause.table;
      count = set;
      more = omega arith;
      most = omega (arith, cause.among);
      schedule = cause.schedule;
      on_time = cause.before;
    }
reached loads pace (Late set done shown) other cause =
    record {
      table = cause.table;
      count = set
          + 1;
      more = omega arith;
      most = omega (arith, cause.among);
      schedule = cause.schedule;
      on_time = cause.before;
    }
reached loads pace (SegmentFull set longest) other cause =
    record {
      table = cause.table;
      count = set;
      more = omega arith;
      most = omega (arith, cause.among);
      schedule = cause.schedule;
      on_time = cause.before;
    }

-- no set behind that of a fault is reached
not_behind : (loads : List WriteLoad) (pace : Pace) (fault : ScheduleFault) (set : ℕ) → All IsLoad loads
    → fault ≢ Memory → IsScheduleCause loads pace fault →
    IsReached loads pace set → set_of fault < set → ⊥
not_behind loads pace Memory set each other cause at behind = other refl
not_behind loads pace (CodedFull first size) set each other cause at behind =
    absurd (omega (arith, at.on_time.fits first behind, cause.is_size, cause.full))
not_behind loads pace (Late first done shown) set each other cause at behind =
    let earlier =
    earlier-done loads (first + 1) at.count pace cause.table at.table.slots at.table.dones first each
    (omega (arith, behind, at.more)) at.most
    cause.schedule (arrives loads at.count pace at.table at.schedule) (omega arith) in
    absurd (omega (arith, earlier, at.on_time.ready first behind, cause.is_done, cause.is_shown, cause.late))
not_behind loads pace (SegmentFull first longest) set each other cause at behind =
    absurd (omega (arith, at.on_time.short first behind, cause.is_longest, cause.long))

-- where all sets are on time there is no fault
pub schedule_or_fault : (loads : List WriteLoad) (pace : Pace) (table : Timetable) (fault : ScheduleFault)
    → All IsLoad loads →
    IsSchedule loads (length loads) pace table → IsOnTime loads (length loads) pace table → fault ≢ Memory
    → IsScheduleCause loads pace fault → ⊥
schedule_or_fault loads pace table Memory each at on_time other cause = other refl
schedule_or_fault loads pace table (CodedFull set size) each at on_time other cause =
    not_behind loads pace (CodedFull set size) (length loads) each other cause
    (record {
      table = table;
      count = length loads;
      more = omega arith;
      most = omega arith;
      schedule = at;
      on_time = on_time;
    }) cause.among
schedule_or_fault loads pace table (Late set done shown) each at on_time other cause =
    not_behind loads pace (Late set done shown) (length loads) each other cause
    (record {
      table = table;
      count = length loads;
      more = omega arith;
      most = omega arith;
      schedule = at;
      on_time = on_time;
    }) cause.among
schedule_or_fault loads pace table (SegmentFull set longest) each at on_time other cause =
    not_behind loads pace (SegmentFull set longest) (length loads) each other cause
    (record {
      table = table;
      count = length loads;
      more = omega arith;
      most = omega arith;
      schedule = at;
      on_time = on_time;
    }) cause.among

-- two schedules of the same sets have the same done ticks
same_done : (loads : List WriteLoad) (n : ℕ) (pace : Pace) (one other : Timetable) (i : ℕ) → All IsLoad loads
    → n ≤ length loads →
    IsSchedule loads n pace one → IsSchedule loads n pace other → i < n
    → slice_index one.dones i ≡ slice_index other.dones i
same_done loads n pace one other i each few at again among =
    omega (
      arith,
      earlier-done loads n n pace one other.slots other.dones i each (omega arith) few at
          (arrives loads n pace other again) among,
      earlier-done loads n n pace other one.slots one.dones i each (omega arith) few again (arrives loads n pace one at)
          among,
    )

-- two schedules of the same sets have the same slots
same_slot : (loads : List WriteLoad) (n : ℕ) (pace : Pace) (one other : Timetable) (p : ℕ) → All IsLoad loads
    → n ≤ length loads →
    IsSchedule loads n pace one → IsSchedule loads n pace other → p < first_packet loads n
    → slice_index one.slots p ≡ slice_index other.slots p
same_slot loads n pace one other p each few at again within =
    let before = earliest loads n pace one each at in
    let behind = earliest loads n pace other each again in
    omega (
      arith,
      before.slots n other.slots other.dones (omega arith) few (arrives loads n pace other again) p within,
      behind.slots n one.slots one.dones (omega arith) few (arrives loads n pace one at) p within,
    )

-- two schedules of the same sets are one
pub one_schedule : (loads : List WriteLoad) (n : ℕ) (pace : Pace) (one other : Timetable) → All IsLoad loads
    → n ≤ length loads →
    IsSchedule loads n pace one → IsSchedule loads n pace other → one ≡ other
one_schedule loads n pace one other each few at again =
    let slots =
    same_number_lists one.slots other.slots (omega (arith, at.packets, again.packets))
    (λ p within. same_slot loads n pace one other p each few at again (omega (arith, within, at.packets))) in
    let ends =
    same_number_lists one.ends other.ends (omega (arith, at.sets.0, again.sets.0))
    (λ i within. omega (
      arith,
      at.ends i (omega (arith, within, at.sets.0)),
      again.ends i (omega (arith, within, at.sets.0)),
    )) in
    let dones =
    same_number_lists one.dones other.dones (omega (arith, at.sets.1, again.sets.1))
    (λ i within. same_done loads n pace one other i each few at again (omega (arith, within, at.sets.1))) in
    λ i. record { slots = slots i; ends = ends i; dones = dones i }

late_once : (loads : List WriteLoad) (pace : Pace) (set other done again shown time : ℕ) → All IsLoad loads
    → set ≡ other →
    IsScheduleCause loads pace (Late set done shown) → IsScheduleCause loads pace (Late other again time)
    → (done ≡ again)
    × (shown ≡ time)
late_once loads pace set other done again shown time each same first second =
    let Schedules : ℕ → Type 0 = λ n. IsSchedule loads (n + 1) pace second.table in
    let ticks =
    same_done loads (set + 1) pace first.table second.table set each (omega (arith, first.among)) first.schedule
    (subst Schedules (sym same) second.schedule) (omega arith) in (
      omega (arith, ticks, first.is_done, second.is_done, ap (slice_index second.table.dones) same),
      omega (arith, first.is_shown, second.is_shown, ap (λ (i : ℕ). (load_of loads i).pts) same),
    )

-- of one set there is one fault
of_one_set : (loads : List WriteLoad) (pace : Pace) (told fault : ScheduleFault) → All IsLoad loads
    → told ≢ Memory → fault ≢ Memory →
    IsScheduleCause loads pace told → IsScheduleCause loads pace fault → set_of told ≡ set_of fault → told ≡ fault
of_one_set loads pace Memory fault each this that first second same = absurd (this refl)
of_one_set loads pace told Memory each this that first second same = absurd (that refl)
of_one_set loads pace (CodedFull a x) (CodedFull b y) each this that first second same =
    cc (same, first.is_size, second.is_size)
of_one_set loads pace (CodedFull a x) (Late b done shown) each this that first second same =
    absurd (omega (arith, first.full, first.is_size, second.fits, ap (size_of loads) same))
of_one_set loads pace (CodedFull a x) (SegmentFull b y) each this that first second same =
    absurd (omega (arith, first.full, first.is_size, second.fits, ap (size_of loads) same))
of_one_set loads pace (Late a done shown) (CodedFull b y) each this that first second same =
    absurd (omega (arith, second.full, second.is_size, first.fits, ap (size_of loads) same))
of_one_set loads pace (Late a done shown) (Late b again time) each this that first second same =
    let one = late_once loads pace a b done again shown time each same first second in
    cc (same, one.0, one.1)
of_one_set loads pace (Late a done shown) (SegmentFull b y) each this that first second same =
    absurd (omega (arith, second.long, second.is_longest, first.short, ap (longest_of loads) same))
of_one_set loads pace (SegmentFull a x) (CodedFull b y) each this that first second same =
    absurd (omega (arith, second.full, second.is_size, first.fits, ap (size_of loads) same))
of_one_set loads pace (SegmentFull a x) (Late b done shown) each this that first second same =
    absurd (omega (arith, first.long, first.is_longest, second.short, ap (longest_of loads) same))
of_one_set loads pace (SegmentFull a x) (SegmentFull b y) each this that first second same =
    cc (same, first.is_longest, second.is_longest)

apart_or_same : (a b : ℕ) → (a < b) ⊎ ((b < a) ⊎ (a ≡ b))
apart_or_same a b = grind arith

-- of all sets there is one fault
pub one_fault : (loads : List WriteLoad) (pace : Pace) (told fault : ScheduleFault) → All IsLoad loads
    → told ≢ Memory → fault ≢ Memory →
    IsScheduleCause loads pace told → IsScheduleCause loads pace fault → told ≡ fault
one_fault loads pace told fault each this that first second =
    elim (apart_or_same (set_of told) (set_of fault)) [
      | inl less ↦ absurd
          (not_behind loads pace told (set_of fault) each this first (reached loads pace fault that second) less)
      | inr (inl more) ↦ absurd
          (not_behind loads pace fault (set_of told) each that second (reached loads pace told this first) more)
      | inr (inr same) ↦ of_one_set loads pace told fault each this that first second same
    ]

-- What is answered of sets.

pub made_arrival : (loads : List WriteLoad) (pace : Pace) (result : Result Timetable ScheduleFault)
    → IfOk result (IsSchedule loads (length loads) pace) →
    IfOk result (λ table. IsArrival loads (length loads) pace table.slots table.dones)
made_arrival loads pace (Ok table) at = arrives loads (length loads) pace table at
made_arrival loads pace (Err fault) at = tt

pub made_earliest : (loads : List WriteLoad) (pace : Pace) (result : Result Timetable ScheduleFault)
    → All IsLoad loads →
    IfOk result (IsSchedule loads (length loads) pace) → IfOk result (IsEarliest loads (length loads) pace)
made_earliest loads pace (Ok table) each at = earliest loads (length loads) pace table each at
made_earliest loads pace (Err fault) each at = tt

pub no_hope : {T : Type 0} (loads : List WriteLoad) (pace : Pace) (result : Result T ScheduleFault)
    → All IsLoad loads → IfErr result (IsScheduleCause loads pace) →
    IfErr result (IsHopeless loads pace)
no_hope loads pace (Ok made) each cause = tt
no_hope loads pace (Err fault) each cause = hopeless loads pace fault each cause

pub every_schedule : (loads : List WriteLoad) (pace : Pace) (result : Result Timetable ScheduleFault)
    → All IsLoad loads → IfOk result (IsSchedule loads (length loads) pace) →
    IfErr result (IsScheduleCause loads pace) → (table : Timetable) → IsSchedule loads (length loads) pace table
    → IsOnTime loads (length loads) pace table →
    MatchResult result (λ made. made ≡ table) (λ fault. fault ≡ Memory)
every_schedule loads pace (Ok made) each found cause table at on_time =
    one_schedule loads (length loads) pace made table each (omega arith) found at
every_schedule loads pace (Err Memory) each found cause table at on_time = refl
every_schedule loads pace (Err (CodedFull set size)) each found cause table at on_time =
    absurd (schedule_or_fault loads pace table (CodedFull set size) each at on_time
    (λ e. let bad : CodedFull set size ≡ Memory = e in cc) cause)
every_schedule loads pace (Err (Late set done shown)) each found cause table at on_time =
    absurd (schedule_or_fault loads pace table (Late set done shown) each at on_time
    (λ e. let bad : Late set done shown ≡ Memory = e in cc) cause)
every_schedule loads pace (Err (SegmentFull set longest)) each found cause table at on_time =
    absurd (schedule_or_fault loads pace table (SegmentFull set longest) each at on_time
    (λ e. let bad : SegmentFull set longest ≡ Memory = e in cc) cause)

pub every_fault : (loads : List WriteLoad) (pace : Pace) (result : Result Timetable ScheduleFault)
    → All IsLoad loads →
    IfOk result (IsSchedule loads (length loads) pace) → IfOk result (IsOnTime loads (length loads) pace)
    → IfErr result (IsScheduleCause loads pace) →
    (fault : ScheduleFault) → IsScheduleCause loads pace fault → fault ≢ Memory → AnswersScheduleFault fault result
every_fault loads pace (Ok table) each at on_time cause fault is other =
    schedule_or_fault loads pace table fault each at on_time other is
every_fault loads pace (Err Memory) each at on_time cause fault is other = inl refl
every_fault loads pace (Err (CodedFull set size)) each at on_time cause fault is other =
    inr (one_fault loads pace (CodedFull set size) fault each (λ e. let bad : CodedFull set size ≡ Memory = e in cc)
    other cause is)
every_fault loads pace (Err (Late set done shown)) each at on_time cause fault is other =
    inr (one_fault loads pace (Late set done shown) fault each
    (λ e. let bad : Late set done shown ≡ Memory = e in cc) other cause is)
every_fault loads pace (Err (SegmentFull set longest)) each at on_time cause fault is other =
    inr (one_fault loads pace (SegmentFull set longest) fault each
    (λ e. let bad : SegmentFull set longest ≡ Memory = e in cc) other cause is)
