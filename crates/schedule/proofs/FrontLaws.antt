-- A schedule of some sets and of more behind them: the first sets stand in it as they do alone.
use Rattle.std.proofs.Common.{◌≡◌, ◌∙◌, sym, ap, subst, ℕ, zero, suc, ◌+◌, ◌-◌, ◌<◌, ◌≤◌, List, ◌++◌, length, take, arith, length-append}
use Rattle.std.specs.Prelude.{slice_index, slice_index_or, sum, All}
use Rattle.std.proofs.lemmas.List.{get_or-take, get_or_append_left, length-take-le}
use Rattle.sub_base.specs.declared.load.WriteLoad.{WriteLoad}
use Rattle.sub_base.specs.declared.pace.Pace.{Pace}
use Rattle.sub_base.specs.Pace.{tick_of, left_by, done_tick}
use Rattle.schedule.specs.declared.limits.TheConstants.{SEND_WINDOW}
use Rattle.schedule.specs.Fronts.{front_of}
use Rattle.schedule.specs.Packets.{sum_below, no_load, load_of, size_of, payloads_of, payload_of, packets_of, first_packet, bytes_with}
use Rattle.schedule.specs.Slots.{Timetable, CanStand, IsSchedule, IsLoad, slot_of, left_of, set_done_at, shown_before}
use Rattle.schedule.proofs.AnswerLaws.{one_schedule}
use Rattle.schedule.proofs.PacketLaws.{some_bytes, some_packets}
use Rattle.schedule.proofs.SlotLaws.{CanStand-along}
use Rattle.schedule.proofs.SumLaws.{sum_below-more, sum_below-rises, sum_below-same}

-- ---- loads whose first n are the same

abbrev AreSame : List WriteLoad → List WriteLoad → ℕ → Type 0
AreSame loads others n = (j : ℕ) → j < n → slice_index_or others j no_load ≡ slice_index_or loads j no_load

same_first : (loads others : List WriteLoad) (n i : ℕ) → AreSame loads others n → i ≤ n
    → first_packet others i ≡ first_packet loads i
same_first loads others n i same most =
    sum_below-same (packets_of others) (packets_of loads) i
    (λ j below. ap (λ (load : WriteLoad). length (payloads_of load.units)) (same j (omega arith)))

same_sizes : (loads others : List WriteLoad) (n i : ℕ) → AreSame loads others n → i ≤ n
    → sum_below (size_of others) i ≡ sum_below (size_of loads) i
same_sizes loads others n i same most =
    sum_below-same (size_of others) (size_of loads) i
    (λ j below. ap (λ (load : WriteLoad). sum load.units) (same j (omega arith)))

same_left : (loads others : List WriteLoad) (dones : List ℕ) (tick n i : ℕ) → AreSame loads others n → i ≤ n
    → sum_below (left_of others dones tick) i ≡ sum_below (left_of loads dones tick) i
same_left loads others dones tick n i same most =
    sum_below-same (left_of others dones tick) (left_of loads dones tick) i
    (λ j below. ap (λ (load : WriteLoad). left_by tick (slice_index dones j) (sum load.units))
    (same j (omega arith)))

same_bytes : (loads others : List WriteLoad) (n i k : ℕ) → AreSame loads others n → i < n
    → bytes_with others i k ≡ bytes_with loads i k
same_bytes loads others n i k same below =
    let front = same_sizes loads others n i same (omega arith) in
    let own : sum_below (payload_of others i) (k + 1) ≡ sum_below (payload_of loads i) (k + 1) =
    ap (λ (load : WriteLoad). sum_below (slice_index (payloads_of load.units)) (k + 1)) (same i below) in
    omega (arith, front, own)

same_stands : (loads others : List WriteLoad) (n : ℕ) (pace : Pace) (slots dones : List ℕ) (i k slot : ℕ)
    → AreSame loads others n → i < n
    → CanStand loads pace slots dones i k slot → CanStand others pace slots dones i k slot
same_stands loads others n pace slots dones i k slot same below stands =
    let first = same_first loads others n i same (omega arith) in
    record {
      after = λ m before. stands.after m (omega (arith, before, first));
      window = omega (arith, stands.window, ap (λ (load : WriteLoad). load.load.pts) (same i below));
      room = omega (
        arith,
        stands.room,
        same_bytes loads others n i k same below,
        same_left loads others dones (tick_of pace slot) n i same (omega arith),
      );
    }

same_shown : (loads others : List WriteLoad) (n i : ℕ) → AreSame loads others n → i < n
    → shown_before others i ≡ shown_before loads i
same_shown loads others n zero same below = omega arith
same_shown loads others n (suc i) same below =
    ap (λ (load : WriteLoad). load.load.pts) (same i (omega arith))

same_slot_of : (loads others : List WriteLoad) (slots : List ℕ) (n i k : ℕ) → AreSame loads others n → i < n
    → slot_of others slots i k ≡ slot_of loads slots i k
same_slot_of loads others slots n i k same below =
    ap (λ first. slice_index slots (first + k)) (same_first loads others n i same (omega arith))

same_count : (loads others : List WriteLoad) (n i : ℕ) → AreSame loads others n → i < n
    → packets_of others i ≡ packets_of loads i
same_count loads others n i same below =
    ap (λ (load : WriteLoad). length (payloads_of load.units)) (same i below)

same_last : (loads others : List WriteLoad) (slots : List ℕ) (n i : ℕ) → AreSame loads others n → i < n
    → slot_of others slots i (packets_of others i - 1) ≡ slot_of loads slots i (packets_of loads i - 1)
same_last loads others slots n i same below =
    same_slot_of loads others slots n i (packets_of others i - 1) same below
    ∙ ap (λ count. slot_of loads slots i (count - 1)) (same_count loads others n i same below)

same_done_of : (loads others : List WriteLoad) (n : ℕ) (pace : Pace) (slots : List ℕ) (i : ℕ)
    → AreSame loads others n → i < n → set_done_at others pace slots i ≡ set_done_at loads pace slots i
same_done_of loads others n pace slots i same below =
    let last = same_last loads others slots n i same below in
    let shown = same_shown loads others n i same below in
    let load : load_of others i ≡ load_of loads i = ap (λ (load : WriteLoad). load.load) (same i below) in
    λ j. done_tick (tick_of pace (last j)) (shown j) (load j)

-- a schedule of sets is one of others that begin alike
schedule_same : (loads others : List WriteLoad) (n : ℕ) (pace : Pace) (table : Timetable) → AreSame loads others n
    → IsSchedule loads n pace table → IsSchedule others n pace table
schedule_same loads others n pace table same at =
    let back : AreSame others loads n = λ j below. sym (same j below) in
    record {
      packets = at.packets ∙ sym (same_first loads others n n same (omega arith));
      sets = at.sets;
      ends = λ i below. at.ends i below ∙ sym (same_first loads others n (i + 1) same (omega arith));
      dones = λ i below. at.dones i below ∙ sym (same_done_of loads others n pace table.slots i same below);
      stands = λ i k below within.
          let its : k < packets_of loads i = omega (arith, within, same_count loads others n i same below) in
          subst (CanStand others pace table.slots table.dones i k)
          (sym (same_slot_of loads others table.slots n i k same below))
          (same_stands loads others n pace table.slots table.dones i k (slot_of loads table.slots i k) same below
          (at.stands i k below its));
      least = λ i k slot below within stands.
          let its : k < packets_of loads i = omega (arith, within, same_count loads others n i same below) in
          let least =
          at.least i k slot below its
          (same_stands others loads n pace table.slots table.dones i k slot back below stands) in
          omega (arith, least, same_slot_of loads others table.slots n i k same below);
    }

-- ---- the first n sets of a schedule

-- the packets of a set stand before those of the sets behind it
within_first : (loads : List WriteLoad) (n i k : ℕ) → i < n → k < packets_of loads i
    → first_packet loads i + k < first_packet loads n
within_first loads n i k below within =
    omega (
      arith,
      within,
      sum_below-more (packets_of loads) i,
      sum_below-rises (packets_of loads) (i + 1) n (omega arith),
    )

abbrev cut_at : List WriteLoad → ℕ → Timetable → Timetable
cut_at loads n table = record {
  slots = take (first_packet loads n) table.slots;
  ends = take n table.ends;
  dones = take n table.dones;
}

cut_slot : (loads : List WriteLoad) (slots : List ℕ) (n i k : ℕ) → i < n → k < packets_of loads i
    → slot_of loads (take (first_packet loads n) slots) i k ≡ slot_of loads slots i k
cut_slot loads slots n i k below within =
    get_or-take (first_packet loads n) slots (first_packet loads i + k) 0 (within_first loads n i k below within)

-- a packet can stand where it can in the whole, and the other way round
cut_stands : (loads : List WriteLoad) (pace : Pace) (slots dones : List ℕ) (n i k slot : ℕ) → i < n
    → k < packets_of loads i → CanStand loads pace slots dones i k slot
    → CanStand loads pace (take (first_packet loads n) slots) (take n dones) i k slot
cut_stands loads pace slots dones n i k slot below within stands =
    let all = within_first loads n i k below within in
    CanStand-along loads pace slots dones (take (first_packet loads n) slots) (take n dones) i k slot
    (λ p early. get_or-take (first_packet loads n) slots p 0 (omega arith))
    (λ j early. get_or-take n dones j 0 (omega arith)) stands

whole_stands : (loads : List WriteLoad) (pace : Pace) (slots dones : List ℕ) (n i k slot : ℕ) → i < n
    → k < packets_of loads i → CanStand loads pace (take (first_packet loads n) slots) (take n dones) i k slot
    → CanStand loads pace slots dones i k slot
whole_stands loads pace slots dones n i k slot below within stands =
    let all = within_first loads n i k below within in
    CanStand-along loads pace (take (first_packet loads n) slots) (take n dones) slots dones i k slot
    (λ p early. sym (get_or-take (first_packet loads n) slots p 0 (omega arith)))
    (λ j early. sym (get_or-take n dones j 0 (omega arith))) stands

-- each set has a packet
abbrev HaveSome : List WriteLoad → ℕ → Type 0
HaveSome loads n = (i : ℕ) → i < n → 1 ≤ packets_of loads i

cut_done : (loads : List WriteLoad) (pace : Pace) (slots : List ℕ) (n i : ℕ) → i < n → 1 ≤ packets_of loads i
    → set_done_at loads pace (take (first_packet loads n) slots) i ≡ set_done_at loads pace slots i
cut_done loads pace slots n i below some =
    let last : slot_of loads (take (first_packet loads n) slots) i (packets_of loads i - 1)
    ≡ slot_of loads slots i (packets_of loads i - 1) =
    cut_slot loads slots n i (packets_of loads i - 1) below (omega arith) in
    λ j. done_tick (tick_of pace (last j)) (shown_before loads i) (load_of loads i)

schedule_cut : (loads : List WriteLoad) (n m : ℕ) (pace : Pace) (table : Timetable) → n ≤ m → HaveSome loads n
    → IsSchedule loads m pace table → IsSchedule loads n pace (cut_at loads n table)
schedule_cut loads n m pace table most some at =
    let fewer = sum_below-rises (packets_of loads) n m most in
    record {
      packets = length-take-le (first_packet loads n) table.slots (omega (arith, at.packets, fewer));
      sets = (
        length-take-le n table.ends (omega (arith, at.sets.0)),
        length-take-le n table.dones (omega (arith, at.sets.1)),
      );
      ends = λ i below. get_or-take n table.ends i 0 below ∙ at.ends i (omega arith);
      dones = λ i below.
          get_or-take n table.dones i 0 below ∙ at.dones i (omega arith)
          ∙ sym (cut_done loads pace table.slots n i below (some i below));
      stands = λ i k below within.
          subst (CanStand loads pace (take (first_packet loads n) table.slots) (take n table.dones) i k)
          (sym (cut_slot loads table.slots n i k below within))
          (cut_stands loads pace table.slots table.dones n i k (slot_of loads table.slots i k) below within
          (at.stands i k (omega arith) within));
      least = λ i k slot below within stands.
          let least =
          at.least i k slot (omega arith) within
          (whole_stands loads pace table.slots table.dones n i k slot below within stands) in
          omega (arith, least, cut_slot loads table.slots n i k below within);
    }

-- ---- the laws

behind_same : (front rest : List WriteLoad) → AreSame (front ++ rest) front (length front)
behind_same front rest j below = sym (get_or_append_left front rest no_load j below)

-- in a schedule the first sets stand as if there were no others
pub front_is_schedule : (pace : Pace) (front rest : List WriteLoad) (table : Timetable) → All IsLoad front
    → IsSchedule (front ++ rest) (length (front ++ rest)) pace table
    → IsSchedule front (length front) pace (front_of front table)
front_is_schedule pace front rest table each at =
    let n = length front in
    let loads = front ++ rest in
    let same = behind_same front rest in
    let back : AreSame front loads n = λ j below. sym (same j below) in
    let some : HaveSome loads n = λ i below. omega (
      arith,
      some_packets front i (some_bytes front i each below),
      same_count front loads n i back below,
    ) in
    let cut = schedule_cut loads n (length loads) pace table (omega (arith, length-append front rest)) some at in
    let Cut : ℕ → Type 0 = λ count. IsSchedule front n pace
    (record { slots = take count table.slots; ends = take n table.ends; dones = take n table.dones }) in
    subst Cut (same_first front loads n n back (omega arith))
    (schedule_same loads front n pace (cut_at loads n table) same cut)

-- schedules of sets that begin alike begin alike
pub slots_stay : (pace : Pace) (front rest others : List WriteLoad) (before now : Timetable) → All IsLoad front
    → IsSchedule (front ++ rest) (length (front ++ rest)) pace before
    → IsSchedule (front ++ others) (length (front ++ others)) pace now
    → front_of front before ≡ front_of front now
slots_stay pace front rest others before now each first second =
    one_schedule front (length front) pace (front_of front before) (front_of front now) each (omega arith)
    (front_is_schedule pace front rest before each first) (front_is_schedule pace front others now each second)

-- a packet that is sent by a tick is of a set that is shown at most a window later
pub packets_are_of_near_sets : (loads : List WriteLoad) (n : ℕ) (pace : Pace) (table : Timetable)
    (set packet tick : ℕ) → IsSchedule loads n pace table → set < n → packet < packets_of loads set
    → tick_of pace (slot_of loads table.slots set packet) ≤ tick
    → (load_of loads set).pts ≤ tick + SEND_WINDOW
packets_are_of_near_sets loads n pace table set packet tick at among within sent =
    omega (arith, (at.stands set packet among within).window, sent)
