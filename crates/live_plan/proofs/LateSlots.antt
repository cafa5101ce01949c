-- The slots of sets that are shown later than a tick and the window of sending lie behind the slots of that tick.
use Rattle.std.proofs.Common.{◌≡◌, ◌∙◌, refl, sym, ap, ℕ, ◌+◌, ◌-◌, ◌*◌, ◌/◌, ◌<◌, ◌≤◌, nat_lt, Bool, true, false, cond, List, ◌++◌, length, drop, get_or, All, inl, inr, arith, length-append, length-drop}
use Rattle.std.specs.Prelude.{slice_index_or}
use Rattle.std.proofs.Math.Nat.{div-mul-le_self, mul-le-mul_right}
use Rattle.std.proofs.lemmas.Bool.{cases_lt}
use Rattle.std.proofs.lemmas.Bool.Decides.{nat_tests}
use Rattle.std.proofs.lemmas.List.{get_or-append_right, get_or-drop, get_or_append_left, get_or_default}
use Rattle.sub_base.specs.declared.load.WriteLoad.{WriteLoad}
use Rattle.sub_base.specs.declared.pace.Pace.{Pace}
use Rattle.schedule.specs.Packets.{first_packet, no_load, packets_of, payloads_of}
use Rattle.schedule.specs.Slots.{IsLoad, IsSchedule, Timetable, slot_of}
use Rattle.schedule.specs.declared.limits.TheConstants.{SEND_WINDOW}
use Rattle.schedule.proofs.FrontLaws.{packets_are_of_near_sets}
use Rattle.schedule.proofs.PacketLaws.{some_bytes, some_packets}
use Rattle.schedule.proofs.SumLaws.{sum_below-more, sum_below-rises, sum_below-same}
use Rattle.sent_sets.proofs.RisingSlots.{place_of}
use Rattle.live_plan.specs.LiveRows.{slots_by}

fewer : (slot count : ℕ) → slot < count + 1 → slot ≤ count
fewer slot count low = omega (arith, low)

-- a slot below the count of those by a tick has a tick by then
by_then : (origin step time slot : ℕ) → slot < slots_by origin step time → origin + slot * step ≤ time
by_then origin step time slot below = either (nat_lt time origin) refl below
  where
    either : (b : Bool) → nat_lt time origin ≡ b → slot < cond b 0 ((time - origin) / step + 1)
        → origin + slot * step ≤ time
    either true test low = absurd (omega (arith, low))
    either false test low =
        let after : origin ≤ time = grind (arith, nat_tests) in
        let times : slot * step ≤ (time - origin) / step * step =
        mul-le-mul_right step (fewer slot ((time - origin) / step) low) in
        omega (arith, after, times, div-mul-le_self (time - origin) step)

-- the first sets have as many packets with others behind them
pub first_same : (front rest : List WriteLoad)
    → first_packet (front ++ rest) (length front) ≡ first_packet front (length front)
first_same front rest =
    sum_below-same (packets_of (front ++ rest)) (packets_of front) (length front)
    (λ j below. ap (λ (load : WriteLoad). length (payloads_of load.units))
    (get_or_append_left front rest no_load j below))

-- a packet behind those of the first sets is of a later one
later_set : (loads : List WriteLoad) (n set place : ℕ) → place < packets_of loads set
    → first_packet loads n ≤ first_packet loads set + place → n ≤ set
later_set loads n set place within behind =
    elim (cases_lt set n) [
      | inl before ↦ absurd (omega (
        arith,
        within,
        behind,
        sum_below-more (packets_of loads) set,
        sum_below-rises (packets_of loads) (set + 1) n (omega (arith, before)),
      ))
      | inr after ↦ after
    ]

-- the slots of packets behind those of the first sets
pub late_slots : (front rest : List WriteLoad) (pace : Pace) (table : Timetable) (tick : ℕ)
    → IsSchedule (front ++ rest) (length (front ++ rest)) pace table
    → All (λ (load : WriteLoad). tick + SEND_WINDOW < load.load.pts) rest
    → All (λ slot. slots_by pace.origin pace.step tick ≤ slot) (drop (first_packet front (length front)) table.slots)
late_slots front rest pace table tick schedule late k d within =
    let loads = front ++ rest in
    let n = length loads in
    let q = first_packet front (length front) in
    let behind = drop q table.slots in
    let short : q + k < length table.slots = omega (arith, within, length-drop q table.slots) in
    let at = place_of loads n (q + k) (omega (arith, short, schedule.packets)) in
    let slot : get_or behind k d ≡ slot_of loads table.slots at.set at.place =
    get_or-drop q table.slots k d ∙ get_or_default table.slots (q + k) d 0 short
    ∙ ap (λ (place : ℕ). get_or table.slots place 0) (sym at.there) in
    let after : length front ≤ at.set =
    later_set loads (length front) at.set at.place at.within (omega (arith, at.there, first_same front rest)) in
    let among : at.set - length front < length rest =
    omega (arith, at.among, after, length-append front rest) in
    let shown = late (at.set - length front) no_load among in
    let load : slice_index_or loads at.set no_load ≡ get_or rest (at.set - length front) no_load =
    get_or-append_right front rest (length front) at.set no_load refl after in
    let pts = ap (λ (one : WriteLoad). one.load.pts) load in
    elim (cases_lt (get_or behind k d) (slots_by pace.origin pace.step tick)) [
      | inl soon ↦ absurd (omega (
        arith,
        packets_are_of_near_sets loads n pace table at.set at.place tick schedule at.among at.within
            (by_then pace.origin pace.step tick (slot_of loads table.slots at.set at.place)
            (omega (arith, soon, slot))),
        shown,
        pts,
      ))
      | inr late ↦ late
    ]

-- more sets have more slots
pub more_slots : (front others : List WriteLoad) (pace : Pace) (table : Timetable) → All IsLoad (front ++ others)
    → IsSchedule (front ++ others) (length (front ++ others)) pace table → 1 ≤ length others
    → 1 ≤ length (drop (first_packet front (length front)) table.slots)
more_slots front others pace table each schedule some =
    let loads = front ++ others in
    let n = length loads in
    let m = length front in
    let long = length-append front others in
    let own = some_packets loads m (some_bytes loads m each (omega (arith, some, long))) in
    omega (
      arith,
      own,
      schedule.packets,
      first_same front others,
      length-drop (first_packet front m) table.slots,
      sum_below-more (packets_of loads) m,
      sum_below-rises (packets_of loads) (m + 1) n (omega (arith, some, long)),
    )

-- no more sets have no more slots
pub some_more : (front rest : List WriteLoad) (pace : Pace) (table : Timetable)
    → IsSchedule (front ++ rest) (length (front ++ rest)) pace table
    → 1 ≤ length (drop (first_packet front (length front)) table.slots) → 1 ≤ length rest
some_more front rest pace table schedule some =
    elim (cases_lt 0 (length rest)) [
      | inl any ↦ any
      | inr none ↦
          let same : length (front ++ rest) ≡ length front = omega (arith, none, length-append front rest) in
          absurd (omega (
            arith,
            some,
            schedule.packets,
            ap (first_packet (front ++ rest)) same,
            first_same front rest,
            length-drop (first_packet front (length front)) table.slots,
          ))
    ]

-- the slots of the first sets are those of their packets
pub first_slots : (front rest : List WriteLoad) (pace : Pace) (table : Timetable)
    → IsSchedule (front ++ rest) (length (front ++ rest)) pace table
    → first_packet front (length front) ≤ length table.slots
first_slots front rest pace table schedule =
    let loads = front ++ rest in
    omega (
      arith,
      schedule.packets,
      first_same front rest,
      sum_below-rises (packets_of loads) (length front) (length loads) (omega (arith, length-append front rest)),
    )
