-- Spaced sets arrive in time, so that no schedule of them is refused.
use Rattle.std.proofs.Common.{◌≡◌, ℕ, ◌+◌, ◌-◌, ◌<◌, ◌≤◌, List, length, map, refl, ap, arith}
use Rattle.std.specs.Prelude.{slice_index, All}
use Rattle.std.specs.List.{range_with_len}
use Rattle.std.proofs.lemmas.List.FromFn.{length-map-range_with_len, get_or-map-range_with_len}
use Rattle.sub_base.specs.Pace.{tick_of}
use Rattle.sub_base.specs.declared.load.WriteLoad.{WriteLoad}
use Rattle.sub_base.specs.declared.pace.Pace.{Pace}
use Rattle.schedule.specs.declared.fault.ScheduleFault.{ScheduleFault}
use Rattle.schedule.specs.declared.fault.ScheduleFault.TheVariants.{Memory, CodedFull, Late, SegmentFull}
use Rattle.schedule.specs.Arrivals.{coded_level_at}
use Rattle.schedule.specs.Packets.{load_of, packets_of}
use Rattle.schedule.specs.Refusals.{IsScheduleCause}
use Rattle.schedule.specs.Slots.{slot_of, set_done_at, shown_before, IsLoad}
use Rattle.schedule.proofs.BufferLaws.{left-least}
use Rattle.schedule.proofs.EarliestLaws.{arrived-most, hopeless}
use Rattle.schedule.proofs.PacketLaws.{load_at, payloads-most, some_bytes, some_packets}
use Rattle.spaced_set_laws.specs.Spaced.{AreSpaced, ArriveInTime}
use Rattle.spaced_set_laws.proofs.SpacedSlots.{row_slots, row_from, row_early, shown_earlier, rows}

-- the slots of all packets where sets are sent in rows, and the ticks at which the sets are then done
abbrev all_slots : List WriteLoad → Pace → List ℕ
all_slots loads pace = row_slots loads pace (length loads)

abbrev row_dones : List WriteLoad → Pace → List ℕ
row_dones loads pace = map (set_done_at loads pace (all_slots loads pace)) (range_with_len 0 (length loads))

-- such a tick
done_at : (loads : List WriteLoad) (pace : Pace) (i : ℕ) → i < length loads
    → slice_index (row_dones loads pace) i ≡ set_done_at loads pace (all_slots loads pace) i
done_at loads pace i below =
    get_or-map-range_with_len (set_done_at loads pace (all_slots loads pace)) 0 (length loads) i i 0 below (omega arith)

-- each set is done by its time
done_early : (loads : List WriteLoad) (pace : Pace) (i : ℕ) → All IsLoad loads → AreSpaced loads pace
    → i < length loads
    → slice_index (row_dones loads pace) i ≤ (load_of loads i).pts
done_early loads pace i each spaced below =
    let last : ℕ = packets_of loads i - 1 in
    let some = some_packets loads i (some_bytes loads i each below) in
    let within : last < packets_of loads i = omega (arith, some) in
    let is = (rows loads pace (length loads) spaced (omega arith)).each i last below within in
    omega (
      arith,
      done_at loads pace i below,
      ap (tick_of pace) is,
      row_from loads pace i last spaced.step,
      row_early loads pace i last spaced below within,
      (load_at loads i each below).size,
    )

-- the buffer holds no more than the bytes of one set
level_low : (loads : List WriteLoad) (pace : Pace) (i k : ℕ) → All IsLoad loads → AreSpaced loads pace
    → i < length loads → k < packets_of loads i
    → coded_level_at loads (length loads) pace (all_slots loads pace) (row_dones loads pace)
    (slot_of loads (all_slots loads pace) i k) ≤ pace.coded
level_low loads pace i k each spaced below within =
    let slots : List ℕ = all_slots loads pace in
    let dones : List ℕ = row_dones loads pace in
    let all = rows loads pace (length loads) spaced (omega arith) in
    let tick : ℕ = tick_of pace (slot_of loads slots i k) in
    let from : shown_before loads i ≤ tick = omega (
      arith,
      ap (tick_of pace) (all.each i k below within),
      row_from loads pace i k spaced.step,
    ) in
    let gone : (j : ℕ) → j < i → slice_index dones j ≤ tick =
    λ j less. omega (
      arith,
      done_early loads pace j each spaced (omega arith),
      shown_earlier loads pace i j spaced (omega arith) less,
      from,
    ) in
    omega (
      arith,
      arrived-most loads (length loads) slots i k all.packets all.rise below within,
      payloads-most loads i (k + 1) (omega arith),
      left-least loads dones tick i (length loads) (omega arith) gone,
      spaced.fits i below,
    )

-- spaced sets arrive in time
pub arrive_in_time : (loads : List WriteLoad) (pace : Pace) → All IsLoad loads → AreSpaced loads pace
    → ArriveInTime loads pace
arrive_in_time loads pace each spaced =
    let all = rows loads pace (length loads) spaced (omega arith) in
    record {
      slots = all_slots loads pace;
      dones = row_dones loads pace;
      arrival = record {
        packets = all.packets;
        rise = all.rise;
        window = λ i k below within. omega (
          arith,
          ap (tick_of pace) (all.each i k below within),
          row_from loads pace i k spaced.step,
        );
        sets = length-map-range_with_len (set_done_at loads pace (all_slots loads pace)) 0 (length loads);
        done = done_at loads pace;
        level = λ i k. level_low loads pace i k each spaced;
      };
      ready = λ i. done_early loads pace i each spaced;
    }

-- a fault of theirs is want of memory
pub not_refused : (loads : List WriteLoad) (pace : Pace) (fault : ScheduleFault) → All IsLoad loads
    → AreSpaced loads pace → IsScheduleCause loads pace fault → fault ≡ Memory
not_refused loads pace Memory each spaced cause = refl
not_refused loads pace (CodedFull set size) each spaced cause =
    absurd (omega (arith, cause.is_size, cause.full, spaced.fits set cause.among))
not_refused loads pace (SegmentFull set longest) each spaced cause =
    absurd (omega (arith, cause.is_longest, cause.long, spaced.short set cause.among))
not_refused loads pace (Late set done shown) each spaced cause =
    let in_time = arrive_in_time loads pace each spaced in
    let none_early = (hopeless loads pace (Late set done shown) each cause).late in
    let late = none_early (length loads) in_time.slots in_time.dones cause.among (omega arith) in_time.arrival in
    absurd (omega (arith, late.1, in_time.ready set cause.among))
