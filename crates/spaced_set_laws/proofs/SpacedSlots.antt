-- The slots of spaced sets: each set in a row, once the set before it is shown and its own window has begun.
use Rattle.std.proofs.Common.{◌≡◌, ◌∙◌, ℕ, zero, suc, max, ◌+◌, ◌-◌, ◌*◌, ◌<◌, ◌≤◌, inl, inr, List, [], length, ap, sym, arith, mul-le-mul_right}
use Rattle.std.specs.Prelude.{slice_index}
use Rattle.std.specs.Int.{div_ceil}
use Rattle.std.specs.List.Sorted.{IsStrictlyIncreasing}
use Rattle.std.proofs.lemmas.Bool.{cases_lt}
use Rattle.std.proofs.lemmas.Grind.{div_ceil_times}
use Rattle.std.proofs.Math.Nat.{add-mul, mul_comm}
use Rattle.sub_base.specs.Pace.{tick_of}
use Rattle.sub_base.specs.declared.load.WriteLoad.{WriteLoad}
use Rattle.sub_base.specs.declared.pace.Pace.{Pace}
use Rattle.schedule.specs.declared.limits.TheConstants.{SEND_WINDOW}
use Rattle.schedule.specs.Packets.{load_of, size_of, packets_of, first_packet}
use Rattle.schedule.specs.Slots.{shown_before, slot_of}
use Rattle.schedule.proofs.BufferLaws.{tick_of-rises, tick_of-before}
use Rattle.schedule.proofs.SumLaws.{sum_below-zero, sum_below-suc}
use Rattle.schedule.proofs.MakeLaws.{within_packets}
use Rattle.spaced_set_laws.specs.Spaced.{AreSpaced}
use Rattle.spaced_set_laws.proofs.Rows.{with_row, row_length, row_before, row_at, row_rises}

-- the first slot whose tick is not before that tick
abbrev pub first_slot : Pace → ℕ → ℕ
first_slot pace tick = div_ceil (tick - pace.origin) pace.step

-- its tick is not before that tick
pub slot_reaches : (pace : Pace) (tick : ℕ) → 1 ≤ pace.step → tick ≤ tick_of pace (first_slot pace tick)
slot_reaches pace tick step =
    let both = div_ceil_times (tick - pace.origin) pace.step step in omega (arith, both.0)

-- and less than a step after it or the origin
pub slot_near : (pace : Pace) (tick : ℕ) → 1 ≤ pace.step
    → tick_of pace (first_slot pace tick) < max tick pace.origin + pace.step
slot_near pace tick step =
    let both = div_ceil_times (tick - pace.origin) pace.step step in omega (arith, both.1)

-- from when on the packets of set i are sent: the set before is shown, and the window of its own has begun
abbrev pub sent_from : List WriteLoad → ℕ → ℕ
sent_from loads i = max (shown_before loads i) ((load_of loads i).pts - SEND_WINDOW)

-- the slot of the first packet of set i
abbrev pub row_start : List WriteLoad → Pace → ℕ → ℕ
row_start loads pace i = first_slot pace (sent_from loads i)

-- the slots of the packets of the first n sets
abbrev pub row_slots : List WriteLoad → Pace → ℕ → List ℕ
row_slots loads pace zero = []
row_slots loads pace (suc i) = with_row (row_slots loads pace i) (row_start loads pace i) (packets_of loads i)

-- a packet of a row comes when the set before is shown and the window has begun
pub row_from : (loads : List WriteLoad) (pace : Pace) (i k : ℕ) → 1 ≤ pace.step
    → sent_from loads i ≤ tick_of pace (row_start loads pace i + k)
row_from loads pace i k step =
    omega (
      arith,
      slot_reaches pace (sent_from loads i) step,
      tick_of-rises pace (row_start loads pace i) (row_start loads pace i + k) (omega arith),
    )

-- the ticks up to a packet of a row, with the step behind it, are at most those of all its packets
row_steps : (pace : Pace) (start packets k : ℕ) → k < packets
    → tick_of pace (start + k) + pace.step + pace.step ≤ tick_of pace start + pace.step * (packets + 1)
row_steps pace start packets k within =
    omega (
      arith,
      add-mul start k pace.step,
      mul-le-mul_right pace.step within,
      mul_comm pace.step (packets + 1),
      add-mul packets 1 pace.step,
    )

-- a packet of a row comes early enough for all bytes and the painting of its set
pub row_early : (loads : List WriteLoad) (pace : Pace) (i k : ℕ) → AreSpaced loads pace → i < length loads
    → k < packets_of loads i
    → tick_of pace (row_start loads pace i + k) + size_of loads i + (load_of loads i).painted < (load_of loads i).pts
row_early loads pace i k spaced below within =
    omega (
      arith,
      row_steps pace (row_start loads pace i) (packets_of loads i) k within,
      slot_near pace (sent_from loads i) spaced.step,
      spaced.near i below,
      spaced.gap i below,
      spaced.step,
    )

-- the sets before are shown when a set is, or earlier
pub shown_earlier : (loads : List WriteLoad) (pace : Pace) (i j : ℕ) → AreSpaced loads pace → i ≤ length loads
    → j < i
    → (load_of loads j).pts ≤ shown_before loads i
shown_earlier loads pace zero j spaced within less = absurd (omega arith)
shown_earlier loads pace (suc i) j spaced within less =
    elim (cases_lt j i) [
      | inl before ↦ omega
          (arith, shown_earlier loads pace i j spaced (omega arith) before, spaced.gap i (omega arith))
      | inr same ↦ let e : j ≡ i = omega arith in omega (arith, ap (λ (set : ℕ). (load_of loads set).pts) e)
    ]

-- the slots of the first n sets: they rise, their ticks are before the last of these sets is shown, and each set is
-- in a row
pub record AreRows (loads : List WriteLoad) (pace : Pace) (n : ℕ) (slots : List ℕ) : Type 0 where
  pub packets : length slots ≡ first_packet loads n
  pub rise : IsStrictlyIncreasing slots
  pub before : (m : ℕ) → m < length slots → tick_of pace (slice_index slots m) < shown_before loads n
  pub each : (i k : ℕ) → i < n → k < packets_of loads i → slot_of loads slots i k ≡ row_start loads pace i + k

-- one set more in a row
rows_more : (loads : List WriteLoad) (pace : Pace) (n : ℕ) (slots : List ℕ) → AreSpaced loads pace
    → n < length loads
    → AreRows loads pace n slots
    → AreRows loads pace (suc n) (with_row slots (row_start loads pace n) (packets_of loads n))
rows_more loads pace n slots spaced below rows =
    record {
      packets = omega (arith, row_length slots start count, rows.packets, sum_below-suc (packets_of loads) n);
      rise = row_rises slots start count rows.rise above;
      before = λ m within. elim (cases_lt m (length slots)) [
        | inl less ↦ omega (
          arith,
          ap (tick_of pace) (row_before slots start count m less),
          rows.before m less,
          spaced.gap n below,
        )
        | inr more ↦
            let k : ℕ = m - length slots in
            let e : length slots + k ≡ m = omega arith in
            let among : k < count = omega (arith, row_length slots start count) in
            let is : slice_index grown m ≡ start + k =
            ap (λ (p : ℕ). slice_index grown p) (sym e) ∙ row_at slots start count k among in
            omega (arith, ap (tick_of pace) is, row_early loads pace n k spaced below among)
      ];
      each = λ i k within among. elim (cases_lt i n) [
        | inl less ↦
            let inside = within_packets loads i k n less among in
            row_before slots start count (first_packet loads i + k) (omega (arith, rows.packets, inside))
            ∙ rows.each i k less among
        | inr more ↦
            let e : i ≡ n = omega arith in
            let here : k < count = omega (arith, ap (packets_of loads) e, among) in
            let place : first_packet loads i + k ≡ length slots + k = omega (
              arith,
              ap (first_packet loads) e,
              rows.packets,
            ) in
            ap (λ (p : ℕ). slice_index grown p) place ∙ row_at slots start count k here
            ∙ ap (λ (set : ℕ). row_start loads pace set + k) (sym e)
      ];
    }
  where
    start : ℕ
    start = row_start loads pace n

    count : ℕ
    count = packets_of loads n

    grown : List ℕ
    grown = with_row slots start count

    above : (m : ℕ) → m < length slots → slice_index slots m < start
    above m within =
        let reached = slot_reaches pace (sent_from loads n) spaced.step in
        tick_of-before pace (slice_index slots m) start (omega (arith, rows.before m within, reached))

-- the sets are in rows
pub rows : (loads : List WriteLoad) (pace : Pace) (n : ℕ) → AreSpaced loads pace → n ≤ length loads
    → AreRows loads pace n (row_slots loads pace n)
rows loads pace zero spaced within =
    record {
      packets = sym (sum_below-zero (packets_of loads));
      rise = λ k none. absurd (omega (arith, none));
      before = λ m none. absurd (omega (arith, none));
      each = λ i k none. absurd (omega (arith, none));
    }
rows loads pace (suc n) spaced within =
    rows_more loads pace n (row_slots loads pace n) spaced (omega arith) (rows loads pace n spaced (omega arith))
