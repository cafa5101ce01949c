-- One set more is scheduled.
use Rattle.std.proofs.Common.{◌≡◌, ℕ, ◌+◌, ◌-◌, ◌^◌, ◌<◌, ◌≤◌, inl, inr, List, [], ◌∷◌, ◌++◌, length, refl, ap, sym, ◌∙◌, subst, arith, below_more, length-append, add-one, mul-le-mul_left}
use Rattle.std.specs.Prelude.{slice_index, All}
use Rattle.std.specs.List.Sorted.{IsStrictlyIncreasing}
use Rattle.std.proofs.Math.ListN.{get_or-append}
use Rattle.std.proofs.Math.Seq.{get_or-append_seam}
use Rattle.std.proofs.lemmas.Bool.{cases_lt}
use Rattle.std.proofs.lemmas.List.Elements.{All-from_get_or}
use Rattle.sub_base.specs.declared.load.WriteLoad.{WriteLoad}
use Rattle.sub_base.specs.declared.pace.Pace.{Pace}
use Rattle.sub_base.specs.declared.profile.TheConstants.{LONGEST_STEP}
use Rattle.schedule.specs.declared.place.Search.{Search}
use Rattle.sub_base.specs.declared.load.TheConstants.{UNIT_ROOM}
use Rattle.schedule.specs.Packets.{sum_below, size_of, load_of, longest_of, first_packet, packets_of}
use Rattle.sub_base.specs.Pace.{tick_of, done_tick, IsSound}
use Rattle.schedule.specs.Slots.{CanStand, slot_of, set_done_at, shown_before, Timetable, IsSchedule, IsOnTime, IsLoad, IsTable}
use Rattle.schedule.specs.Refusals.{IsFirstFull, IsFirstLate, IsFirstLong}
use Rattle.schedule.specs.Private.Safe.{AreOrdered}
use Rattle.schedule.specs.Private.Search.{HaveStood, Follows, IsBetween}
use Rattle.schedule.proofs.SumLaws.{sum_below-more, sum_below-rises, sum_below-zero}
use Rattle.schedule.proofs.BufferLaws.{tick_of-rises}
use Rattle.schedule.proofs.PacketLaws.{load_at, some_bytes, some_packets}
use Rattle.schedule.proofs.SendLaws.{tick_of-next}
use Rattle.schedule.proofs.SlotLaws.{CanStand-along}

-- a table of its three lists
abbrev pub table_of : List ℕ → List ℕ → List ℕ → Timetable
table_of slots ends dones = record { slots = slots; ends = ends; dones = dones }

-- what holds once the first n sets are scheduled
pub record IsScheduled (loads : List WriteLoad) (pace : Pace) (n : ℕ) (slots ends dones : List ℕ) (shown : ℕ)
    (search : Search) : Type 0 where
  pub schedule : IsSchedule loads n pace (table_of slots ends dones)
  pub on_time : IsOnTime loads n pace (table_of slots ends dones)
  pub between : IsBetween loads pace slots dones (length dones) search
  pub rise : IsStrictlyIncreasing slots
  pub ordered : AreOrdered dones
  pub near : tick_of pace search.slot ≤ 2 ^ 62 + LONGEST_STEP
  pub shown_before : (shown ≡ shown_before loads n) × (shown < 2 ^ 62)
  pub done_before : (j : ℕ) → j < length dones → slice_index dones j ≤ shown
  pub small : (m : ℕ) → m < length slots → tick_of pace (slice_index slots m) < 2 ^ 62

-- a packet of one of the first n sets is among all their packets
pub within_packets : (loads : List WriteLoad) (i k n : ℕ) → i < n → k < packets_of loads i
    → first_packet loads i + k < first_packet loads n
within_packets loads i k n before within =
    omega (arith, sum_below-more (packets_of loads) i, sum_below-rises (packets_of loads) (i + 1) n (omega arith))

-- the last of slots is the one before the next
pub last_slot : (slots : List ℕ) (slot : ℕ) → Follows slots slot → 0 < length slots
    → slice_index slots (length slots - 1) ≡ slot - 1
last_slot slots slot next some =
    let last : (length slots - 1) + 1 ≡ length slots = omega arith in
    let after =
    next.first (slice_index slots (length slots - 1) + 1)
    (λ n e. let is : n
    ≡ length slots - 1 = omega arith in omega (arith, ap (λ (m : ℕ). slice_index slots m) is)) in
    omega (arith, after, next.above (length slots - 1) (omega arith))

-- the schedule of one set more
pub IsSchedule-more : (loads : List WriteLoad) (pace : Pace) (n : ℕ) (slots ends dones slots' : List ℕ)
    (done : ℕ) →
    ((i : ℕ) → i < n → 1 ≤ size_of loads i) → IsSchedule loads n pace (table_of slots ends dones) →
    ((m : ℕ) → m < length slots → slice_index slots' m ≡ slice_index slots m)
    → length slots' ≡ first_packet loads (n + 1) →
    HaveStood loads pace slots' dones n (packets_of loads n) → done ≡ set_done_at loads pace slots' n →
    IsSchedule loads (n + 1) pace (table_of slots' (ends ++ length slots' ∷ []) (dones ++ done ∷ []))
IsSchedule-more loads pace n slots ends dones slots' done sizes before kept count stood is =
    record {
      packets = count;
      sets = (
        omega (arith, length-append ends (length slots' ∷ []), before.sets.0),
        omega
            (arith, length-append dones (done ∷ []), before.sets.1),
      );
      ends = below_more (λ i. slice_index ends' i ≡ first_packet loads (i + 1)) n
          (λ i less. get_or-append ends (length slots' ∷ []) 0 i (omega (arith, before.sets.0))
          ∙ before.ends i less)
          (ap (λ (m : ℕ). slice_index ends' m) (sym before.sets.0) ∙ get_or-append_seam ends (length slots') [] 0
          ∙ count);
      dones = below_more (λ i. slice_index dones' i ≡ set_done_at loads pace slots' i) n
          (λ i less. same_done i (omega (arith, before.sets.1)) ∙ before.dones i less ∙ same_done_of i less)
          (ap (λ (m : ℕ). slice_index dones' m) (sym before.sets.1) ∙ get_or-append_seam dones done [] 0 ∙ is);
      stands = λ i k within among. elim (cases_lt i n) [
        | inl less ↦ let Can : ℕ → Type 0 = λ (at : ℕ). CanStand loads pace slots' dones' i k at in
            subst Can (sym (same_slot i k less among)) (onward i k _ less among (before.stands i k less among))
        | inr more ↦ let e : i ≡ n = omega arith in
            let Stands : ℕ → Type 0 =
            λ (set : ℕ). CanStand loads pace slots' dones' set k (slot_of loads slots' set k) in
            subst Stands (sym e) (last k _ (stood.stands k (omega (arith, ap (packets_of loads) e))))
      ];
      least = λ i k slot within among stands. elim (cases_lt i n) [
        | inl less ↦ omega
            (arith, same_slot i k less among, before.least i k slot less among (back i k slot less among stands))
        | inr more ↦ let e : i ≡ n = omega arith in
            let Stands : ℕ → Type 0 = λ (set : ℕ). CanStand loads pace slots' dones' set k slot in
            omega (
              arith,
              ap (λ (set : ℕ). slot_of loads slots' set k) e,
              stood.least k slot
                  (omega (arith, ap (packets_of loads) e)) (unlast k slot (subst Stands e stands)),
            )
      ];
    }
  where
    ends' : List ℕ
    ends' = ends ++ length slots' ∷ []

    dones' : List ℕ
    dones' = dones ++ done ∷ []

    same_done : (i : ℕ) → i < length dones → slice_index dones' i ≡ slice_index dones i
    same_done i less = get_or-append dones (done ∷ []) 0 i less

    same_slot : (i k : ℕ) → i < n → k < packets_of loads i
        → slot_of loads slots' i k ≡ slot_of loads slots i k
    same_slot i k less among =
        kept (first_packet loads i + k) (omega (arith, before.packets, within_packets loads i k n less among))

    same_done_of : (i : ℕ) → i < n → set_done_at loads pace slots i ≡ set_done_at loads pace slots' i
    same_done_of i less =
        ap (λ (slot : ℕ). done_tick (tick_of pace slot) (shown_before loads i) (load_of loads i))
        (sym (same_slot i (packets_of loads i - 1) less (omega (arith, some_packets loads i (sizes i less)))))

    onward : (i k at : ℕ) → i < n → k < packets_of loads i → CanStand loads pace slots dones i k at
        → CanStand loads pace slots' dones' i k at
    onward i k at less among = CanStand-along loads pace slots dones slots' dones' i k at
        (λ m below. kept m (omega (arith, before.packets, within_packets loads i k n less among)))
        (λ j below. same_done j (omega (arith, before.sets.1)))

    back : (i k at : ℕ) → i < n → k < packets_of loads i → CanStand loads pace slots' dones' i k at
        → CanStand loads pace slots dones i k at
    back i k at less among = CanStand-along loads pace slots' dones' slots dones i k at
        (λ m below. sym (kept m (omega (arith, before.packets, within_packets loads i k n less among))))
        (λ j below. sym (same_done j (omega (arith, before.sets.1))))

    last : (k at : ℕ) → CanStand loads pace slots' dones n k at → CanStand loads pace slots' dones' n k at
    last k at =
        CanStand-along loads pace slots' dones slots' dones' n k at (λ m below. refl)
        (λ j below. same_done j (omega (arith, before.sets.1)))

    unlast : (k at : ℕ) → CanStand loads pace slots' dones' n k at → CanStand loads pace slots' dones n k at
    unlast k at =
        CanStand-along loads pace slots' dones' slots' dones n k at (λ m below. refl)
        (λ j below. sym (same_done j (omega (arith, before.sets.1))))

-- what the search for the slots of set n told
pub record IsSent (loads : List WriteLoad) (pace : Pace) (slots slots' dones : List ℕ)
    (search : Search) : Type 0 where
  pub rise : IsStrictlyIncreasing slots'
  pub between : IsBetween loads pace slots' dones (length dones + 1) search
  pub near : tick_of pace search.slot ≤ 2 ^ 62 + 200000000
  pub kept : (m : ℕ) → m < length slots → slice_index slots' m ≡ slice_index slots m
  pub stood : HaveStood loads pace slots' dones (length dones) (packets_of loads (length dones))

-- the slot of the last packet of the set that was sent last
pub last_of : (loads : List WriteLoad) (pace : Pace) (slots dones : List ℕ) (n : ℕ) (search : Search)
    → 1 ≤ size_of loads n →
    IsBetween loads pace slots dones (n + 1) search
    → (slot_of loads slots n (packets_of loads n - 1) ≡ search.slot - 1) × (1 ≤ search.slot)
last_of loads pace slots dones n search some between =
    let count = sum_below-more (packets_of loads) n in
    let packets = some_packets loads n some in
    let place : first_packet loads n + (packets_of loads n - 1) ≡ length slots - 1 = omega (arith, between.packets) in
    let any : 0 < length slots = omega (arith, between.packets) in (
      ap (λ (m : ℕ). slice_index slots m) place
          ∙ last_slot slots search.slot between.next any,
      omega (arith, between.next.above 0 any),
    )

-- the schedule of one set more, of whose last packet this is the done tick
pub schedule-next : (loads : List WriteLoad) (pace : Pace) (n : ℕ) (slots ends dones slots' : List ℕ) (shown : ℕ)
    (search search' : Search) (done : ℕ) →
    All IsLoad loads → n < length loads → IsScheduled loads pace n slots ends dones shown search
    → IsSent loads pace slots slots' dones search' →
    done ≡ done_tick (tick_of pace (search'.slot - 1)) shown (load_of loads n) →
    IsSchedule loads (n + 1) pace (table_of slots' (ends ++ length slots' ∷ []) (dones ++ done ∷ []))
schedule-next loads pace n slots ends dones slots' shown search search' done each below at sent is =
    let count : length dones ≡ n = at.schedule.sets.1 in
    let Sent : ℕ → Type 0 = λ (i : ℕ). IsBetween loads pace slots' dones (i + 1) search' in
    let between = subst Sent count sent.between in
    let Stood : ℕ → Type 0 = λ (i : ℕ). HaveStood loads pace slots' dones i (packets_of loads i) in
    let last = last_of loads pace slots' dones n search' (some_bytes loads n each below) between in
    IsSchedule-more loads pace n slots ends dones slots' done (λ i less. (some_bytes loads i each (omega arith)))
    at.schedule sent.kept between.packets
    (subst Stood count sent.stood)
    (is ∙ ap (λ (shown' : ℕ). done_tick (tick_of pace (search'.slot - 1)) shown' (load_of loads n))
    at.shown_before.0
    ∙ ap (λ (slot : ℕ). done_tick (tick_of pace slot) (shown_before loads n) (load_of loads n)) (sym last.0))

-- the sets before are on time in a longer table too
pub on_time-longer : (loads : List WriteLoad) (pace : Pace) (n : ℕ) (slots ends dones slots' ends' : List ℕ)
    (done : ℕ) → length dones ≡ n →
    IsOnTime loads n pace (table_of slots ends dones)
    → IsOnTime loads n pace (table_of slots' ends' (dones ++ done ∷ []))
on_time-longer loads pace n slots ends dones slots' ends' done count at =
    record {
      fits = at.fits;
      short = at.short;
      ready = λ i less. omega
          (arith, at.ready i less, get_or-append dones (done ∷ []) 0 i (omega (arith, count)));
    }

-- one set more is scheduled, and on time
pub IsScheduled-more : (loads : List WriteLoad) (pace : Pace) (n : ℕ) (slots ends dones slots' : List ℕ)
    (shown : ℕ) (search search' : Search) (done : ℕ) →
    IsSound pace → All IsLoad loads → n < length loads → IsScheduled loads pace n slots ends dones shown search
    → IsSent loads pace slots slots' dones search' →
    done ≡ done_tick (tick_of pace (search'.slot - 1)) shown (load_of loads n) →
    size_of loads n ≤ pace.coded → longest_of loads n ≤ UNIT_ROOM → done ≤ (load_of loads n).pts →
    IsScheduled loads pace (n + 1) slots' (ends ++ length slots' ∷ []) (dones ++ done ∷ []) (load_of loads n).pts
    search'
IsScheduled-more loads pace n slots ends dones slots' shown search search' done sound each below at sent is fits short
    ready =
    let dones' = dones ++ done ∷ [] in
    let count : length dones ≡ n = at.schedule.sets.1 in
    let longer : length dones' ≡ length dones + 1 = length-append dones (done ∷ []) in
    let load = load_at loads n each below in
    let same : (i : ℕ) → i < length dones → slice_index dones' i ≡ slice_index dones i =
    λ i less. get_or-append dones (done ∷ []) 0 i less in
    let new : slice_index dones' (length dones) ≡ done = get_or-append_seam dones done [] 0 in
    let new_at : (i : ℕ) → i < length dones' → length dones ≤ i → slice_index dones' i ≡ done =
    λ i within more.
    let e : i ≡ length dones = omega (arith, longer) in ap (λ (m : ℕ). slice_index dones' m) e ∙ new in
    let Sent : ℕ → Type 0 = λ (i : ℕ). IsBetween loads pace slots' dones i search' in
    let between = sent.between in
    let last =
    last_of loads pace slots' dones n search' (some_bytes loads n each below)
    (subst Sent (ap (λ (m : ℕ). m + 1) count) between) in
    let next : tick_of pace search'.slot ≡ tick_of pace (search'.slot - 1) + pace.step =
    ap (tick_of pace) (omega (arith, last.1)) ∙ tick_of-next pace (search'.slot - 1) in
    let on_time =
    on_time-longer loads pace n slots ends dones slots' (ends ++ length slots' ∷ []) done count at.on_time in
    let early : tick_of pace (search'.slot - 1) < 2 ^ 62 = omega (arith, load.pts) in
    record {
      schedule = schedule-next loads pace n slots ends dones slots' shown search search' done each below at sent is;
      on_time = record {
        fits = below_more (λ i. size_of loads i ≤ pace.coded) n on_time.fits fits;
        short = below_more (λ i. longest_of loads i ≤ UNIT_ROOM) n on_time.short short;
        ready = below_more (λ i. slice_index dones' i ≤ (load_of loads i).pts) n on_time.ready
            (omega (arith, ready, new, ap (λ (m : ℕ). slice_index dones' m) count));
      };
      between = record {
        packets = between.packets ∙ ap (first_packet loads) (sym longer);
        next = between.next;
        total = between.total ∙ ap (sum_below (size_of loads)) (sym longer);
        level = between.level;
        gone = record {
          within = omega (arith, between.gone.within, longer);
          each = λ j less. omega (arith, between.gone.each j less, same j (omega (arith, between.gone.within)));
        };
      };
      rise = sent.rise;
      ordered = record {
        rise = λ a b order within. elim (cases_lt b (length dones)) [
          | inl less ↦ omega (arith, at.ordered.rise a b order less, same a (omega arith), same b less)
          | inr more ↦ elim (cases_lt a (length dones)) [
            | inl less ↦ omega (arith, same a less, at.done_before a less, new_at b within more)
            | inr later ↦ omega (arith, new_at a (omega arith) later, new_at b within more)
          ]
        ];
        small = λ a within. elim (cases_lt a (length dones)) [
          | inl less ↦ omega (arith, same a less, at.ordered.small a less)
          | inr more ↦ omega (arith, new_at a within more, load.pts)
        ];
      };
      near = omega (arith, next, early, sound.step.1);
      shown_before = (ap (shown_before loads) (sym (add-one n)), load.pts);
      done_before = λ j within. elim (cases_lt j (length dones)) [
        | inl less ↦ omega (arith, same j less, at.done_before j less)
        | inr more ↦ omega (arith, new_at j within more)
      ];
      small = λ m within.
          let before_next : slice_index slots' m ≤ search'.slot - 1 = omega (arith, between.next.above m within) in
          omega (arith, tick_of-rises pace (slice_index slots' m) (search'.slot - 1) before_next);
    }

-- before the first set
pub IsScheduled-none : (loads : List WriteLoad) (pace : Pace) → IsSound pace
    → IsScheduled loads pace 0 [] [] [] 0 (record { slot = 0; level = 0; gone = 0 })
IsScheduled-none loads pace sound =
    record {
      schedule = record {
        packets = sym (sum_below-zero (packets_of loads));
        sets = (refl, refl);
        ends = λ i none. absurd (omega (arith, none));
        dones = λ i none. absurd (omega (arith, none));
        stands = λ i k none. absurd (omega (arith, none));
        least = λ i k slot none. absurd (omega (arith, none));
      };
      on_time =
          record {
            fits = λ i none. absurd (omega (arith, none));
            short = λ i none. absurd (omega (arith, none));
            ready = λ i none. absurd (omega (arith, none));
          };
      between = record {
        packets = sym (sum_below-zero (packets_of loads));
        next = record { above = λ n none. absurd (omega (arith, none)); first = λ other _. omega arith };
        total = omega arith;
        level = omega arith;
        gone = record { within = omega arith; each = λ j none. absurd (omega (arith, none)) };
      };
      rise = λ k none. absurd (omega (arith, none));
      ordered =
          record {
            rise = λ a b order none. absurd (omega (arith, none));
            small = λ a none. absurd
                (omega (arith, none));
          };
      near = omega (arith, sound.origin);
      shown_before = (refl, omega arith);
      done_before = λ j none. absurd (omega (arith, none));
      small = λ m none. absurd (omega (arith, none));
    }

-- slots whose ticks are below 2^62 are below 2^56
pub All-small : (pace : Pace) (slots : List ℕ) → IsSound pace
    → ((m : ℕ) → m < length slots → tick_of pace (slice_index slots m) < 2 ^ 62)
    → All (λ slot. slot < 2 ^ 56) slots
All-small pace slots sound small =
    All-from_get_or (λ slot. slot < 2 ^ 56) slots 0
    (λ m below. omega (arith, small m below, mul-le-mul_left (slice_index slots m) sound.step.0))

-- the table of a schedule is one
pub IsTable-of : (loads : List WriteLoad) (pace : Pace) (n : ℕ) (slots ends dones : List ℕ)
    → IsSchedule loads n pace (table_of slots ends dones) → IsTable slots ends dones
IsTable-of loads pace n slots ends dones at =
    record {
      sets = omega (arith, at.sets.0, at.sets.1);
      within =
          λ i below. omega (
            arith,
            at.ends i (omega (arith, at.sets.0)),
            at.packets,
            sum_below-rises (packets_of loads) (i + 1) n
                (omega (arith, at.sets.0)),
          );
      rise =
          λ i below. omega (
            arith,
            at.ends i (omega (arith, at.sets.0)),
            at.ends (i + 1) (omega (arith, at.sets.0)),
            sum_below-rises
                (packets_of loads) (i + 1) (i + 1 + 1) (omega arith),
          );
    }

-- once a set is sent there is a slot before the next
pub some_slot : (loads : List WriteLoad) (pace : Pace) (slots dones : List ℕ) (n : ℕ) (search : Search)
    → n < length loads → All IsLoad loads →
    IsBetween loads pace slots dones (n + 1) search → 1 ≤ search.slot
some_slot loads pace slots dones n search below each between =
    let last = last_of loads pace slots dones n search (some_bytes loads n each below) between in last.1

-- a set that is done too late is the cause of a refusal
pub late-cause : (loads : List WriteLoad) (pace : Pace) (n : ℕ) (slots ends dones slots' : List ℕ) (shown : ℕ)
    (search search' : Search) (done : ℕ) →
    All IsLoad loads → n < length loads → IsScheduled loads pace n slots ends dones shown search
    → IsSent loads pace slots slots' dones search' →
    done ≡ done_tick (tick_of pace (search'.slot - 1)) shown (load_of loads n) →
    size_of loads n ≤ pace.coded → longest_of loads n ≤ UNIT_ROOM → (load_of loads n).pts < done
    → IsFirstLate loads pace n done (load_of loads n).pts
late-cause loads pace n slots ends dones slots' shown search search' done each below at sent is fits short late =
    record {
      table = table_of slots' (ends ++ length slots' ∷ []) (dones ++ done ∷ []);
      among = below;
      schedule = schedule-next loads pace n slots ends dones slots' shown search search' done each below at sent is;
      before =
          on_time-longer loads pace n slots ends dones slots' (ends ++ length slots' ∷ []) done at.schedule.sets.1
          at.on_time;
      fits = fits;
      short = short;
      is_done =
          ap (λ (m : ℕ). slice_index (dones ++ done ∷ []) m) (sym at.schedule.sets.1)
          ∙ get_or-append_seam dones done [] 0;
      is_shown = refl;
      late = late;
    }

-- a set that is larger than the buffer is the cause of a refusal
pub full-cause : (loads : List WriteLoad) (pace : Pace) (n : ℕ) (slots ends dones : List ℕ) (shown : ℕ)
    (search : Search) →
    n < length loads → IsScheduled loads pace n slots ends dones shown search → pace.coded < size_of loads n
    → IsFirstFull loads pace n (size_of loads n)
full-cause loads pace n slots ends dones shown search below at full =
    record {
      table = table_of slots ends dones;
      among = below;
      schedule = at.schedule;
      before = at.on_time;
      is_size = refl;
      full = full;
    }

-- a set with a segment that is too long is the cause of a refusal
pub long-cause : (loads : List WriteLoad) (pace : Pace) (n : ℕ) (slots ends dones : List ℕ) (shown : ℕ)
    (search : Search) →
    n < length loads → IsScheduled loads pace n slots ends dones shown search → size_of loads n ≤ pace.coded
    → UNIT_ROOM < longest_of loads n →
    IsFirstLong loads pace n (longest_of loads n)
long-cause loads pace n slots ends dones shown search below at fits long =
    record {
      table = table_of slots ends dones;
      among = below;
      schedule = at.schedule;
      before = at.on_time;
      fits = fits;
      is_longest = refl;
      long = long;
    }
