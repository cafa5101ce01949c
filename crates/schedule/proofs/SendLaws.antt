-- The packets of one set, put into their slots one after the other.
use Rattle.std.proofs.Common.{◌≡◌, ℕ, max, ◌-◌, ◌+◌, ◌^◌, ◌<◌, ◌≤◌, inl, inr, List, [], ◌∷◌, ◌++◌, length, ap, sym, ◌∙◌, subst, refl, arith, below_more, length-append}
use Rattle.std.specs.Prelude.{slice_index}
use Rattle.std.specs.List.Sorted.{IsStrictlyIncreasing}
use Rattle.std.proofs.Math.ListN.{get_or-append}
use Rattle.std.proofs.Math.Seq.{get_or-append_seam}
use Rattle.std.proofs.lemmas.Bool.{cases_lt}
use Rattle.sub_base.specs.declared.load.WriteLoad.{WriteLoad}
use Rattle.sub_base.specs.declared.pace.Pace.{Pace}
use Rattle.sub_base.specs.declared.profile.TheConstants.{LONGEST_STEP}
use Rattle.schedule.specs.declared.place.Search.{Search}
use Rattle.schedule.specs.declared.limits.TheConstants.{SEND_WINDOW}
use Rattle.schedule.specs.Packets.{sum_below, size_of, load_of, first_packet, packets_of, payload_of, bytes_with}
use Rattle.sub_base.specs.Pace.{tick_of, IsSound}
use Rattle.schedule.specs.Slots.{CanStand, left_of, slot_of}
use Rattle.schedule.specs.Private.Safe.{AreDone}
use Rattle.schedule.specs.Private.Search.{HaveStood, IsBetween, IsWithin}
use Rattle.schedule.proofs.SumLaws.{sum_below-more, sum_below-zero}
use Rattle.schedule.proofs.BufferLaws.{tick_of-rises, tick_of-max}
use Rattle.schedule.proofs.PacketLaws.{payloads, some_packets}
use Rattle.schedule.proofs.SlotLaws.{CanStand-along}

-- the tick of the next slot
pub tick_of-next : (pace : Pace) (slot : ℕ) → tick_of pace (slot + 1) ≡ tick_of pace slot + pace.step
tick_of-next pace slot = omega arith

-- one packet more has its slot
pub HaveStood-more : (loads : List WriteLoad) (pace : Pace) (slots dones : List ℕ) (i k slot : ℕ)
    → length slots ≡ first_packet loads i + k →
    HaveStood loads pace slots dones i k → CanStand loads pace slots dones i k slot →
    ((other : ℕ) → CanStand loads pace slots dones i k other → slot ≤ other)
    → HaveStood loads pace (slots ++ slot ∷ []) dones i (k + 1)
HaveStood-more loads pace slots dones i k slot count stood can least =
    record {
      stands = below_more Stands k
          (λ m less. let Can : ℕ
          → Type 0 = λ (at : ℕ). CanStand loads pace grown dones i m at in subst Can
          (sym (same (first_packet loads i + m) (omega arith))) (onward m _ (omega arith) (stood.stands m less)))
          (let Can : ℕ
          → Type 0 = λ (at : ℕ). CanStand loads pace grown dones i k at in subst Can (sym new)
          (onward k slot (omega arith) can));
      least = λ m other within stands.
          elim (cases_lt m k) [
            | inl less ↦ omega (
              arith,
              same (first_packet loads i + m) (omega arith),
              stood.least m other less
                  (back m other (omega arith) stands),
            )
            | inr more ↦
                let is : m ≡ k = omega arith in
                let Can : ℕ → Type 0 = λ (at : ℕ). CanStand loads pace grown dones i at other in
                omega (
                  arith,
                  new,
                  ap (λ (at : ℕ). slot_of loads grown i at) is,
                  least other
                      (back k other (omega arith) (subst Can is stands)),
                )
          ];
    }
  where
    grown : List ℕ
    grown = slots ++ slot ∷ []

    Stands : ℕ → Type 0
    Stands m = CanStand loads pace grown dones i m (slot_of loads grown i m)

    same : (n : ℕ) → n < length slots → slice_index grown n ≡ slice_index slots n
    same n below = get_or-append slots (slot ∷ []) 0 n below

    new : slot_of loads grown i k ≡ slot
    new = ap (λ (n : ℕ). slice_index grown n) (sym count) ∙ get_or-append_seam slots slot [] 0

    onward : (m at : ℕ) → m ≤ k → CanStand loads pace slots dones i m at
        → CanStand loads pace grown dones i m at
    onward m at within =
        CanStand-along loads pace slots dones grown dones i m at (λ n before. same n (omega (arith, count)))
        (λ j before. refl)

    back : (m at : ℕ) → m ≤ k → CanStand loads pace grown dones i m at
        → CanStand loads pace slots dones i m at
    back m at within =
        CanStand-along loads pace grown dones slots dones i m at (λ n before. sym (same n (omega (arith, count))))
        (λ j before. refl)

-- a slot after the last of rising slots
pub rise-more : (slots : List ℕ) (slot : ℕ) → IsStrictlyIncreasing slots
    → ((n : ℕ) → n < length slots → slice_index slots n < slot) → IsStrictlyIncreasing (slots ++ slot ∷ [])
rise-more slots slot rise above k within =
    elim (cases_lt (k + 1) (length slots)) [
      | inl less ↦ omega (
        arith,
        rise k less,
        get_or-append slots (slot ∷ []) 0 k (omega arith),
        get_or-append slots (slot ∷ []) 0
            (k + 1) less,
      )
      | inr more ↦
          let count : length (slots ++ slot ∷ []) ≡ length slots + 1 = length-append slots (slot ∷ []) in
          let is : k + 1 ≡ length slots = omega arith in
          let new : slice_index (slots ++ slot ∷ []) (k + 1) ≡ slot =
          ap (λ (n : ℕ). slice_index (slots ++ slot ∷ []) n) is ∙ get_or-append_seam slots slot [] 0 in
          omega (arith, new, above k (omega arith), get_or-append slots (slot ∷ []) 0 k (omega arith))
    ]

-- one packet more is sent, in the slot that the search found for it
pub IsWithin-more : (loads : List WriteLoad) (pace : Pace) (slots dones : List ℕ) (k payload : ℕ)
    (search placed : Search) →
    IsSound pace → IsWithin loads pace slots dones k search → payload ≡ payload_of loads (length dones) k →
    placed.level + sum_below (size_of loads) placed.gone
    ≡ search.level + payload + sum_below (size_of loads) search.gone →
    placed.level ≤ pace.coded → AreDone dones placed.gone (tick_of pace placed.slot)
    → search.slot ≤ placed.slot →
    tick_of pace placed.slot ≤ max (tick_of pace search.slot) (2 ^ 62 + LONGEST_STEP) →
    search.level + payload + sum_below (size_of loads) search.gone
    ≤ pace.coded + sum_below (left_of loads dones (tick_of pace placed.slot)) (length dones) →
    ((slot : ℕ) → search.slot ≤ slot
    → search.level + payload + sum_below (size_of loads) search.gone
    ≤ pace.coded + sum_below (left_of loads dones (tick_of pace slot)) (length dones)
    → placed.slot ≤ slot) →
    IsWithin loads pace (slots ++ placed.slot ∷ []) dones (k + 1) (record placed { slot = placed.slot + 1 })
IsWithin-more loads pace slots dones k payload search placed sound at is total level gone after near room least =
    let i = length dones in
    let grown = slots ++ placed.slot ∷ [] in
    let count : length grown ≡ length slots + 1 = length-append slots (placed.slot ∷ []) in
    let sums = sum_below-more (payload_of loads i) k in
    let whole : bytes_with loads i k ≡ search.level + payload + sum_below (size_of loads) search.gone =
    omega (arith, sums, at.total, is) in
    let new : slice_index grown (length slots) ≡ placed.slot = get_or-append_seam slots placed.slot [] 0 in
    let same : (n : ℕ) → n < length slots → slice_index grown n ≡ slice_index slots n =
    λ n below. get_or-append slots (placed.slot ∷ []) 0 n below in
    let above : (n : ℕ) → n < length slots → slice_index slots n < placed.slot =
    λ n below. omega (arith, at.above n below, after) in
    let can : CanStand loads pace slots dones i k placed.slot = record {
      after = λ n before. above n (omega (arith, at.packets));
      window = omega (arith, at.window, tick_of-rises pace search.slot placed.slot after);
      room = omega (arith, whole, room);
    } in
    let last : (n : ℕ) → n + 1 ≡ length grown → slice_index grown n ≡ placed.slot = λ n e.
    let is_last : n ≡ length slots = omega arith in ap (λ (m : ℕ). slice_index grown m) is_last ∙ new in
    let next = tick_of-next pace placed.slot in
    record {
      packets = omega (arith, count, at.packets);
      rise = rise-more slots placed.slot at.rise above;
      above = λ n below. elim (cases_lt n (length slots)) [
        | inl less ↦ omega (arith, same n less, above n less)
        | inr more ↦ omega (arith, last n (omega (arith, count)))
      ];
      first = λ other later _. omega (arith, later (length slots) (sym count), new);
      last = λ _ n e. omega (arith, last n e);
      window = omega (arith, at.window, tick_of-rises pace search.slot (placed.slot + 1) (omega arith));
      total = omega (arith, total, at.total, is, sums);
      level = level;
      gone = record {
        within = gone.within;
        each =
            λ j below. omega
            (arith, gone.each j below, tick_of-rises pace placed.slot (placed.slot + 1) (omega arith));
      };
      near = omega (arith, near, at.near, next, sound.step.1);
      stood = HaveStood-more loads pace slots dones i k placed.slot at.packets at.stood can
          (λ other stands. least other
          (at.first other (λ n e. stands.after n (omega (arith, at.packets))) stands.window)
          (omega (arith, whole, stands.room)));
    }

-- before the first packet of a set: the search begins at the first slot that is free and in the set's window
pub IsWithin-begins : (loads : List WriteLoad) (pace : Pace) (slots dones : List ℕ) (from : Search)
    (window slot : ℕ) →
    IsSound pace → IsBetween loads pace slots dones (length dones) from → IsStrictlyIncreasing slots →
    tick_of pace from.slot ≤ 2 ^ 62 + LONGEST_STEP → (load_of loads (length dones)).pts < 2 ^ 62
    → slot ≡ max from.slot window →
    (load_of loads (length dones)).pts ≤ tick_of pace window + SEND_WINDOW
    → tick_of pace window ≤ 2 ^ 62 + LONGEST_STEP →
    ((other : ℕ) → (load_of loads (length dones)).pts ≤ tick_of pace other + SEND_WINDOW → window ≤ other) →
    IsWithin loads pace slots dones 0 (record from { slot = slot })
IsWithin-begins loads pace slots dones from window slot sound between rise near shown is reached low first =
    let later : from.slot ≤ slot = omega arith in
    let in_window : window ≤ slot = omega arith in
    record {
      packets = omega (arith, between.packets);
      rise = rise;
      above = λ n below. omega (arith, between.next.above n below);
      first = λ other after shown_later. omega (arith, between.next.first other after, first other shown_later);
      last = λ none. absurd (omega (arith, none));
      window = omega (arith, reached, tick_of-rises pace window slot in_window);
      total = omega (arith, between.total, sum_below-zero (payload_of loads (length dones)));
      level = between.level;
      gone = record {
        within = between.gone.within;
        each = λ j below. omega (arith, between.gone.each j below, tick_of-rises pace from.slot slot later);
      };
      near = omega (arith, tick_of-max pace from.slot window slot _ is near low);
      stood =
          record {
            stands = λ k none. absurd (omega (arith, none));
            least = λ k other none. absurd
                (omega (arith, none));
          };
    }

-- once all packets of a set have their slots, the search stands behind it
pub IsWithin-ends : (loads : List WriteLoad) (pace : Pace) (slots dones : List ℕ) (search : Search) →
    1 ≤ size_of loads (length dones) →
    IsWithin loads pace slots dones (packets_of loads (length dones)) search
    → IsBetween loads pace slots dones (length dones + 1) search
IsWithin-ends loads pace slots dones search some at =
    let i = length dones in
    let count = sum_below-more (packets_of loads) i in
    let bytes = sum_below-more (size_of loads) i in
    let own = payloads loads i in
    let last : (n : ℕ) → n + 1 ≡ length slots → search.slot ≡ slice_index slots n + 1 =
    at.last (some_packets loads i some) in
    let one : (length slots - 1) + 1 ≡ length slots = omega (arith, at.packets, some_packets loads i some) in
    record {
      packets = omega (arith, at.packets, count);
      next =
          record {
            above = at.above;
            first = λ other after. omega
                (arith, last (length slots - 1) one, after (length slots - 1) one);
          };
      total = omega (arith, at.total, bytes, own);
      level = at.level;
      gone = at.gone;
    }
