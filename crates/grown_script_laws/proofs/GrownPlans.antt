-- Plans of scripts that go on above a horizon: they begin with the same sets.
use Rattle.std.proofs.Common.{◌≡◌, ◌∙◌, sym, ap, subst, ℕ, zero, suc, ◌≤◌, List, [], ◌∷◌, ◌++◌, length, take, drop, reverse, get_or, All, Some, arith, length-append}
use Rattle.std.specs.Prelude.{slice_get}
use Rattle.std.proofs.lemmas.List.{drop-map, get_or-map, length-map, length-reverse, length-take-le, reverse-reverse, take-append-drop, take-map, take_all}
use Rattle.std.proofs.lemmas.Option.{slice_get-get_or}
use Rattle.std.proofs.Math.Seq.{drop-append_seam, take-append_seam}
use Rattle.sub_base.specs.declared.profile.Profile.{Profile}
use Rattle.cue_list.specs.declared.epoch.Epoch.{Epoch}
use Rattle.cue_list.specs.declared.script.Script.{Script}
use Rattle.page_epoch.specs.declared.planned_set.PlannedSet.{PlannedSet}
use Rattle.grown_script_laws.specs.Growth.{BeginAlike, EpochGrows, EpochsGrow, Grows}
use Rattle.page_epoch.specs.Plan.{AreFirstSets, ArePlanned, IsPlan}
use Rattle.page_epoch.specs.Sendable.{IsSendableIn}
use Rattle.page_epoch.proofs.AnswerLaws.{IsPast, past_of, some_same}
use Rattle.grown_script_laws.proofs.GrownCues.{all_reversed}
use Rattle.grown_script_laws.proofs.GrownInstants.{AreGrown, IsFarBelow, IsNear, Parts, near_stays, parts_of, same_low}
use Rattle.grown_script_laws.proofs.GrownRows.{grown_at}
use Rattle.grown_script_laws.proofs.GrownSets.{AreLow, past_stays, same_regions, times_of}
use Rattle.page_epoch.proofs.OnePlan.{HaveOwnRows, one_past, own_rows}
use Rattle.page_epoch.proofs.SendLaws.{sendable_all}
use Rattle.page_epoch.proofs.SoundLaws.{plain}

-- ---- the first sets of a plan

-- the first sets, the latest first, are a past
first_past : (epochs : List Epoch) (refresh : ℕ) (profile : Profile) (instants : List ℕ) (sets : List PlannedSet)
    (n : ℕ) → AreFirstSets epochs refresh profile instants sets → n ≤ length sets
    → IsPast epochs refresh instants (reverse (take n sets))
first_past epochs refresh profile instants [] zero first few = tt
first_past epochs refresh profile instants [] (suc n) first few = absurd (omega (arith, few))
first_past epochs refresh profile instants (set ∷ sets) n first few =
    past_of epochs refresh profile instants (set ∷ sets) n set first few

-- the sets of a plan stand at its instants
planned_times : (epochs : List Epoch) (refresh : ℕ) (profile : Profile) (sets : List PlannedSet)
    (planned : ArePlanned epochs refresh profile sets) → times_of sets ≡ planned.instants
planned_times epochs refresh profile sets planned =
    planned.first.times ∙ take_all (length sets) planned.instants (omega (arith, planned.all))

-- the sets of a plan parted as its instants are
record SetParts (horizon : ℕ) (sets : List PlannedSet) (low high : List ℕ) : Type 0 where
  few : length low ≤ length sets
  front : times_of (take (length low) sets) ≡ low
  rest : times_of (drop (length low) sets) ≡ high

set_parts : (horizon : ℕ) (sets : List PlannedSet) (instants : List ℕ) (parts : Parts horizon instants)
    → times_of sets ≡ instants → SetParts horizon sets parts.low parts.high
set_parts horizon sets instants parts times =
    let pts : PlannedSet → ℕ = λ set. set.pts in
    let n = length parts.low in
    let both : times_of sets ≡ parts.low ++ parts.high = times ∙ parts.parted.whole in
    record {
      few = omega (
        arith,
        length-map sets pts,
        ap (λ (xs : List ℕ). length xs) both,
        length-append parts.low parts.high,
      );
      front = sym (take-map pts n sets) ∙ ap (take n) both ∙ take-append_seam parts.low parts.high;
      rest = sym (drop-map pts n sets) ∙ ap (drop n) both ∙ drop-append_seam parts.low parts.high;
    }

-- what holds of the times of sets
all_times : (P : ℕ → Type 0) (sets : List PlannedSet) (times : List ℕ) → times_of sets ≡ times → All P times
    → All (λ (set : PlannedSet). P set.pts) sets
all_times P sets times same all k d within =
    let pts : PlannedSet → ℕ = λ set. set.pts in
    let each : All P (times_of sets) = subst (All P) (sym same) all in
    subst P (get_or-map pts sets k d d.pts within) (each k d.pts (omega (arith, within, length-map sets pts)))

-- ---- plans of epochs that go on

-- two plans, of epochs and of those that go on
record Planned (horizon : ℕ) (old new : List Epoch) (refresh : ℕ) (before now : List PlannedSet) : Type 0 where
  grow : EpochsGrow horizon old new
  rows : All HaveOwnRows new
  profile : Profile
  was : ArePlanned old refresh profile before
  is : ArePlanned new refresh profile now

grown_of : (horizon : ℕ) (old new : List Epoch) (refresh : ℕ) (before now : List PlannedSet)
    (planned : Planned horizon old new refresh before now)
    → AreGrown horizon old new refresh planned.was.instants planned.is.instants
grown_of horizon old new refresh before now planned =
    record { grow = planned.grow; were = planned.was.are_instants; are = planned.is.are_instants }

low_sets : (horizon : ℕ) (sets : List PlannedSet) → All (λ (set : PlannedSet). IsFarBelow horizon set.pts) sets
    → AreLow horizon (reverse sets)
low_sets horizon sets far =
    all_reversed (λ (set : PlannedSet). set.pts ≤ horizon) sets
    (λ k d within. let below = far k d within in omega (arith, below))

-- the first sets of both, as far as the instants are the same
same_front : (horizon : ℕ) (old new : List Epoch) (refresh : ℕ) (before now : List PlannedSet)
    (planned : Planned horizon old new refresh before now) → (first : Parts horizon planned.was.instants)
    → (second : Parts horizon planned.is.instants)
    → take (length first.low) before ≡ take (length second.low) now
same_front horizon old new refresh before now planned first second =
    let was = planned.was in
    let is = planned.is in
    let n = length first.low in
    let m = length second.low in
    let low = same_low horizon old new refresh was.instants is.instants
    (grown_of horizon old new refresh before now planned) first second in
    let count : n ≡ m = ap (λ (xs : List ℕ). length xs) low in
    let sets =
    set_parts horizon before was.instants first (planned_times old refresh planned.profile before was) in
    let others = set_parts horizon now is.instants second (planned_times new refresh planned.profile now is) in
    let far = all_times (IsFarBelow horizon) (take n before) first.low sets.front first.parted.below in
    let long : length (reverse (take n before)) ≡ n =
    length-reverse (take n before) ∙ length-take-le n before sets.few in
    let other_long : length (reverse (take m now)) ≡ m =
    length-reverse (take m now) ∙ length-take-le m now others.few in
    let Was : List ℕ → Type 0 = λ instants. IsPast old refresh instants (reverse (take n before)) in
    let Is : List ℕ → Type 0 = λ instants. IsPast new refresh instants (reverse (take n before)) in
    let past : IsPast old refresh (first.low ++ first.high) (reverse (take n before)) =
    subst Was first.parted.whole (first_past old refresh planned.profile was.instants before n was.first sets.few) in
    let grown : IsPast new refresh (first.low ++ second.high) (reverse (take n before)) =
    past_stays horizon old new refresh first.low first.high second.high (reverse (take n before)) planned.grow
    (low_sets horizon (take n before) far) (omega (arith, long)) past in
    let here : first.low ++ second.high ≡ is.instants =
    ap (λ (xs : List ℕ). xs ++ second.high) low ∙ sym second.parted.whole in
    let backward : reverse (take n before) ≡ reverse (take m now) =
    one_past new refresh is.instants (reverse (take n before)) (reverse (take m now)) planned.rows
    (subst Is here grown) (first_past new refresh planned.profile is.instants now m is.first others.few)
    (long ∙ count ∙ sym other_long) in
    sym (reverse-reverse (take n before)) ∙ ap reverse backward ∙ reverse-reverse (take m now)

-- plans of epochs that go on begin with the same sets
plans_stay : (horizon : ℕ) (old new : List Epoch) (refresh : ℕ) (before now : List PlannedSet)
    → Planned horizon old new refresh before now → BeginAlike horizon before now
plans_stay horizon old new refresh before now planned =
    let was = planned.was in
    let is = planned.is in
    let first = parts_of horizon was.instants was.are_instants.rise in
    let second = parts_of horizon is.instants is.are_instants.rise in
    let n = length first.low in
    let m = length second.low in
    let sets =
    set_parts horizon before was.instants first (planned_times old refresh planned.profile before was) in
    let others = set_parts horizon now is.instants second (planned_times new refresh planned.profile now is) in
    let front = same_front horizon old new refresh before now planned first second in
    let pts : PlannedSet → ℕ = λ set. set.pts in
    record {
      front = take n before;
      rest = drop n before;
      others = drop m now;
      was = sym (take-append-drop n before);
      is = sym (ap (λ (xs : List PlannedSet). xs ++ drop m now) front ∙ take-append-drop m now);
      low = all_times (IsFarBelow horizon) (take n before) first.low sets.front first.parted.below;
      high = all_times (IsNear horizon) (drop n before) first.high sets.rest first.parted.near;
      higher = all_times (IsNear horizon) (drop m now) second.high others.rest second.parted.near;
      goes_on = λ some.
          let long : length first.high ≡ length (drop n before) =
          ap (λ (xs : List ℕ). length xs) (sym sets.rest) ∙ length-map (drop n before) pts in
          let other_long : length second.high ≡ length (drop m now) =
          ap (λ (xs : List ℕ). length xs) (sym others.rest) ∙ length-map (drop m now) pts in
          let more = near_stays horizon old new refresh was.instants is.instants
          (grown_of horizon old new refresh before now planned) first second (omega (arith, some, long)) in
          omega (arith, more, other_long);
    }

-- plans of a script and of one that goes on above a horizon begin with the same sets
pub sets_stay : (horizon : ℕ) (old new : Script) (profile : Profile) (before now : List PlannedSet)
    → Grows horizon old new → IsPlan old profile before → IsPlan new profile now → BeginAlike horizon before now
sets_stay horizon old new profile before now grows was is =
    let Planned_by : ℕ → Type 0 = λ refresh. ArePlanned new.epochs refresh profile now in
    plans_stay horizon old.epochs new.epochs old.refresh before now (record {
      grow = grows.epochs;
      rows = own_rows new;
      profile = profile;
      was = was.planned;
      is = subst Planned_by grows.refresh is.planned;
    })

-- ---- the epochs of sets

-- a set of a plan has its epoch in the script that goes on, with the same regions, and what it carries is there
pub record HasGrown (horizon : ℕ) (old new : Script) (set : PlannedSet) : Type 0 where
  pub epoch : Epoch
  pub found : slice_get old.epochs set.epoch ≡ Some epoch
  pub grown : Epoch
  pub there : slice_get new.epochs set.epoch ≡ Some grown
  pub grows : EpochGrows horizon epoch grown
  pub regions : grown.regions ≡ epoch.regions
  pub carried : IsSendableIn epoch set

-- so it is with each set of a plan up to the horizon
pub sets_have_grown : (horizon : ℕ) (old new : Script) (profile : Profile) (sets : List PlannedSet)
    → Grows horizon old new → IsPlan old profile sets
    → All (λ (set : PlannedSet). set.pts ≤ horizon → HasGrown horizon old new set) sets
sets_have_grown horizon old new profile sets grows plan k d within early =
    let set = get_or sets k d in
    let next = plan.planned.first.each k set (slice_get-get_or sets k d within) in
    let usual = plain old.origin old.width old.height old.refresh old.epochs old.pictures old.sound in
    let send = sendable_all old profile sets usual plan.planned k d within in
    let here = grown_at horizon old.epochs new.epochs set.epoch next.epoch grows.epochs next.place.found in
    let Sent : Epoch → Type 0 = λ epoch. IsSendableIn epoch set in
    record {
      epoch = next.epoch;
      found = next.place.found;
      grown = here.0;
      there = here.1;
      grows = here.2;
      regions =
          same_regions horizon next.epoch here.0 here.2 (omega (arith, next.place.started, early));
      carried = subst Sent
          (some_same send.epoch next.epoch (slice_get old.epochs set.epoch) send.found next.place.found) send.carried;
    }
