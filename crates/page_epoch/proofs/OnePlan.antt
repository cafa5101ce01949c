-- A script has one plan: what the definitions say of a set determines it, behind the sets before it.
use Rattle.std.proofs.Common.{◌≡◌, ◌≢◌, ◌∙◌, ◌⊎◌, inl, inr, refl, sym, ap, subst, ℕ, ◌==◌, ◌<◌, ◌≤◌, Bool, cond, List, [], ◌∷◌, length, map, filter, reverse, get_or, All, Some, arith, Result, Ok, Err, IfOk, IfErr}
use Rattle.std.specs.Prelude.{slice_get, MatchResult}
use Rattle.std.specs.List.{flat_map, Contains, AllPairs}
use Rattle.std.specs.List.Sorted.{IsPermutation, IsNonDecreasing, IsNonDecreasingBy}
use Rattle.std.proofs.Props.{props}
use Rattle.std.proofs.Math.Logic.{∥∥₁_elim}
use Rattle.std.proofs.lemmas.List.{get_or_default, get_or-map, length-map, length-reverse, reverse-reverse, same_lists, take_all}
use Rattle.std.proofs.lemmas.List.Elements.{Contains-get_or}
use Rattle.std.proofs.lemmas.List.Folds.{flat_map-map}
use Rattle.std.proofs.lemmas.List.Sorted.{Contains-permutation, IsPermutation-map, IsPermutation-sym, length_permutation, sum_by-IsPermutation}
use Rattle.std.proofs.lemmas.Option.{get_or_from_slice_get, slice_get_within}
use Rattle.sub_base.specs.declared.profile.Profile.{Profile}
use Rattle.sub_base.specs.Lists.{has_some}
use Rattle.sub_base.specs.Picture.{Picture}
use Rattle.cue_list.specs.declared.epoch.Cue.{Cue}
use Rattle.cue_list.specs.declared.epoch.Epoch.{Epoch}
use Rattle.cue_records.specs.declared.region.Region.{Region}
use Rattle.cue_list.specs.declared.script.Script.{Script}
use Rattle.cue_list.specs.Sound.{AreSeparate, IsSoundScript}
use Rattle.stream_syntax.specs.declared.page.State.{State}
use Rattle.stream_syntax.specs.Segments.{is_entry_state}
use Rattle.page_epoch.specs.declared.fault.PlanFault.{PlanFault}
use Rattle.page_epoch.specs.declared.fault.PlanFault.TheVariants.{Memory, DisplayTooLarge, PixelFull, CompositionFull}
use Rattle.page_epoch.specs.declared.plan.Plan.{Plan}
use Rattle.page_epoch.specs.declared.planned_set.PlannedSet.{PlannedSet}
use Rattle.page_epoch.specs.declared.planned_set.SentRegion.{SentRegion}
use Rattle.page_epoch.specs.Instants.{is_named}
use Rattle.page_epoch.specs.Live.{live_places, times}
use Rattle.page_epoch.specs.Plan.{IsEpochAt, IsCarried, IsNextSet, AreFirstSets, ArePlanned, IsPlan}
use Rattle.page_epoch.specs.Refusals.{IsPlanCause}
use Rattle.page_epoch.specs.SentRegions.{AreOrdered, AreSentRegions, AreShown, listed_cues, sent_region}
use Rattle.page_epoch.specs.States.{is_due, last_entry, page_version, instants_of, seen_of, state_of}
use Rattle.page_epoch.proofs.AnswerLaws.{IsPast, one_place, one_row, past_of, plan_or_fault, same_instants, same_time, some_same}
use Rattle.page_epoch.proofs.CountLaws.{same_sorted}

-- ---- items in order of a number

-- each number stands as often in an order of the items as in the items
times_same : (xs ys : List ℕ) (v : ℕ) → IsPermutation xs ys → times v ys ≡ times v xs
times_same xs ys v same = sum_by-IsPermutation (λ other. cond {A = ℕ} (other == v) 1 0) xs ys same

map_rises : {X : Type 0} (number : X → ℕ) (xs : List X) → IsNonDecreasingBy number xs
    → IsNonDecreasing (map number xs)
map_rises number [] rise i j d order within = absurd (omega arith)
map_rises number (x ∷ xs) rise i j d order within =
    let short : j < length (x ∷ xs) = omega (arith, within, length-map (x ∷ xs) number) in
    let low = get_or-map number (x ∷ xs) i x d (omega (arith, order, short)) in
    let high = get_or-map number (x ∷ xs) j x d short in
    omega (arith, low, high, rise i j x order short)

-- two orders of the same items have the same numbers
pub same_numbers : {X : Type 0} (number : X → ℕ) (items one other : List X) → AreOrdered number items one
    → AreOrdered number items other → map number one ≡ map number other
same_numbers number items one other first second =
    same_sorted (map number one) (map number other) (map_rises number one first.rise)
    (map_rises number other second.rise)
    (λ v. times_same (map number items) (map number one) v (IsPermutation-map number items one first.same)
    ∙ sym (times_same (map number items) (map number other) v (IsPermutation-map number items other second.same)))

-- two orders of items that the number tells apart are one
pub same_order : {X : Type 0} (number : X → ℕ) (items one other : List X)
    → ((a b : X) → Contains items a → Contains items b → number a ≡ number b → a ≡ b) →
    AreOrdered number items one → AreOrdered number items other → one ≡ other
same_order number items one other apart first second =
    let count : length one ≡ length other =
    length_permutation items one first.same ∙ sym (length_permutation items other second.same) in
    let numbers = same_numbers number items one other first second in
    same_lists one other count (λ k d within.
    let short : k < length other = omega (arith, within, count) in
    let here = get_or-map number one k d 0 within in
    let there = get_or-map number other k d 0 short in
    apart (get_or one k d) (get_or other k d)
    (Contains-permutation one items (get_or one k d) (IsPermutation-sym items one first.same)
    (Contains-get_or one k d within))
    (Contains-permutation other items (get_or other k d) (IsPermutation-sym items other second.same)
    (Contains-get_or other k d short))
    (sym here ∙ ap (λ (ns : List ℕ). get_or ns k 0) numbers ∙ there))

-- ---- what a set carries

-- no two regions of an epoch begin on the same row of the display
abbrev pub HaveOwnRows : Epoch → Type 0
HaveOwnRows epoch = AllPairs (λ (first second : Region). first.y ≢ second.y) epoch.regions

less_or_same : (a b : ℕ) → (a < b) ⊎ ((b < a) ⊎ (a ≡ b))
less_or_same a b = grind arith

-- a region is known by its row
by_row : (epoch : Epoch) → HaveOwnRows epoch → (a b : Region) → Contains epoch.regions a
    → Contains epoch.regions b → a.y ≡ b.y → a ≡ b
by_row epoch apart a b (i, within, is) (j, short, also) same =
    let there : get_or epoch.regions j a ≡ b = get_or_default epoch.regions j a b short ∙ also in
    let here : get_or epoch.regions i b ≡ a = get_or_default epoch.regions i b a within ∙ is in
    elim (less_or_same i j) [
      | inl less ↦ absurd
          (apart i j a less short
          (ap (λ (r : Region). r.y) is ∙ same ∙ sym (ap (λ (r : Region). r.y) there)))
      | inr (inl more) ↦ absurd
          (apart j i b more within
          (ap (λ (r : Region). r.y) also ∙ sym same ∙ sym (ap (λ (r : Region). r.y) here)))
      | inr (inr one) ↦ sym is ∙ ap (λ (k : ℕ). get_or epoch.regions k a) one ∙ there
    ]

same_shown : (epoch : Epoch) (tick : ℕ) (one other : List ℕ) → HaveOwnRows epoch
    → AreShown epoch.cues epoch.regions tick one → AreShown epoch.cues epoch.regions tick other → one ≡ other
same_shown epoch tick one other apart first second =
    first.is
    ∙ ap
    (λ (by_y : List Region). map (λ (region : Region). region.id)
    (filter (λ region. has_some (live_places epoch.cues region.id tick)) by_y))
    (same_order (λ (region : Region). region.y) epoch.regions first.by_y second.by_y (by_row epoch apart) first.ordered
    second.ordered)
    ∙ sym second.is

same_sent : (cues : List Cue) (regions : List Region) (whole : Bool) (seen : List ℕ) (one other : List SentRegion)
    → AreSentRegions cues regions whole seen one → AreSentRegions cues regions whole seen other → one ≡ other
same_sent cues regions whole seen one other first second =
    let send : ℕ → List SentRegion = λ id. sent_region cues whole seen id in
    let number : Region → ℕ = λ region. region.id in
    first.is ∙ sym (flat_map-map send number first.by_id)
    ∙ ap (flat_map send) (same_numbers number regions first.by_id second.by_id first.ordered second.ordered)
    ∙ flat_map-map send number second.by_id
    ∙ sym second.is

record CarrySame (one other : PlannedSet) : Type 0 where
  shown : one.shown ≡ other.shown
  regions : one.regions ≡ other.regions
  cluts : one.cluts ≡ other.cluts
  cues : one.cues ≡ other.cues

carry_same : (epoch : Epoch) (whole : Bool) (seen : List ℕ) (one other : PlannedSet) → HaveOwnRows epoch
    → one.pts ≡ other.pts → IsCarried epoch whole seen one → IsCarried epoch whole seen other → CarrySame one other
carry_same epoch whole seen one other apart time first second =
    let Shown : ℕ → Type 0 = λ tick. AreShown epoch.cues epoch.regions tick other.shown in
    let regions =
    same_sent epoch.cues epoch.regions whole seen one.regions other.regions first.regions second.regions in
    record {
      shown =
          same_shown epoch one.pts one.shown other.shown apart first.shown (subst Shown (sym time) second.shown);
      regions = regions;
      cluts = first.cluts ∙ sym second.cluts;
      cues = same_sorted one.cues other.cues first.in_order second.in_order (λ v.
          times_same (listed_cues one.regions) one.cues v first.cues
          ∙ ap (λ (sent : List SentRegion). times v (listed_cues sent)) regions
          ∙ sym (times_same (listed_cues other.regions) other.cues v second.cues));
    }

-- ---- sets

own_rows_of : (epochs : List Epoch) (place : ℕ) (epoch : Epoch) → All HaveOwnRows epochs
    → slice_get epochs place ≡ Some epoch → HaveOwnRows epoch
own_rows_of epochs place epoch apart found =
    subst HaveOwnRows (get_or_from_slice_get epochs place epoch epoch found)
    (apart place epoch (slice_get_within epochs place epoch found))

-- what a set carries, told of another set's epoch, state and time
carried_as : (past : List PlannedSet) (e f : Epoch) (s t : PlannedSet) → e ≡ f → s.state ≡ t.state → s.pts ≡ t.pts
    → IsCarried f (is_entry_state t.state) (seen_of f.start past t.pts) t
    → IsCarried e (is_entry_state s.state) (seen_of e.start past s.pts) t
carried_as past e f s t epoch state time carried =
    let of_epoch =
    subst (λ (x : Epoch). IsCarried x (is_entry_state t.state) (seen_of x.start past t.pts) t) (sym epoch) carried in
    let of_state =
    subst (λ (x : State). IsCarried e (is_entry_state x) (seen_of e.start past t.pts) t) (sym state) of_epoch in
    subst (λ (tick : ℕ). IsCarried e (is_entry_state s.state) (seen_of e.start past tick) t) (sym time) of_state

-- behind the same sets the next one of an instant is one
one_next : (epochs : List Epoch) (refresh : ℕ) (past : List PlannedSet) (s t : PlannedSet)
    → All HaveOwnRows epochs → s.pts ≡ t.pts →
    IsNextSet epochs refresh past s → IsNextSet epochs refresh past t → s ≡ t
one_next epochs refresh past s t apart time first second =
    let At : ℕ → Type 0 = λ tick. IsEpochAt epochs tick t.epoch second.epoch in
    let place : s.epoch ≡ t.epoch =
    one_place epochs s.pts s.epoch t.epoch first.epoch second.epoch first.place (subst At (sym time) second.place)
    in
    let epoch : first.epoch ≡ second.epoch =
    some_same first.epoch second.epoch (slice_get epochs s.epoch) first.place.found
    (ap (slice_get epochs) place ∙ second.place.found) in
    let row = one_row epochs s.pts t.pts past past s.row t.row time refl first.row second.row in
    let state : s.state ≡ t.state =
    first.state
    ∙ (λ i. state_of ((epoch i).start == time i) (is_named epochs (time i))
    (is_due refresh (time i) (last_entry past)))
    ∙ sym second.state in
    let version : s.page_version ≡ t.page_version =
    first.version ∙ ap (λ (tick : ℕ). page_version epochs (instants_of past tick)) time ∙ sym second.version in
    let carried =
    carry_same first.epoch (is_entry_state s.state) (seen_of first.epoch.start past s.pts) s t
    (own_rows_of epochs s.epoch first.epoch apart first.place.found) time first.carried
    (carried_as past first.epoch second.epoch s t epoch state time second.carried) in
    λ i. record {
      pts = time i;
      state = state i;
      row = row i;
      epoch = place i;
      page_version = version i;
      shown = carried.shown i;
      regions = carried.regions i;
      cluts = carried.cluts i;
      cues = carried.cues i;
    }

-- the sets of as many instants, the latest first, are one list
pub one_past : (epochs : List Epoch) (refresh : ℕ) (instants : List ℕ) (a b : List PlannedSet)
    → All HaveOwnRows epochs → IsPast epochs refresh instants a → IsPast epochs refresh instants b →
    length a ≡ length b → a ≡ b
one_past epochs refresh instants [] [] apart first second count = refl
one_past epochs refresh instants [] (t ∷ b) apart first second count = absurd (omega arith)
one_past epochs refresh instants (s ∷ a) [] apart first second count = absurd (omega arith)
one_past epochs refresh instants (s ∷ a) (t ∷ b) apart first second count =
    let shorter : length a ≡ length b = omega arith in
    let before : a ≡ b = one_past epochs refresh instants a b apart first.2 second.2 shorter in
    let time = same_time instants (length a) (length b) s t shorter first.1 second.1 in
    let Next : List PlannedSet → Type 0 = λ past. IsNextSet epochs refresh past t in
    let set : s ≡ t = one_next epochs refresh a s t apart time first.0 (subst Next (sym before) second.0) in
    cc (set, before)

-- ---- plans

first_past : (epochs : List Epoch) (refresh : ℕ) (profile : Profile) (instants : List ℕ) (sets : List PlannedSet)
    → AreFirstSets epochs refresh profile instants sets → IsPast epochs refresh instants (reverse sets)
first_past epochs refresh profile instants [] first = tt
first_past epochs refresh profile instants (set ∷ sets) first =
    let all = set ∷ sets in
    subst (λ (some : List PlannedSet). IsPast epochs refresh instants (reverse some))
    (take_all (length all) all (omega arith))
    (past_of epochs refresh profile instants all (length all) set first (omega arith))

one_planned : (epochs : List Epoch) (refresh : ℕ) (profile : Profile) (one other : List PlannedSet)
    → All HaveOwnRows epochs → ArePlanned epochs refresh profile one → ArePlanned epochs refresh profile other
    → one ≡ other
one_planned epochs refresh profile one other apart first second =
    let ticks : first.instants ≡ second.instants =
    same_instants epochs refresh first.instants second.instants first.are_instants second.are_instants in
    let count : length one ≡ length other = first.all ∙ ap length ticks ∙ sym second.all in
    let Past : List ℕ → Type 0 = λ instants. IsPast epochs refresh instants (reverse one) in
    let backward : reverse one ≡ reverse other =
    one_past epochs refresh second.instants (reverse one) (reverse other) apart
    (subst Past ticks (first_past epochs refresh profile first.instants one first.first))
    (first_past epochs refresh profile second.instants other second.first)
    (length-reverse one ∙ count ∙ sym (length-reverse other)) in
    sym (reverse-reverse one) ∙ ap reverse backward ∙ reverse-reverse other

below_not_same : (a b : Region) → AreSeparate a b → 1 ≤ a.height → 1 ≤ b.height → a.y ≢ b.y
below_not_same a b apart high tall same =
    elim apart.rows [
      | inl below ↦ absurd (omega (arith, below, high, same))
      | inr above ↦ absurd (omega (arith, above, tall, same))
    ]

own_rows_from : (origin width height refresh : ℕ) (epochs : List Epoch) (pictures : List Picture)
    → IsSoundScript origin width height refresh epochs pictures → All HaveOwnRows epochs
own_rows_from origin width height refresh epochs pictures sound k d h i j e order within =
    let regions = (sound.each k d h).regions in
    below_not_same (get_or (get_or epochs k d).regions i e) (get_or (get_or epochs k d).regions j e)
    (regions.apart i j e order within) (regions.each i e (omega (arith, order, within))).high
    (regions.each j e within).high

own_rows_prop : (epochs : List Epoch) → IsProp (All HaveOwnRows epochs)
own_rows_prop epochs = hlevel props

pub own_rows : (script : Script) → All HaveOwnRows script.epochs
own_rows script =
    ∥∥₁_elim script.sound (own_rows_prop script.epochs)
    (own_rows_from script.origin script.width script.height script.refresh script.epochs script.pictures)

-- a script has one plan for a receiver
pub one_plan : (script : Script) (profile : Profile) (one other : List PlannedSet) → IsPlan script profile one
    → IsPlan script profile other → one ≡ other
one_plan script profile one other first second =
    one_planned script.epochs script.refresh profile one other (own_rows script) first.planned second.planned

pub every_plan : (script : Script) (profile : Profile) (result : Result Plan PlanFault)
    → IfOk result (λ plan. IsPlan script profile plan.sets) → IfErr result (IsPlanCause script profile) →
    (sets : List PlannedSet) → IsPlan script profile sets
    → MatchResult result (λ made. made.sets ≡ sets) (λ fault. fault ≡ Memory)
every_plan script profile (Ok made) found cause sets plan = one_plan script profile made.sets sets found plan
every_plan script profile (Err Memory) found cause sets plan = refl
every_plan script profile (Err (DisplayTooLarge row)) found cause sets plan =
    absurd (plan_or_fault script profile sets (DisplayTooLarge row) plan cause
    (λ e. let bad : DisplayTooLarge row ≡ Memory = e in cc))
every_plan script profile (Err (PixelFull row need)) found cause sets plan =
    absurd (plan_or_fault script profile sets (PixelFull row need) plan cause
    (λ e. let bad : PixelFull row need ≡ Memory = e in cc))
every_plan script profile (Err (CompositionFull row need)) found cause sets plan =
    absurd (plan_or_fault script profile sets (CompositionFull row need) plan cause
    (λ e. let bad : CompositionFull row need ≡ Memory = e in cc))
