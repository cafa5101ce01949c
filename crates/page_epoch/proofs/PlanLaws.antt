-- The walk over all instants.
use Rattle.std.proofs.Common.{◌≡◌, ◌∙◌, ◌⊎◌, inl, inr, ℕ, zero, suc, ◌+◌, ◌-◌, ◌<◌, ◌≤◌, ◌^◌, nat_le, Bool, true, false, cond, List, [], ◌∷◌, ◌++◌, map, reverse, take, length, get_or, All, Some, refl, sym, ap, subst, arith}
use Rattle.std.specs.Prelude.{slice_get}
use Rattle.std.specs.List.{Contains, AllPairs, take_while}
use Rattle.std.specs.List.Sorted.{IsStrictlyIncreasing}
use Rattle.std.proofs.lemmas.Bool.Decides.{nat_tests}
use Rattle.std.proofs.lemmas.List.{length_push, length-map, get_or-map, get_or_append_left, get_or_push, get_or_default, get_or-take, get_or-reverse, take-append-le, take_all, reverse-append, length-reverse}
use Rattle.std.proofs.lemmas.List.Elements.{All-contains, Contains-append_right}
use Rattle.std.proofs.lemmas.List.Sums.{take_while-cons}
use Rattle.std.proofs.lemmas.Option.{get_or_from_slice_get, slice_get-get_or, slice_get_within}
use Rattle.stream_syntax.specs.declared.page.State.TheVariants.{Normal}
use Rattle.sub_base.specs.declared.profile.Profile.{Profile}
use Rattle.cue_list.specs.declared.epoch.Epoch.{Epoch}
use Rattle.cue_list.specs.Sound.{ticks_of}
use Rattle.page_epoch.specs.declared.planned_set.PlannedSet.{PlannedSet}
use Rattle.page_epoch.specs.declared.instants.Instant.{Instant}
use Rattle.page_epoch.specs.declared.epoch_state.EpochWalk.{EpochWalk}
use Rattle.page_epoch.specs.Instants.{named_ticks, IsInstant}
use Rattle.page_epoch.specs.States.{last_entry}
use Rattle.page_epoch.specs.Private.RecordedInstants.{instant_ticks, AreRecordedInstants}
use Rattle.page_epoch.specs.EpochStates.{is_first, IsReachedBy}
use Rattle.page_epoch.specs.Plan.{IsEpochAt, IsNextSet, Fits, AllBehind}
use Rattle.page_epoch.specs.EpochWalks.{IsPlain, IsEpochWalk, IsTimely, Enters, Stays, WalkGoesOn}
use Rattle.page_epoch.proofs.InstantLaws.{in_order}

-- ---- starts and instants

start_named : (epochs : List Epoch) (place : ℕ) (epoch : Epoch) → slice_get epochs place ≡ Some epoch
    → Contains (named_ticks epochs) epoch.start
start_named [] place epoch found = cc
start_named (first ∷ others) zero epoch found =
    let same : first ≡ epoch = cc in
    subst (λ (e : Epoch). Contains (named_ticks (first ∷ others)) e.start) same (0, omega arith, refl)
start_named (first ∷ others) (suc place) epoch found =
    Contains-append_right (ticks_of first) (named_ticks others) epoch.start (start_named others place epoch found)

-- a tick of the list that none before a place reaches
not_before : (ticks : List ℕ) (count start k : ℕ) → IsStrictlyIncreasing ticks → count < length ticks
    → k < length ticks → get_or ticks k start ≡ start → (count ≤ k) ⊎ (k < count) →
    ((k : ℕ) → k < count → get_or ticks k 0 < start) → get_or ticks count 0 ≤ start
not_before ticks count start k rise h short e (inl late) below =
    let same = get_or_default ticks k start 0 short in
    let less = in_order ticks count k rise late short in
    omega arith
not_before ticks count start k rise h short e (inr early) below =
    let same = get_or_default ticks k start 0 short in
    let less = below k early in
    absurd (omega arith)

first_from : (ticks : List ℕ) (count start : ℕ) → IsStrictlyIncreasing ticks → count < length ticks
    → Contains ticks start → ((k : ℕ) → k < count → get_or ticks k 0 < start)
    → get_or ticks count 0 ≤ start
first_from ticks count start rise h (k, short, e) below =
    not_before ticks count start k rise h short e (grind arith) below

-- no instant is before the first epoch
not_early : (epochs : List Epoch) (refresh start tick : ℕ) → All (λ (t : ℕ). start ≤ t) (named_ticks epochs)
    → IsInstant epochs refresh tick → start ≤ tick
not_early epochs refresh start tick begin (inl named) =
    All-contains (λ (t : ℕ). start ≤ t) (named_ticks epochs) tick begin named
not_early epochs refresh start tick begin (inr r) =
    let last = All-contains (λ (t : ℕ). start ≤ t) (named_ticks epochs) r.last begin r.neighbours.has_first in
    let after = r.after in
    omega arith

pub below_34 : (epochs : List Epoch) (refresh tick : ℕ) → All (λ (t : ℕ). t < 2 ^ 34) (named_ticks epochs)
    → IsInstant epochs refresh tick → tick < 2 ^ 34
below_34 epochs refresh tick early (inl named) =
    All-contains (λ (t : ℕ). t < 2 ^ 34) (named_ticks epochs) tick early named
below_34 epochs refresh tick early (inr r) =
    let next = All-contains (λ (t : ℕ). t < 2 ^ 34) (named_ticks epochs) r.next early r.neighbours.has_second in
    let room = r.room in
    omega arith

-- ---- one set more

stands_at : (P : List PlannedSet → PlannedSet → Type 0) (sets : List PlannedSet) (set : PlannedSet) (n : ℕ)
    (other : PlannedSet) → AllBehind P sets → P (reverse sets) set →
    slice_get (sets ++ set ∷ []) n ≡ Some other → (n < length sets) ⊎ (n ≡ length sets)
    → P (reverse (take n (sets ++ set ∷ []))) other
stands_at P sets set n other before here found (inl h) =
    let long = length_push sets set in
    let there : slice_get sets n ≡ Some other =
    slice_get-get_or sets n other h
    ∙ ap (λ x. Some x)
    (sym (get_or_append_left sets (set ∷ []) other n h)
    ∙ get_or_from_slice_get (sets ++ set ∷ []) n other other found) in
    subst (λ (xs : List PlannedSet). P (reverse xs) other) (sym (take-append-le n sets (set ∷ []) (omega arith)))
    (before n other there)
stands_at P sets set n other before here found (inr e) =
    let same : set ≡ other =
    sym (get_or_push sets set other n (sym e)) ∙ get_or_from_slice_get (sets ++ set ∷ []) n other other found in
    let front : take n (sets ++ set ∷ []) ≡ sets =
    take-append-le n sets (set ∷ []) (omega arith) ∙ take_all n sets (omega arith) in
    subst (λ (xs : List PlannedSet). P (reverse xs) other) (sym front)
    (subst (λ (x : PlannedSet). P (reverse sets) x) same here)

pub Stands-push : (P : List PlannedSet → PlannedSet → Type 0) (sets : List PlannedSet) (set : PlannedSet)
    → AllBehind P sets → P (reverse sets) set → AllBehind P (sets ++ set ∷ [])
Stands-push P sets set before here n other found =
    let short = slice_get_within (sets ++ set ∷ []) n other found in
    let long = length_push sets set in
    stands_at P sets set n other before here found (grind arith)

pub reverse_more : (sets : List PlannedSet) (set : PlannedSet) → reverse (sets ++ set ∷ []) ≡ set ∷ reverse sets
reverse_more sets set = reverse-append sets (set ∷ [])

-- ---- where the walk stands

pub record HavePlanned (epochs : List Epoch) (refresh : ℕ) (profile : Profile) (instants : List Instant) (count : ℕ)
    (sets : List PlannedSet) (walk : EpochWalk) (whole : ℕ) : Type 0 where
  pub count_is : length sets ≡ count
  pub times : map (λ (set : PlannedSet). set.pts) sets ≡ take count (instant_ticks instants)
  pub rows : (k : ℕ) (d : PlannedSet) (e : Instant) → k < count
      → (get_or sets k d).row ≡ (get_or instants k e).row
  pub each : AllBehind (IsNextSet epochs refresh) sets
  pub fit : AllBehind (Fits epochs profile) sets
  pub seen : List ℕ
  pub stands : IsEpochWalk epochs seen walk
  pub seen_is : seen ≡ take_while (nat_le stands.epoch.start) (map (λ (set : PlannedSet). set.pts) (reverse sets))
  pub before_next : (next : Epoch) → slice_get epochs (walk.place + 1) ≡ Some next
      → All (λ (set : PlannedSet). set.pts < next.start) sets
  pub none : is_first seen ≡ true → (count ≡ 0) × (walk.place ≡ 0)
  pub whole_is : is_first seen ≡ false → (set : PlannedSet) × (last_entry (reverse sets) ≡ Some set)
      × (set.pts ≡ whole)
  pub small : whole < 2 ^ 40

-- the walk at its next instant
pub record IsReady (epochs : List Epoch) (refresh : ℕ) (instants : List Instant) (count : ℕ)
    (sets : List PlannedSet) (instant : Instant) (walk : EpochWalk) (whole : ℕ) : Type 0 where
  pub seen : List ℕ
  pub stands : IsEpochWalk epochs seen walk
  pub seen_is : seen ≡ take_while (nat_le stands.epoch.start) (map (λ (set : PlannedSet). set.pts) (reverse sets))
  pub timely : IsTimely stands.epoch.start seen instant.tick
  pub at : IsEpochAt epochs instant.tick walk.place stands.epoch
  pub whole_is : is_first seen ≡ false → (set : PlannedSet) × (last_entry (reverse sets) ≡ Some set)
      × (set.pts ≡ whole)

-- ---- at the beginning

pub HavePlanned-none : (epochs : List Epoch) (refresh : ℕ) (profile : Profile) (instants : List Instant)
    (walk : EpochWalk) → walk.place ≡ 0 → IsEpochWalk epochs [] walk
    → HavePlanned epochs refresh profile instants 0 [] walk 0
HavePlanned-none epochs refresh profile instants walk place stands = record {
  count_is = refl;
  times = refl;
  rows = λ k d e h. absurd (omega arith);
  each = λ n set found. cc;
  fit = λ n set found. cc;
  seen = [];
  stands = stands;
  seen_is = refl;
  before_next = λ next found k d h. absurd (omega arith);
  none = λ h. (refl, place);
  whole_is = λ h. cc;
  small = omega arith;
}

-- ---- to the next instant

-- the ticks of the sets are those of the first instants
tick_of_set : (instants : List Instant) (sets : List PlannedSet) (count k : ℕ) (d : PlannedSet)
    → length sets ≡ count → map (λ (set : PlannedSet). set.pts) sets ≡ take count (instant_ticks instants)
    → k < count →
    get_or (instant_ticks instants) k 0 ≡ (get_or sets k d).pts
tick_of_set instants sets count k d long times h =
    sym (get_or-take count (instant_ticks instants) k 0 h) ∙ ap (λ (xs : List ℕ). get_or xs k 0) (sym times)
    ∙ get_or-map (λ (set : PlannedSet). set.pts) sets k d 0 (omega arith)

head_by : (start x : ℕ) (xs seen : List ℕ) (b : Bool) → nat_le start x ≡ b
    → seen ≡ cond b (x ∷ take_while (nat_le start) xs) [] → is_first seen ≡ false
    → (0 < length (x ∷ xs)) × (start ≤ x)
head_by start x xs seen true t e h = (omega arith, grind (arith, nat_tests))
head_by start x xs seen false t e h = let none : is_first seen ≡ true = ap is_first e in cc

head_late : (start : ℕ) (xs seen : List ℕ) (d : ℕ) → seen ≡ take_while (nat_le start) xs
    → is_first seen ≡ false → (0 < length xs) × (start ≤ get_or xs 0 d)
head_late start [] seen d e h = cc
head_late start (x ∷ xs) seen d e h =
    head_by start x xs seen (nat_le start x) refl (e ∙ take_while-cons (nat_le start) x xs) h

none_late : (start : ℕ) (xs : List ℕ) → (0 < length xs → get_or xs 0 0 < start)
    → [] ≡ take_while (nat_le start) xs
none_late start [] h = refl
none_late start (x ∷ xs) h =
    let less : x < start = h (omega arith) in
    let t : nat_le start x ≡ false = grind (arith, nat_tests) in
    sym (take_while-cons (nat_le start) x xs ∙ ap (λ (b : Bool). cond b (x ∷ take_while (nat_le start) xs) []) t)

-- the latest tick is that of the last set
latest_tick : (sets : List PlannedSet) (d : PlannedSet) → 0 < length sets
    → get_or (map (λ (set : PlannedSet). set.pts) (reverse sets)) 0 0 ≡ (get_or sets (length sets - 1) d).pts
latest_tick sets d h =
    let long : 0 < length (reverse sets) = let e = length-reverse sets in omega arith in
    get_or-map (λ (set : PlannedSet). set.pts) (reverse sets) 0 d 0 long
    ∙ ap (λ (set : PlannedSet). set.pts)
    (get_or-reverse sets 0 d h ∙ ap (λ (k : ℕ). get_or sets k d) (omega arith))

some_set : (sets : List PlannedSet) → length (map (λ (set : PlannedSet). set.pts) (reverse sets)) ≡ length sets
some_set sets = length-map (reverse sets) (λ (set : PlannedSet). set.pts) ∙ length-reverse sets

started_by : (start : ℕ) (seen : List ℕ) (tick : ℕ) (b : Bool) → is_first seen ≡ b
    → IsTimely start seen tick → start ≤ tick
started_by start seen tick true h timely = let e = timely.at_start h in omega arith
started_by start seen tick false h timely = let e = timely.later h in omega arith

later_by : (epochs : List Epoch) (tick place later : ℕ) (other : Epoch)
    → AllPairs (λ (a b : Epoch). a.start < b.start) epochs
    → ((next : Epoch) → slice_get epochs (place + 1) ≡ Some next → tick < next.start) →
    (later ≡ place + 1) ⊎ (place + 1 < later) → slice_get epochs later ≡ Some other → tick < other.start
later_by epochs tick place later other rise next (inl e) found =
    next other (ap (λ (k : ℕ). slice_get epochs k) (sym e) ∙ found)
later_by epochs tick place later other rise next (inr h) found =
    let short = slice_get_within epochs later other found in
    let near = next (get_or epochs (place + 1) other) (slice_get-get_or epochs (place + 1) other (omega arith)) in
    let far = rise (place + 1) later other h short in
    let same = get_or_from_slice_get epochs later other other found in
    let P : Epoch → Type 0 = λ (x : Epoch). (get_or epochs (place + 1) other).start < x.start in
    let less = subst P same far in
    omega arith

some_same : (a b : Epoch) → Some a ≡ Some b → a ≡ b
some_same a b e = cc

pub no_set : PlannedSet
no_set =
    record {
      pts = 0;
      state = Normal;
      row = 0;
      epoch = 0;
      page_version = 0;
      shown = [];
      regions = [];
      cluts = [];
      cues = [];
    }

-- the latest set was before the instant
before_instant : (instants : List Instant) (sets : List PlannedSet) (count : ℕ) (instant : Instant)
    → IsStrictlyIncreasing (instant_ticks instants) → length sets ≡ count
    → map (λ (set : PlannedSet). set.pts) sets ≡ take count (instant_ticks instants) →
    count < length instants → instant ≡ get_or instants count instant → 0 < length sets
    → get_or (map (λ (set : PlannedSet). set.pts) (reverse sets)) 0 0 < instant.tick
before_instant instants sets count instant rise sized times h r some =
    let long = length-map instants (λ (x : Instant). x.tick) in
    let here : get_or (instant_ticks instants) count 0 ≡ instant.tick =
    get_or-map (λ (x : Instant). x.tick) instants count instant 0 h ∙ ap (λ (x : Instant). x.tick) (sym r) in
    let last = latest_tick sets no_set some in
    let before = tick_of_set instants sets count (count - 1) no_set sized times (omega arith) in
    let same = ap (λ (k : ℕ). (get_or sets k no_set).pts) (ap (λ (k : ℕ). k - 1) sized) in
    let less = rise (count - 1) (omega arith) in
    let next =
    ap (λ (k : ℕ). get_or (instant_ticks instants) k 0) (let e : count - 1 + 1 ≡ count = omega arith in e) in
    omega arith

after_by : (start x tick : ℕ) (xs seen : List ℕ) (b : Bool)
    → seen ≡ cond b (x ∷ take_while (nat_le start) xs) [] → x ≤ tick → IsReachedBy seen tick
after_by start x tick xs seen true e h = subst (λ (s : List ℕ). IsReachedBy s tick) (sym e) h
after_by start x tick xs seen false e h = subst (λ (s : List ℕ). IsReachedBy s tick) (sym e) tt

after_head : (start : ℕ) (xs seen : List ℕ) (tick : ℕ) → seen ≡ take_while (nat_le start) xs
    → (0 < length xs → get_or xs 0 0 ≤ tick) → IsReachedBy seen tick
after_head start [] seen tick e h = subst (λ (s : List ℕ). IsReachedBy s tick) (sym e) tt
after_head start (x ∷ xs) seen tick e h =
    after_by start x tick xs seen (nat_le start x) (e ∙ take_while-cons (nat_le start) x xs) (h (omega arith))

ready_stays : (epochs : List Epoch) (refresh : ℕ) (profile : Profile) (instants : List Instant) (count : ℕ)
    (sets : List PlannedSet) (instant : Instant) (old new : EpochWalk) (whole : ℕ) → IsPlain epochs refresh
    → AreRecordedInstants epochs refresh instants →
    HavePlanned epochs refresh profile instants count sets old whole → count < length instants
    → instant ≡ get_or instants count instant → Stays epochs instant.tick old new
    → IsReady epochs refresh instants count sets instant new whole
ready_stays epochs refresh profile instants count sets instant old new whole plain steps have h r stays =
    let epoch = have.stands.epoch in
    let long = length-map instants (λ (x : Instant). x.tick) in
    let here : get_or (instant_ticks instants) count 0 ≡ instant.tick =
    get_or-map (λ (x : Instant). x.tick) instants count instant 0 h ∙ ap (λ (x : Instant). x.tick) (sym r) in
    let is_instant = subst (λ (t : ℕ). IsInstant epochs refresh t) here (steps.ticks.each count 0 (omega arith)) in
    let sized = have.count_is in
    let timely : IsTimely epoch.start have.seen instant.tick = record {
      at_start = λ first.
          let none = have.none first in
          let start =
          first_from (instant_ticks instants) count epoch.start steps.ticks.rise (omega arith)
          (steps.ticks.all epoch.start (inl (start_named epochs old.place epoch have.stands.found)))
          (λ k below. absurd (let zero_count = none.0 in omega arith)) in
          let early =
          not_early epochs refresh epoch.start instant.tick
          (plain.begin epoch (ap (λ (k : ℕ). slice_get epochs k) (sym none.1) ∙ have.stands.found)) is_instant
          in
          omega arith;
      later = λ first.
          let late =
          head_late epoch.start (map (λ (set : PlannedSet). set.pts) (reverse sets)) have.seen 0 have.seen_is first
          in
          let some = some_set sets in
          let less =
          before_instant instants sets count instant steps.ticks.rise have.count_is have.times h r (omega arith) in
          omega arith;
      after =
          after_head epoch.start (map (λ (set : PlannedSet). set.pts) (reverse sets)) have.seen instant.tick
          have.seen_is
          (λ some. let all = some_set sets in let less = before_instant instants sets count instant steps.ticks.rise
          have.count_is have.times h r (omega arith) in omega arith);
    } in
    let ready : IsReady epochs refresh instants count sets instant old whole = record {
      seen = have.seen;
      stands = have.stands;
      seen_is = have.seen_is;
      timely = timely;
      at = record {
        found = have.stands.found;
        started = started_by epoch.start have.seen instant.tick (is_first have.seen) refl timely;
        last =
            λ later other beyond found. later_by epochs instant.tick old.place later other plain.rise stays.later
            (grind arith) found;
      };
      whole_is = have.whole_is;
    } in
    subst (λ (walk : EpochWalk). IsReady epochs refresh instants count sets instant walk whole) (sym stays.same) ready

ready_enters : (epochs : List Epoch) (refresh : ℕ) (profile : Profile) (instants : List Instant) (count : ℕ)
    (sets : List PlannedSet) (instant : Instant) (old new : EpochWalk) (whole : ℕ) → IsPlain epochs refresh
    → AreRecordedInstants epochs refresh instants →
    HavePlanned epochs refresh profile instants count sets old whole → count < length instants
    → instant ≡ get_or instants count instant → Enters epochs instant.tick old new
    → IsReady epochs refresh instants count sets instant new whole
ready_enters epochs refresh profile instants count sets instant old new whole plain steps have h r enters =
    let epoch = enters.stands.epoch in
    let long = length-map instants (λ (x : Instant). x.tick) in
    let here : get_or (instant_ticks instants) count 0 ≡ instant.tick =
    get_or-map (λ (x : Instant). x.tick) instants count instant 0 h ∙ ap (λ (x : Instant). x.tick) (sym r) in
    let found : slice_get epochs (old.place + 1) ≡ Some epoch =
    ap (λ (k : ℕ). slice_get epochs k) (sym enters.place) ∙ enters.stands.found in
    let started : epoch.start ≤ instant.tick =
    let same : enters.next
    ≡ epoch = some_same enters.next epoch (sym enters.there ∙ found) in let e = ap (λ (x : Epoch). x.start)
    same in let b = enters.started in omega arith in
    let below = have.before_next epoch found in
    let sized = have.count_is in
    let d = no_set in
    let start =
    first_from (instant_ticks instants) count epoch.start steps.ticks.rise (omega arith)
    (steps.ticks.all epoch.start (inl (start_named epochs (old.place + 1) epoch found)))
    (λ k inside. let same = tick_of_set instants sets count k d have.count_is have.times inside in let less = below k d
    (omega arith) in omega arith) in
    let same : instant.tick ≡ epoch.start = omega arith in
    record {
      seen = [];
      stands = enters.stands;
      seen_is = none_late epoch.start (map (λ (set : PlannedSet). set.pts) (reverse sets))
          (λ some. let all = some_set sets in let last = latest_tick sets d (omega arith) in let less = below
          (length sets - 1) d (omega arith) in omega arith);
      timely = record { at_start = λ first. same; later = λ first. cc; after = tt };
      at = record {
        found = enters.stands.found;
        started = started;
        last = λ later other beyond there.
            let short = slice_get_within epochs later other there in
            let far = plain.rise new.place later other beyond short in
            let first = get_or_from_slice_get epochs new.place epoch other enters.stands.found in
            let second = get_or_from_slice_get epochs later other other there in
            let P : Epoch → Type 0 = λ (x : Epoch). x.start < (get_or epochs later other).start in
            let Q : Epoch → Type 0 = λ (x : Epoch). epoch.start < x.start in
            let less = subst Q second (subst P first far) in
            omega arith;
      };
      whole_is = λ first. cc;
    }

pub ready_on : (epochs : List Epoch) (refresh : ℕ) (profile : Profile) (instants : List Instant) (count : ℕ)
    (sets : List PlannedSet) (instant : Instant) (old new : EpochWalk) (whole : ℕ) → IsPlain epochs refresh
    → AreRecordedInstants epochs refresh instants →
    HavePlanned epochs refresh profile instants count sets old whole → count < length instants
    → instant ≡ get_or instants count instant → WalkGoesOn epochs instant.tick old new
    → IsReady epochs refresh instants count sets instant new whole
ready_on epochs refresh profile instants count sets instant old new whole plain steps have h r (inl enters) =
    ready_enters epochs refresh profile instants count sets instant old new whole plain steps have h r enters
ready_on epochs refresh profile instants count sets instant old new whole plain steps have h r (inr stays) =
    ready_stays epochs refresh profile instants count sets instant old new whole plain steps have h r stays
