-- The set of an instant, and one instant more of a plan.
use Rattle.std.proofs.Common.{◌≡◌, ◌∙◌, ◌⊎◌, inl, inr, ℕ, ◌+◌, ◌-◌, ◌==◌, ◌<◌, ◌≤◌, ◌^◌, nat_le, Bool, true, false, cond, List, [], ◌∷◌, ◌++◌, map, reverse, take, length, get_or, All, Some, refl, sym, ap, subst, arith}
use Rattle.std.specs.Prelude.{slice_get}
use Rattle.std.specs.List.{flat_map, take_while}
use Rattle.std.proofs.lemmas.Bool.Decides.{nat_tests}
use Rattle.std.proofs.lemmas.List.{length_push, length-map, get_or-map, get_or_append_left, get_or_push, get_or_default, get_or-reverse, take_more, map_push, length-reverse}
use Rattle.std.proofs.lemmas.List.Elements.{All-push, All-weaker}
use Rattle.std.proofs.lemmas.List.Sums.{take_while-cons}
use Rattle.std.proofs.lemmas.Option.{get_or_from_slice_get, slice_get-get_or, slice_get_within}
use Rattle.std.proofs.lemmas.Bool.{false≢true}
use Rattle.stream_syntax.specs.declared.page.State.{State}
use Rattle.sub_base.specs.declared.profile.Profile.{Profile}
use Rattle.cue_list.specs.declared.epoch.Epoch.{Epoch}
use Rattle.page_epoch.specs.declared.planned_set.PlannedSet.{PlannedSet}
use Rattle.page_epoch.specs.declared.instants.Instant.{Instant}
use Rattle.page_epoch.specs.declared.epoch_state.EpochWalk.{EpochWalk}
use Rattle.page_epoch.specs.declared.epoch_state.EpochStep.{EpochStep}
use Rattle.page_epoch.specs.declared.epoch_state.SetHead.{SetHead}
use Rattle.page_epoch.specs.Instants.{is_named, IsInstant}
use Rattle.page_epoch.specs.Rows.{events_of, IsLeastRow}
use Rattle.page_epoch.specs.States.{last_entry, is_due, state_of, seen_of}
use Rattle.page_epoch.specs.Needs.{pixel_need, node_need}
use Rattle.page_epoch.specs.Private.RecordedInstants.{instant_ticks, IsRecordedInstant, IsFirstNamed, AreRecordedInstants}
use Rattle.page_epoch.specs.EpochStates.{is_first}
use Rattle.page_epoch.specs.Private.Layouts.{IsLayout}
use Rattle.page_epoch.specs.Plan.{IsEpochAt, IsRowBefore, IsCarried, IsNextSet, Needs, Fits, AreFirstSets, ArePlanned}
use Rattle.page_epoch.specs.declared.fault.PlanFault.{PlanFault}
use Rattle.page_epoch.specs.declared.fault.PlanFault.TheVariants.{Memory, DisplayTooLarge, PixelFull, CompositionFull}
use Rattle.page_epoch.specs.Refusals.{IsFirstUnheld, IsNeedFault, IsSetCause}
use Rattle.page_epoch.specs.EpochWalks.{IsSmallEpoch, IsPlain, IsEpochState, IsSafe, IsTimely, IsSetOf, IsAdvanced, WalkGoesOn, version_behind}
use Rattle.page_epoch.proofs.PageVersions.{version_is}
use Rattle.stream_syntax.specs.Segments.{is_entry_state}
use Rattle.page_epoch.proofs.PlanLaws.{below_34, Stands-push, reverse_more, HavePlanned, IsReady, no_set}

-- ---- the set of the instant

-- the head of the set of an instant, behind these sets
abbrev head_at : List PlannedSet → Instant → EpochWalk → State → SetHead
head_at sets instant walk state = record {
  instant = instant;
  state = state;
  page_version = version_behind (reverse sets) instant.named;
  place = walk.place;
}

pub set_behind : (sets : List PlannedSet) (instant : Instant) (walk : EpochWalk) (state : State) (version : ℕ)
    (set : PlannedSet) → version ≡ version_behind (reverse sets) instant.named →
    IsSetOf (record { instant = instant; state = state; page_version = version; place = walk.place }) set
    → IsSetOf (head_at sets instant walk state) set
set_behind sets instant walk state version set e is =
    subst (λ (v : ℕ). IsSetOf (record { instant = instant; state = state; page_version = v; place = walk.place })
    set) e is

-- the set of an instant was made
pub record IsMade (epochs : List Epoch) (refresh : ℕ) (instants : List Instant) (count : ℕ) (sets : List PlannedSet)
    (instant : Instant) (walk : EpochWalk) (whole : ℕ) (state : State) (step : EpochStep) : Type 0 where
  pub ready : IsReady epochs refresh instants count sets instant walk whole
  pub state_by : state ≡ state_of walk.current.first instant.named (nat_le (whole + refresh) instant.tick)
  pub set_of : IsSetOf (head_at sets instant walk state) step.set
  pub advanced : IsAdvanced ready.stands.epoch walk.layout ready.seen instant.tick state step
  pub safe : IsSafe walk.layout step.current

row_before : (past : List PlannedSet) (row : ℕ) (d : PlannedSet) → 0 < length past
    → row ≡ (get_or past 0 d).row → IsRowBefore past row
row_before [] row d h e = absurd (omega arith)
row_before (last ∷ earlier) row d h e = e

first_named : (instants : List Instant) (d : Instant) → 0 < length instants → IsFirstNamed instants
    → (get_or instants 0 d).named ≡ true
first_named [] d h first = absurd (omega arith)
first_named (x ∷ xs) d h first = first

state_same : (first starts named due other : Bool) → starts ≡ first → (first ≡ false → due ≡ other)
    → state_of first named due ≡ state_of starts named other
state_same true starts named due other s d = ap (λ (b : Bool). state_of b named other) (sym s)
state_same false starts named due other s d =
    ap (λ (b : Bool). state_of false named b) (d refl) ∙ ap (λ (b : Bool). state_of b named other) (sym s)

starts_at : (start tick : ℕ) (first : Bool) → (first ≡ true → tick ≡ start)
    → (first ≡ false → start < tick) → (start == tick) ≡ first
starts_at start tick true same later = let e = same refl in grind (arith, nat_tests)
starts_at start tick false same later = let h = later refl in grind (arith, nat_tests)

due_same : (refresh tick whole : ℕ) (past : List PlannedSet) → (set : PlannedSet) × (last_entry past ≡ Some set)
    × (set.pts ≡ whole) → nat_le (whole + refresh) tick ≡ is_due refresh tick (last_entry past)
due_same refresh tick whole past (set, is, time) =
    ap (λ (t : ℕ). nat_le (t + refresh) tick) (sym time) ∙ ap (is_due refresh tick) (sym is)

named_row : (epochs : List Epoch) (sets : List PlannedSet) (instants : List Instant) (refresh count : ℕ)
    (instant : Instant) → AreRecordedInstants epochs refresh instants → count < length instants
    → instant ≡ get_or instants count instant → length sets ≡ count →
    ((k : ℕ) (d : PlannedSet) (e : Instant) → k < count → (get_or sets k d).row ≡ (get_or instants k e).row)
    → (count ≡ 0) ⊎ (0 < count) → instant.named ≡ false → IsRowBefore (reverse sets) instant.row
named_row epochs sets instants refresh count instant steps h r long rows (inl none) unnamed =
    let named = first_named instants instant (omega arith) steps.first in
    let same = r ∙ ap (λ (k : ℕ). get_or instants k instant) none in
    let other = ap (λ (x : Instant). x.named) same in
    absurd (false≢true (sym unnamed ∙ other ∙ named))
named_row epochs sets instants refresh count instant steps h r long rows (inr some) unnamed =
    let back : count - 1 + 1 ≡ count = omega arith in
    let here : get_or instants (count - 1 + 1) instant ≡ instant =
    ap (λ (k : ℕ). get_or instants k instant) back ∙ sym r in
    let kept = steps.rows (count - 1) instant (omega arith) (ap (λ (x : Instant). x.named) here ∙ unnamed) in
    let last = rows (count - 1) no_set instant (omega arith) in
    let short : 0 < length (reverse sets) = let e = length-reverse sets in omega arith in
    let head : get_or (reverse sets) 0 no_set ≡ get_or sets (count - 1) no_set =
    get_or-reverse sets 0 no_set (omega arith) ∙ ap (λ (k : ℕ). get_or sets k no_set) (omega arith) in
    row_before (reverse sets) instant.row no_set short
    (ap (λ (x : Instant). x.row) (sym here) ∙ kept ∙ sym last ∙ ap (λ (x : PlannedSet). x.row) (sym head))

pub next_made : (epochs : List Epoch) (refresh : ℕ) (profile : Profile) (instants : List Instant) (count : ℕ)
    (sets : List PlannedSet) (instant : Instant) (old walk : EpochWalk) (whole : ℕ) (state : State)
    (step : EpochStep) →
    AreRecordedInstants epochs refresh instants → HavePlanned epochs refresh profile instants count sets old whole
    → count < length instants → instant ≡ get_or instants count instant →
    IsMade epochs refresh instants count sets instant walk whole state step
    → IsNextSet epochs refresh (reverse sets) step.set
next_made epochs refresh profile instants count sets instant old walk whole state step steps have h r made =
    let set = step.set in
    let ready = made.ready in
    let epoch = ready.stands.epoch in
    let time : instant.tick ≡ set.pts = sym made.set_of.pts in
    let fact = subst (IsRecordedInstant epochs) (sym r) (steps.each count instant h) in
    let named : instant.named ≡ is_named epochs set.pts = fact.named ∙ ap (is_named epochs) time in
    let full : instant.tick ∷ ready.seen ≡ seen_of epoch.start (reverse sets) set.pts =
    ap (λ (t : ℕ). t ∷ ready.seen) time ∙ ap (λ (xs : List ℕ). set.pts ∷ xs) ready.seen_is in
    record {
      epoch = epoch;
      place =
          subst (λ (place : ℕ). IsEpochAt epochs set.pts place epoch) (sym made.set_of.epoch)
          (subst (λ (t : ℕ). IsEpochAt epochs t walk.place epoch) time ready.at);
      row = record {
        of_named =
            λ yes. subst (λ (row : ℕ). IsLeastRow (flat_map events_of epochs) set.pts row) (sym made.set_of.row)
            (subst (λ (t : ℕ). IsLeastRow (flat_map events_of epochs) t instant.row) time
            (fact.row (named ∙ yes)));
        of_refresh =
            λ no. subst (λ (row : ℕ). IsRowBefore (reverse sets) row) (sym made.set_of.row)
            (named_row epochs sets instants refresh count instant steps h r have.count_is have.rows (grind arith)
            (named ∙ no));
      };
      state = made.set_of.state_is ∙ made.state_by
          ∙ ap (λ (b : Bool). state_of b instant.named (nat_le (whole + refresh) instant.tick))
          ready.stands.current.first
          ∙ state_same (is_first ready.seen) (epoch.start == set.pts) instant.named
          (nat_le (whole + refresh) instant.tick) (is_due refresh set.pts (last_entry (reverse sets)))
          (ap (λ (t : ℕ). epoch.start == t) (sym time)
          ∙ starts_at epoch.start instant.tick (is_first ready.seen) ready.timely.at_start ready.timely.later)
          (λ first. due_same refresh instant.tick whole (reverse sets) (ready.whole_is first)
          ∙ ap (λ (t : ℕ). is_due refresh t (last_entry (reverse sets))) time)
          ∙ ap (λ (b : Bool). state_of (epoch.start == set.pts) b
          (is_due refresh set.pts (last_entry (reverse sets)))) named;
      version =
          made.set_of.page_version
          ∙ version_is epochs refresh sets (reverse sets) set.pts instant.named refl have.each named;
      carried =
          subst (λ (x : State). IsCarried epoch (is_entry_state x) (seen_of epoch.start (reverse sets) set.pts) set)
          (sym made.set_of.state_is)
          (subst (λ (xs : List ℕ). IsCarried epoch (is_entry_state state) xs set) full made.advanced.carried);
    }

pub needs_made : (epochs : List Epoch) (refresh : ℕ) (instants : List Instant) (count : ℕ) (sets : List PlannedSet)
    (instant : Instant) (walk : EpochWalk) (whole : ℕ) (state : State) (step : EpochStep) (pixels : ℕ) →
    (made : IsMade epochs refresh instants count sets instant walk whole state step)
    → pixels ≡ pixel_need made.ready.stands.epoch.regions
    → Needs epochs (reverse sets) step.set pixels step.nodes
needs_made epochs refresh instants count sets instant walk whole state step pixels made is =
    let set = step.set in
    let ready = made.ready in
    let epoch = ready.stands.epoch in
    let full : instant.tick ∷ ready.seen ≡ seen_of epoch.start (reverse sets) set.pts =
    ap (λ (t : ℕ). t ∷ ready.seen) (sym made.set_of.pts)
    ∙ ap (λ (xs : List ℕ). set.pts ∷ xs) ready.seen_is in
    record {
      epoch = epoch;
      found = ap (λ (k : ℕ). slice_get epochs k) made.set_of.epoch ∙ ready.stands.found;
      pixels_are = is;
      nodes_are = made.advanced.nodes ∙ ap (λ (xs : List ℕ). node_need epoch xs (length set.shown)) full;
    }

-- the sets so far are the first ones
pub first_sets : (epochs : List Epoch) (refresh : ℕ) (profile : Profile) (instants : List Instant) (count : ℕ)
    (sets : List PlannedSet) (walk : EpochWalk) (whole : ℕ) → count ≤ length instants →
    HavePlanned epochs refresh profile instants count sets walk whole
    → AreFirstSets epochs refresh profile (instant_ticks instants) sets
first_sets epochs refresh profile instants count sets walk whole h have =
    let long = length-map instants (λ (x : Instant). x.tick) in
    let sized = have.count_is in
    record {
      times = have.times ∙ ap (λ (n : ℕ). take n (instant_ticks instants)) (sym have.count_is);
      few = omega arith;
      each = have.each;
      fit = have.fit;
    }

pub planned_all : (epochs : List Epoch) (refresh : ℕ) (profile : Profile) (instants : List Instant) (count : ℕ)
    (sets : List PlannedSet) (walk : EpochWalk) (whole : ℕ) → count ≡ length instants
    → AreRecordedInstants epochs refresh instants →
    HavePlanned epochs refresh profile instants count sets walk whole → ArePlanned epochs refresh profile sets
planned_all epochs refresh profile instants count sets walk whole all steps have =
    let long = length-map instants (λ (x : Instant). x.tick) in
    let sized = have.count_is in
    record {
      instants = instant_ticks instants;
      are_instants = steps.ticks;
      first = first_sets epochs refresh profile instants count sets walk whole (omega arith) have;
      all = omega arith;
    }

pub unheld_made : (epochs : List Epoch) (refresh : ℕ) (profile : Profile) (instants : List Instant) (count : ℕ)
    (sets : List PlannedSet) (instant : Instant) (old walk : EpochWalk) (whole : ℕ) (state : State) (step : EpochStep)
    (pixels : ℕ) →
    AreRecordedInstants epochs refresh instants → HavePlanned epochs refresh profile instants count sets old whole
    → count < length instants → instant ≡ get_or instants count instant →
    (made : IsMade epochs refresh instants count sets instant walk whole state step)
    → pixels ≡ pixel_need made.ready.stands.epoch.regions
    → IsFirstUnheld epochs refresh profile instant.row pixels step.nodes
unheld_made epochs refresh profile instants count sets instant old walk whole state step pixels steps have h r made is =
    let long = length-map instants (λ (x : Instant). x.tick) in
    let sized = have.count_is in
    let here : get_or (instant_ticks instants) count 0 ≡ instant.tick =
    get_or-map (λ (x : Instant). x.tick) instants count instant 0 h ∙ ap (λ (x : Instant). x.tick) (sym r) in
    record {
      instants = instant_ticks instants;
      are_instants = steps.ticks;
      before = sets;
      first = first_sets epochs refresh profile instants count sets old whole (omega arith) have;
      set = step.set;
      time =
          ap (λ (k : ℕ). slice_get (instant_ticks instants) k) have.count_is
          ∙ slice_get-get_or (instant_ticks instants) count 0 (omega arith)
          ∙ ap (λ (t : ℕ). Some t) (here ∙ sym made.set_of.pts);
      next = next_made epochs refresh profile instants count sets instant old walk whole state step steps have h r made;
      is_row = sym made.set_of.row;
      needs = needs_made epochs refresh instants count sets instant walk whole state step pixels made is;
    }

-- ---- one instant on

rows_by : (sets : List PlannedSet) (set : PlannedSet) (instants : List Instant) (count k : ℕ) (d : PlannedSet)
    (e : Instant) → length sets ≡ count
    → ((k : ℕ) (d : PlannedSet) (e : Instant) → k < count
    → (get_or sets k d).row ≡ (get_or instants k e).row) →
    set.row ≡ (get_or instants count e).row → (k < count) ⊎ (k ≡ count)
    → (get_or (sets ++ set ∷ []) k d).row ≡ (get_or instants k e).row
rows_by sets set instants count k d e long rows here (inl h) =
    ap (λ (x : PlannedSet). x.row) (get_or_append_left sets (set ∷ []) d k (omega arith)) ∙ rows k d e h
rows_by sets set instants count k d e long rows here (inr same) =
    ap (λ (x : PlannedSet). x.row) (get_or_push sets set d k (omega arith)) ∙ here
    ∙ ap (λ (j : ℕ). (get_or instants j e).row) (sym same)

whole_after : (past : List PlannedSet) (set : PlannedSet) (state : State) (first : Bool) (whole tick next : ℕ)
    (b : Bool) → is_entry_state state ≡ b → set.state ≡ state → set.pts ≡ tick
    → next ≡ cond b tick whole → (b ≡ false → first ≡ false) →
    (first ≡ false → (other : PlannedSet) × (last_entry past ≡ Some other) × (other.pts ≡ whole))
    → (other : PlannedSet) × (last_entry (set ∷ past) ≡ Some other) × (other.pts ≡ next)
whole_after past set state first whole tick next true t s p n f before =
    (set, ap (λ (b : Bool). cond b (Some set) (last_entry past)) (ap is_entry_state s ∙ t), p ∙ sym n)
whole_after past set state first whole tick next false t s p n f before =
    let old = before (f refl) in (
      old.0,
      ap (λ (b : Bool). cond b (Some set) (last_entry past)) (ap is_entry_state s ∙ t) ∙ old.1,
      old.2
          ∙ sym n,
    )

-- a set that is not whole does not begin an epoch
not_started : (first named due : Bool) (state : State) → state ≡ state_of first named due
    → is_entry_state state ≡ false → first ≡ false
not_started true named due state s w = absurd (false≢true (sym w ∙ ap is_entry_state s))
not_started false named due state s w = refl

small_next : (b : Bool) (tick whole next : ℕ) → next ≡ cond b tick whole → tick < 2 ^ 40 → whole < 2 ^ 40
    → next < 2 ^ 40
small_next true tick whole next n h k = omega arith
small_next false tick whole next n h k = omega arith

-- the sets before are before the epoch that follows
All-below : (epochs : List Epoch) (refresh : ℕ) (profile : Profile) (instants : List Instant) (count : ℕ)
    (sets : List PlannedSet) (old walk : EpochWalk) (whole tick : ℕ) (later : Epoch) → IsPlain epochs refresh →
    HavePlanned epochs refresh profile instants count sets old whole → WalkGoesOn epochs tick old walk
    → slice_get epochs (walk.place + 1) ≡ Some later → All (λ (x : PlannedSet). x.pts < later.start) sets
All-below epochs refresh profile instants count sets old walk whole tick later plain have (inr stays) found =
    have.before_next later (ap (λ (x : EpochWalk). slice_get epochs (x.place + 1)) (sym stays.same) ∙ found)
All-below epochs refresh profile instants count sets old walk whole tick later plain have (inl enters) found =
    let place = enters.place in
    let there : slice_get epochs (old.place + 1 + 1) ≡ Some later =
    ap (λ (k : ℕ). slice_get epochs (k + 1)) (sym place) ∙ found in
    let short = slice_get_within epochs (old.place + 1 + 1) later there in
    let far = plain.rise (old.place + 1) (old.place + 1 + 1) later (omega arith) short in
    let first = get_or_from_slice_get epochs (old.place + 1) enters.next later enters.there in
    let second = get_or_from_slice_get epochs (old.place + 1 + 1) later later there in
    let less : enters.next.start < later.start =
    subst (λ (x : Epoch). enters.next.start < x.start) second
    (subst (λ (x : Epoch). x.start < (get_or epochs (old.place + 1 + 1) later).start) first far) in
    All-weaker (λ (x : PlannedSet). x.pts < enters.next.start) (λ (x : PlannedSet). x.pts < later.start)
    (λ x below. omega arith) sets (have.before_next enters.next enters.there)

pub HavePlanned-more : (epochs : List Epoch) (refresh : ℕ) (profile : Profile) (instants : List Instant) (count : ℕ)
    (sets : List PlannedSet) (instant : Instant) (old walk : EpochWalk) (whole next : ℕ) (state : State)
    (step : EpochStep) (pixels : ℕ) (b : Bool) →
    IsPlain epochs refresh → AreRecordedInstants epochs refresh instants
    → HavePlanned epochs refresh profile instants count sets old whole → count < length instants
    → instant ≡ get_or instants count instant → WalkGoesOn epochs instant.tick old walk →
    (made : IsMade epochs refresh instants count sets instant walk whole state step)
    → pixels ≡ pixel_need made.ready.stands.epoch.regions → pixels ≤ profile.pixels
    → step.nodes ≤ profile.nodes →
    is_entry_state state ≡ b → next ≡ cond b instant.tick whole →
    HavePlanned epochs refresh profile instants (count + 1) (sets ++ step.set ∷ [])
    (record { place = walk.place; layout = walk.layout; current = step.current }) next
HavePlanned-more epochs refresh profile instants count sets instant old walk whole next state step pixels b plain steps
    have h r goes made is enough fits w n =
    let set = step.set in
    let ready = made.ready in
    let epoch = ready.stands.epoch in
    let long = length-map instants (λ (x : Instant). x.tick) in
    let here : get_or (instant_ticks instants) count 0 ≡ instant.tick =
    get_or-map (λ (x : Instant). x.tick) instants count instant 0 h ∙ ap (λ (x : Instant). x.tick) (sym r) in
    let is_instant = subst (λ (t : ℕ). IsInstant epochs refresh t) here (steps.ticks.each count 0 (omega arith)) in
    let low = below_34 epochs refresh instant.tick plain.early is_instant in
    let started = ready.at.started in
    let t : nat_le epoch.start set.pts ≡ true = let p = made.set_of.pts in grind (arith, nat_tests) in
    record {
      count_is = length_push sets set ∙ ap (λ (k : ℕ). k + 1) have.count_is;
      times =
          map_push (λ (x : PlannedSet). x.pts) sets set ∙ ap (λ (xs : List ℕ). xs ++ set.pts ∷ []) have.times
          ∙ ap (λ (k : ℕ). take count (instant_ticks instants) ++ k ∷ []) (made.set_of.pts ∙ sym here)
          ∙ sym (take_more (instant_ticks instants) count 0 (omega arith));
      rows =
          λ k d e inside. rows_by sets set instants count k d e have.count_is have.rows
          (made.set_of.row ∙ ap (λ (x : Instant). x.row) (r ∙ get_or_default instants count instant e h))
          (grind arith);
      each =
          Stands-push (IsNextSet epochs refresh) sets set have.each
          (next_made epochs refresh profile instants count sets instant old walk whole state step steps have h r made);
      fit =
          Stands-push (Fits epochs profile) sets set have.fit
          (record {
            pixels = pixels;
            nodes = step.nodes;
            needs = needs_made epochs refresh instants count sets instant
                walk whole state step pixels made is;
            has_pixels = enough;
            has_nodes = fits;
          });
      seen = instant.tick ∷ ready.seen;
      stands =
          record {
            epoch = epoch;
            found = ready.stands.found;
            layout = ready.stands.layout;
            current = made.advanced.current;
            safe = made.safe;
          };
      seen_is =
          ap (λ (k : ℕ). k ∷ ready.seen) (sym made.set_of.pts)
          ∙ ap (λ (xs : List ℕ). set.pts ∷ xs) ready.seen_is
          ∙ sym (ap (λ (xs : List PlannedSet). take_while (nat_le epoch.start) (map (λ (x : PlannedSet). x.pts) xs))
          (reverse_more sets set)
          ∙ take_while-cons (nat_le epoch.start) set.pts (map (λ (x : PlannedSet). x.pts) (reverse sets))
          ∙ ap (λ (c : Bool). cond c
          (set.pts ∷ take_while (nat_le epoch.start) (map (λ (x : PlannedSet). x.pts) (reverse sets))) []) t);
      before_next = λ later found.
          All-push (λ (x : PlannedSet). x.pts < later.start) sets set
          (All-below epochs refresh profile instants count sets old walk whole instant.tick later plain have goes
          found)
          (let less = ready.at.last (walk.place + 1) later (omega arith) found in let p = made.set_of.pts in omega
          arith);
      none = λ first. cc;
      whole_is = λ first.
          subst (λ (xs : List PlannedSet). (other : PlannedSet) × (last_entry xs ≡ Some other)
          × (other.pts ≡ next)) (sym (reverse_more sets set))
          (whole_after (reverse sets) set state (is_first ready.seen) whole instant.tick next b w made.set_of.state_is
          made.set_of.pts n
          (λ no. sym ready.stands.current.first
          ∙ not_started walk.current.first instant.named (nat_le (whole + refresh) instant.tick) state
          made.state_by (w ∙ no)) ready.whole_is);
      small = small_next b instant.tick whole next n (omega arith) have.small;
    }

-- ---- what a step of the walk gives

pub same_epoch : {epochs : List Epoch} {refresh : ℕ} {instants : List Instant} {count : ℕ} {sets : List
    PlannedSet} {instant : Instant} {walk : EpochWalk} {whole : ℕ}
    (ready : IsReady epochs refresh instants count sets instant walk whole) (epoch : Epoch) →
    epoch ≡ get_or epochs walk.place epoch → epoch ≡ ready.stands.epoch
same_epoch {epochs} {refresh} {instants} {count} {sets} {instant} {walk} {whole} ready epoch is =
    is ∙ get_or_from_slice_get epochs walk.place ready.stands.epoch epoch ready.stands.found

pub place_within : {epochs : List Epoch} {refresh : ℕ} {instants : List Instant} {count : ℕ} {sets : List
    PlannedSet} {instant : Instant} {walk : EpochWalk} {whole : ℕ}
    (ready : IsReady epochs refresh instants count sets instant walk whole) → walk.place < length epochs
place_within {epochs} {refresh} {instants} {count} {sets} {instant} {walk} {whole} ready =
    slice_get_within epochs walk.place ready.stands.epoch ready.stands.found

pub small_at : {epochs : List Epoch} {refresh : ℕ} {instants : List Instant} {count : ℕ} {sets : List
    PlannedSet} {instant : Instant} {walk : EpochWalk} {whole : ℕ}
    (ready : IsReady epochs refresh instants count sets instant walk whole) (epoch : Epoch) →
    IsPlain epochs refresh → epoch ≡ get_or epochs walk.place epoch → IsSmallEpoch epoch
small_at {epochs} {refresh} {instants} {count} {sets} {instant} {walk} {whole} ready epoch plain is =
    subst IsSmallEpoch (sym is) (plain.small walk.place epoch (place_within ready))

pub layout_at : {epochs : List Epoch} {refresh : ℕ} {instants : List Instant} {count : ℕ} {sets : List
    PlannedSet} {instant : Instant} {walk : EpochWalk} {whole : ℕ}
    (ready : IsReady epochs refresh instants count sets instant walk whole) (epoch : Epoch) →
    epoch ≡ get_or epochs walk.place epoch → IsLayout epoch walk.layout
layout_at {epochs} {refresh} {instants} {count} {sets} {instant} {walk} {whole} ready epoch is =
    subst (λ (x : Epoch). IsLayout x walk.layout) (sym (same_epoch ready epoch is)) ready.stands.layout

pub made_from : {epochs : List Epoch} {refresh : ℕ} {instants : List Instant} {count : ℕ} {sets : List
    PlannedSet} {instant : Instant} {walk : EpochWalk} {whole : ℕ}
    (ready : IsReady epochs refresh instants count sets instant walk whole) (epoch : Epoch) (state : State)
    (step : EpochStep) →
    epoch ≡ get_or epochs walk.place epoch
    → state ≡ state_of walk.current.first instant.named (nat_le (whole + refresh) instant.tick)
    → IsSetOf (head_at sets instant walk state) step.set →
    ((seen : List ℕ) → IsEpochState epoch walk.layout seen walk.current → IsTimely epoch.start seen instant.tick
    → IsAdvanced epoch walk.layout seen instant.tick state step) →
    IsSafe walk.layout step.current → IsMade epochs refresh instants count sets instant walk whole state step
made_from {epochs} {refresh} {instants} {count} {sets} {instant} {walk} {whole} ready epoch state step is by set_of
    advances safe =
    let same = same_epoch ready epoch is in
    record {
      ready = ready;
      state_by = by;
      set_of = set_of;
      advanced = subst (λ (x : Epoch). IsAdvanced x walk.layout ready.seen instant.tick state step) same
          (advances ready.seen
          (subst (λ (x : Epoch). IsEpochState x walk.layout ready.seen walk.current) (sym same)
          ready.stands.current)
          (subst (λ (x : Epoch). IsTimely x.start ready.seen instant.tick) (sym same) ready.timely));
      safe = safe;
    }

-- the cause of a refusal
pub cause_of : (epochs : List Epoch) (refresh : ℕ) (profile : Profile) (row pixels nodes : ℕ) (fault : PlanFault)
    → IsFirstUnheld epochs refresh profile row pixels nodes → IsNeedFault profile pixels nodes row fault →
    IsSetCause epochs refresh profile fault
cause_of epochs refresh profile row pixels nodes Memory unheld is = tt
cause_of epochs refresh profile row pixels nodes (DisplayTooLarge other) unheld is = is
cause_of epochs refresh profile row pixels nodes (PixelFull other need) unheld is = record {
  nodes = nodes;
  unheld =
      subst (λ (r : ℕ). IsFirstUnheld epochs refresh profile r need nodes) (sym is.0)
      (subst (λ (n : ℕ). IsFirstUnheld epochs refresh profile row n nodes) (sym is.1) unheld);
  full = is.2;
}
cause_of epochs refresh profile row pixels nodes (CompositionFull other need) unheld is = record {
  pixels = pixels;
  unheld =
      subst (λ (r : ℕ). IsFirstUnheld epochs refresh profile r pixels need) (sym is.0)
      (subst (λ (n : ℕ). IsFirstUnheld epochs refresh profile row pixels n) (sym is.1) unheld);
  held = is.2;
  full = is.3;
}
