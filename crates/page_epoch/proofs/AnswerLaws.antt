-- A plan and a fault exclude each other, and there is one fault: what is planned up to an instant is determined, as far
-- as a receiver's needs go.
use Rattle.std.proofs.Common.{◌≡◌, ◌≢◌, ◌∙◌, ◌⊎◌, inl, inr, refl, sym, ap, subst, ℕ, zero, suc, ◌+◌, ◌<◌, ◌≤◌, nat_le, Bool, true, false, cond, List, [], ◌∷◌, length, map, filter, reverse, take, get_or, Option, Some, option_map, arith, Result, Ok, Err, IfOk, IfErr}
use Rattle.std.specs.Prelude.{slice_get, ⊤}
use Rattle.std.specs.List.{flat_map, Contains, take_while}
use Rattle.std.specs.List.Sorted.{IsStrictlyIncreasing}
use Rattle.std.proofs.lemmas.List.{length-map, length-reverse, length-take-le, get_or-take, get_or_default, take_all, take_more, reverse-append}
use Rattle.std.proofs.lemmas.List.Elements.{All-contains}
use Rattle.std.proofs.lemmas.List.Sorted.{sum_by-IsPermutation}
use Rattle.std.proofs.lemmas.List.Sums.{length-filter}
use Rattle.std.proofs.lemmas.Option.{get_or_from_slice_get, slice_get-get_or, slice_get-map, slice_get_within}
use Rattle.sub_base.specs.declared.profile.Profile.{Profile}
use Rattle.cue_list.specs.declared.epoch.Cue.{Cue}
use Rattle.cue_list.specs.declared.epoch.Epoch.{Epoch}
use Rattle.cue_records.specs.declared.region.Region.{Region}
use Rattle.cue_list.specs.declared.script.Script.{Script}
use Rattle.page_epoch.specs.declared.fault.PlanFault.{PlanFault}
use Rattle.page_epoch.specs.declared.fault.PlanFault.TheVariants.{Memory, DisplayTooLarge, PixelFull, CompositionFull}
use Rattle.page_epoch.specs.declared.plan.Plan.{Plan}
use Rattle.page_epoch.specs.declared.planned_set.PlannedSet.{PlannedSet}
use Rattle.page_epoch.specs.declared.events.Event.{Event}
use Rattle.page_epoch.specs.Instants.{is_named, AreInstants, IsInstant}
use Rattle.sub_base.specs.Lists.{has_some}
use Rattle.page_epoch.specs.Live.{live_places}
use Rattle.page_epoch.specs.Needs.{pixel_need, node_need}
use Rattle.page_epoch.specs.Plan.{IsEpochAt, IsBringingRecord, IsRowBefore, IsNextSet, Needs, Fits, AreFirstSets, ArePlanned, HasDisplay, IsPlan}
use Rattle.page_epoch.specs.Refusals.{IsPlanCause, IsFirstUnheld, AnswersPlanFault}
use Rattle.page_epoch.specs.Rows.{event, events_of, IsLeastRow}
use Rattle.page_epoch.specs.SentRegions.{AreShown}
use Rattle.page_epoch.proofs.InstantLaws.{in_order}
use Rattle.page_epoch.proofs.PlanLaws.{reverse_more}

-- ---- rising lists with the same numbers

cons_cases : (x : ℕ) (xs : List ℕ) (z : ℕ) → Contains (x ∷ xs) z → (x ≡ z) ⊎ Contains xs z
cons_cases x xs z (zero, short, e) = inl e
cons_cases x xs z (suc k, short, e) = inr (k, omega arith, e)

cons_more : (x : ℕ) (xs : List ℕ) (z : ℕ) → Contains xs z → Contains (x ∷ xs) z
cons_more x xs z (k, short, e) = (suc k, omega arith, e)

rise_tail : (x : ℕ) (xs : List ℕ) → IsStrictlyIncreasing (x ∷ xs) → IsStrictlyIncreasing xs
rise_tail x xs rise k short =
    let step_on : suc k + 1 ≡ suc (k + 1) = omega arith in
    subst (λ (m : ℕ). get_or (x ∷ xs) (suc k) 0 < get_or (x ∷ xs) m 0) step_on (rise (suc k) (omega arith))

-- the first is less than all others
above : (x : ℕ) (xs : List ℕ) (z : ℕ) → IsStrictlyIncreasing (x ∷ xs) → Contains xs z → x < z
above x xs z rise (k, short, e) =
    let first : x < get_or xs 0 0 = rise 0 (omega arith) in
    let later = in_order xs 0 k (rise_tail x xs rise) (omega arith) short in
    let same = get_or_default xs k z 0 short in
    omega (arith, first, later, same, e)

same_head : (x y : ℕ) (xs ys : List ℕ) → IsStrictlyIncreasing (x ∷ xs) → IsStrictlyIncreasing (y ∷ ys)
    → Contains (x ∷ xs) y → Contains (y ∷ ys) x → x ≡ y
same_head x y xs ys first second there back =
    elim (cons_cases x xs y there) [
      | inl e ↦ e
      | inr more ↦ elim (cons_cases y ys x back) [
        | inl e ↦ sym e
        | inr less ↦ absurd (omega (arith, above x xs y first more, above y ys x second less))
      ]
    ]

-- what stands in both lists stands in their tails
in_tail : (x y : ℕ) (xs ys : List ℕ) (z : ℕ) → IsStrictlyIncreasing (x ∷ xs) → x ≡ y → Contains xs z
    → Contains (y ∷ ys) z → Contains ys z
in_tail x y xs ys z rise same own there =
    elim (cons_cases y ys z there) [
      | inl e ↦ absurd (omega (arith, above x xs z rise own, same, e))
      | inr more ↦ more
    ]

pub same_rising : (xs ys : List ℕ) → IsStrictlyIncreasing xs → IsStrictlyIncreasing ys
    → ((z : ℕ) → Contains xs z → Contains ys z) → ((z : ℕ) → Contains ys z → Contains xs z)
    → xs ≡ ys
same_rising [] [] first second there back = refl
same_rising [] (y ∷ ys) first second there back =
    absurd (let (k, short, e) = back y (0, omega arith, refl) in omega arith)
same_rising (x ∷ xs) [] first second there back =
    absurd (let (k, short, e) = there x (0, omega arith, refl) in omega arith)
same_rising (x ∷ xs) (y ∷ ys) first second there back =
    let head = same_head x y xs ys first second (back y (0, omega arith, refl)) (there x (0, omega arith, refl)) in
    let tail = same_rising xs ys (rise_tail x xs first) (rise_tail y ys second)
    (λ z own. in_tail x y xs ys z first head own (there z (cons_more x xs z own)))
    (λ z own. in_tail y x ys xs z second (sym head) own (back z (cons_more y ys z own))) in
    cc (head, tail)

-- a script has one list of instants
pub same_instants : (epochs : List Epoch) (refresh : ℕ) (one other : List ℕ) → AreInstants epochs refresh one
    → AreInstants epochs refresh other → one ≡ other
same_instants epochs refresh one other first second =
    same_rising one other first.rise second.rise
    (λ z own. second.all z (All-contains (IsInstant epochs refresh) one z first.each own))
    (λ z own. first.all z (All-contains (IsInstant epochs refresh) other z second.each own))

-- ---- what a set has of the script alone

pub some_same : {A : Type 0} (x y : A) (found : Option A) → found ≡ Some x → found ≡ Some y → x ≡ y
some_same x y found first second = let same : Some x ≡ Some y = sym first ∙ second in cc

apart_or_same : (a b : ℕ) → (a < b) ⊎ ((b < a) ⊎ (a ≡ b))
apart_or_same a b = grind arith

pub one_place : (epochs : List Epoch) (tick p q : ℕ) (e f : Epoch) → IsEpochAt epochs tick p e
    → IsEpochAt epochs tick q f → p ≡ q
one_place epochs tick p q e f first second =
    elim (apart_or_same p q) [
      | inl less ↦ absurd (omega (arith, first.last q f less second.found, second.started))
      | inr (inl more) ↦ absurd (omega (arith, second.last p e more first.found, first.started))
      | inr (inr same) ↦ same
    ]

one_least : (events : List Event) (tick a b : ℕ) → IsLeastRow events tick a → IsLeastRow events tick b → a ≡ b
one_least events tick a b first second =
    let below =
    All-contains (λ (other : Event). other.tick ≡ tick → a ≤ other.row) events (event tick b) first.least
    second.among refl in
    let above_it =
    All-contains (λ (other : Event). other.tick ≡ tick → b ≤ other.row) events (event tick a) second.least
    first.among refl in
    omega (arith, below, above_it)

row_before : (a b : List PlannedSet) (r s : ℕ) → map (λ set. set.row) a ≡ map (λ set. set.row) b
    → IsRowBefore a r → IsRowBefore b s → r ≡ s
row_before [] b r s same first second = absurd first
row_before (x ∷ xs) [] r s same first second = absurd second
row_before (x ∷ xs) (y ∷ ys) r s same first second =
    let whole : x.row ∷ map (λ (set : PlannedSet). set.row) xs ≡ y.row
    ∷ map (λ (set : PlannedSet). set.row) ys =
    same in
    let heads : x.row ≡ y.row = cc in
    omega (arith, first, second, heads)

one_row_by : (epochs : List Epoch) (tick : ℕ) (a b : List PlannedSet) (r s : ℕ) (named : Bool)
    → is_named epochs tick ≡ named →
    map (λ set. set.row) a ≡ map (λ set. set.row) b → IsBringingRecord epochs a tick r
    → IsBringingRecord epochs b tick s → r ≡ s
one_row_by epochs tick a b r s true e same first second =
    one_least (flat_map events_of epochs) tick r s (first.of_named e) (second.of_named e)
one_row_by epochs tick a b r s false e same first second =
    row_before a b r s same (first.of_refresh e) (second.of_refresh e)

pub one_row : (epochs : List Epoch) (tick time : ℕ) (a b : List PlannedSet) (r s : ℕ) → tick ≡ time →
    map (λ set. set.row) a ≡ map (λ set. set.row) b → IsBringingRecord epochs a tick r
    → IsBringingRecord epochs b time s → r ≡ s
one_row epochs tick time a b r s at same first second =
    let Row : ℕ → Type 0 = λ t. IsBringingRecord epochs b t s in
    one_row_by epochs tick a b r s (is_named epochs tick) refl same first (subst Row (sym at) second)

-- as many regions have a live cue, in whatever order they are shown
shown_count : (cues : List Cue) (regions : List Region) (tick : ℕ) (shown : List ℕ)
    → AreShown cues regions tick shown →
    length shown ≡ length (filter (λ region. has_some (live_places cues region.id tick)) regions)
shown_count cues regions tick shown are =
    let live : Region → Bool = λ region. has_some (live_places cues region.id tick) in
    ap length are.is ∙ length-map (filter live are.by_y) (λ (region : Region). region.id)
    ∙ length-filter live are.by_y
    ∙ sum_by-IsPermutation (λ (region : Region). cond {A = ℕ} (live region) 1 0) regions are.by_y are.ordered.same
    ∙ sym (length-filter live regions)

-- ---- the sets before an instant, the latest first

abbrev pub IsPast : List Epoch → ℕ → List ℕ → List PlannedSet → Type 0
IsPast epochs refresh instants [] = ⊤
IsPast epochs refresh instants (set ∷ earlier) =
    IsNextSet epochs refresh earlier set × (slice_get instants (length earlier) ≡ Some set.pts)
    × IsPast epochs refresh instants earlier

record AreSame (a b : List PlannedSet) : Type 0 where
  times : map (λ set. set.pts) a ≡ map (λ set. set.pts) b
  rows : map (λ set. set.row) a ≡ map (λ set. set.row) b

pub same_time : (instants : List ℕ) (m n : ℕ) (s t : PlannedSet) → m ≡ n → slice_get instants m ≡ Some s.pts
    → slice_get instants n ≡ Some t.pts → s.pts ≡ t.pts
same_time instants m n s t same first second =
    some_same s.pts t.pts (slice_get instants m) first (ap (slice_get instants) same ∙ second)

same_past : (epochs : List Epoch) (refresh : ℕ) (instants : List ℕ) (a b : List PlannedSet)
    → IsPast epochs refresh instants a → IsPast epochs refresh instants b →
    length a ≡ length b → AreSame a b
same_past epochs refresh instants [] [] first second count = record { times = refl; rows = refl }
same_past epochs refresh instants [] (t ∷ b) first second count = absurd (omega arith)
same_past epochs refresh instants (s ∷ a) [] first second count = absurd (omega arith)
same_past epochs refresh instants (s ∷ a) (t ∷ b) first second count =
    let shorter : length a ≡ length b = omega arith in
    let before = same_past epochs refresh instants a b first.2 second.2 shorter in
    let time = same_time instants (length a) (length b) s t shorter first.1 second.1 in
    let row = one_row epochs s.pts t.pts a b s.row t.row time before.rows first.0.row second.0.row in
    record {
      times = λ i. time i ∷ before.times i;
      rows = λ i. row i ∷ before.rows i;
    }

-- the nodes of a set of an epoch
nodes_of : Epoch → List ℕ → ℕ → ℕ → ℕ
nodes_of epoch times tick shown = node_need epoch (tick ∷ take_while (nat_le epoch.start) times) shown

record AreSameNeeds (pixels more nodes others : ℕ) : Type 0 where
  of_pixels : pixels ≡ more
  of_nodes : nodes ≡ others

-- sets of the same instant need the same of a receiver
same_needs : (epochs : List Epoch) (refresh : ℕ) (a b : List PlannedSet) (s t : PlannedSet)
    (pixels more nodes others : ℕ) → AreSame a b → s.pts ≡ t.pts →
    IsNextSet epochs refresh a s → IsNextSet epochs refresh b t → Needs epochs a s pixels nodes
    → Needs epochs b t more others → AreSameNeeds pixels more nodes others
unfolding nodes_of
same_needs epochs refresh a b s t pixels more nodes others same time first second needs again =
    let At : ℕ → Type 0 = λ tick. IsEpochAt epochs tick t.epoch second.epoch in
    let place : s.epoch ≡ t.epoch =
    one_place epochs s.pts s.epoch t.epoch first.epoch second.epoch first.place (subst At (sym time) second.place)
    in
    let own = some_same first.epoch needs.epoch (slice_get epochs s.epoch) first.place.found needs.found in
    let others_own = some_same second.epoch again.epoch (slice_get epochs t.epoch) second.place.found again.found in
    let epoch : needs.epoch ≡ again.epoch =
    some_same needs.epoch again.epoch (slice_get epochs s.epoch) needs.found
    (ap (slice_get epochs) place ∙ again.found) in
    let live : Epoch → ℕ
    → ℕ = λ e tick. length
    (filter (λ (region : Region). has_some (live_places e.cues region.id tick)) e.regions) in
    let shown_first : length s.shown ≡ live needs.epoch s.pts =
    shown_count first.epoch.cues first.epoch.regions s.pts s.shown first.carried.shown
    ∙ ap (λ (e : Epoch). live e s.pts) own in
    let shown_second : length t.shown ≡ live again.epoch t.pts =
    shown_count second.epoch.cues second.epoch.regions t.pts t.shown second.carried.shown
    ∙ ap (λ (e : Epoch). live e t.pts) others_own in
    let shown : length s.shown ≡ length t.shown =
    shown_first ∙ (λ i. live (epoch i) (time i)) ∙ sym shown_second in
    record {
      of_pixels = needs.pixels_are ∙ ap (λ (e : Epoch). pixel_need e.regions) epoch ∙ sym again.pixels_are;
      of_nodes =
          needs.nodes_are ∙ (λ i. nodes_of (epoch i) (same.times i) (time i) (shown i)) ∙ sym again.nodes_are;
    }

-- ---- sets as a list

-- the set at a place of a list of first sets
record IsSetAt (epochs : List Epoch) (refresh : ℕ) (profile : Profile) (instants : List ℕ) (past : List PlannedSet)
    (n : ℕ) : Type 0 where
  set : PlannedSet
  next : IsNextSet epochs refresh past set
  fits : Fits epochs profile past set
  time : slice_get instants n ≡ Some set.pts

set_at : (epochs : List Epoch) (refresh : ℕ) (profile : Profile) (instants : List ℕ) (sets : List PlannedSet)
    (n : ℕ) (other : PlannedSet) →
    AreFirstSets epochs refresh profile instants sets → n < length sets
    → IsSetAt epochs refresh profile instants (reverse (take n sets)) n
set_at epochs refresh profile instants sets n other are short =
    let set = get_or sets n other in
    let found = slice_get-get_or sets n other short in
    let times : get_or (map (λ (set : PlannedSet). set.pts) sets) n 0 ≡ set.pts =
    get_or_from_slice_get (map (λ (set : PlannedSet). set.pts) sets) n set.pts 0
    (slice_get-map (λ (set : PlannedSet). set.pts) sets n ∙ ap (option_map (λ (set : PlannedSet). set.pts)) found)
    in
    let in_front : get_or (take (length sets) instants) n 0 ≡ get_or instants n 0 =
    get_or-take (length sets) instants n 0 short in
    let here : get_or instants n 0 ≡ set.pts =
    sym in_front ∙ sym (ap (λ (ticks : List ℕ). get_or ticks n 0) are.times) ∙ times in
    record {
      set = set;
      next = are.each n set found;
      fits = are.fit n set found;
      time = slice_get-get_or instants n 0 (omega (arith, short, are.few)) ∙ ap (λ (tick : ℕ). Some tick) here;
    }

pub past_of : (epochs : List Epoch) (refresh : ℕ) (profile : Profile) (instants : List ℕ) (sets : List PlannedSet)
    (n : ℕ) (other : PlannedSet) →
    AreFirstSets epochs refresh profile instants sets → n ≤ length sets
    → IsPast epochs refresh instants (reverse (take n sets))
unfolding set_at
past_of epochs refresh profile instants sets zero other are short = tt
past_of epochs refresh profile instants sets (suc n) other are short =
    let set = get_or sets n other in
    let found = slice_get-get_or sets n other (omega arith) in
    let at = set_at epochs refresh profile instants sets n other are (omega arith) in
    let one : suc n ≡ n + 1 = omega arith in
    let more : reverse (take (suc n) sets) ≡ set ∷ reverse (take n sets) =
    ap (λ (k : ℕ). reverse (take k sets)) one ∙ ap reverse (take_more sets n other (omega arith))
    ∙ reverse_more (take n sets) set in
    let count : length (reverse (take n sets)) ≡ n =
    length-reverse (take n sets) ∙ length-take-le n sets (omega arith) in
    subst (IsPast epochs refresh instants) (sym more) (
      are.each n set found,
      ap (slice_get instants) count ∙ at.time,
      past_of epochs refresh profile instants sets n other are (omega arith),
    )

-- ---- sets that are not held

-- a set that is not held, behind those that are
record IsUnheldAt (epochs : List Epoch) (refresh : ℕ) (instants : List ℕ) (past : List PlannedSet)
    (row pixels nodes : ℕ) : Type 0 where
  set : PlannedSet
  next : IsNextSet epochs refresh past set
  time : slice_get instants (length past) ≡ Some set.pts
  is_row : row ≡ set.row
  needs : Needs epochs past set pixels nodes
  earlier : IsPast epochs refresh instants past

unheld_at : (epochs : List Epoch) (refresh : ℕ) (profile : Profile) (row pixels nodes : ℕ)
    (unheld : IsFirstUnheld epochs refresh profile row pixels nodes) →
    IsUnheldAt epochs refresh unheld.instants (reverse unheld.before) row pixels nodes
unheld_at epochs refresh profile row pixels nodes unheld =
    let whole : take (length unheld.before) unheld.before ≡ unheld.before =
    take_all (length unheld.before) unheld.before (omega arith) in
    let Past : List PlannedSet → Type 0 = λ sets. IsPast epochs refresh unheld.instants (reverse sets) in
    record {
      set = unheld.set;
      next = unheld.next;
      time = ap (slice_get unheld.instants) (length-reverse unheld.before) ∙ unheld.time;
      is_row = unheld.is_row;
      needs = unheld.needs;
      earlier =
          subst Past whole
          (past_of epochs refresh profile unheld.instants unheld.before (length unheld.before) unheld.set unheld.first
          (omega arith));
    }

-- where a receiver holds more sets than there are before a set, it holds this one
holds : (epochs : List Epoch) (refresh : ℕ) (profile : Profile) (row pixels nodes : ℕ)
    (unheld : IsFirstUnheld epochs refresh profile row pixels nodes)
    (instants : List ℕ) (sets : List PlannedSet) → AreInstants epochs refresh instants
    → AreFirstSets epochs refresh profile instants sets → length unheld.before < length sets →
    (pixels ≤ profile.pixels) × (nodes ≤ profile.nodes)
holds epochs refresh profile row pixels nodes unheld instants sets are first less =
    let n = length unheld.before in
    let ticks : unheld.instants ≡ instants =
    same_instants epochs refresh unheld.instants instants unheld.are_instants are in
    let at = unheld_at epochs refresh profile row pixels nodes unheld in
    let held = set_at epochs refresh profile instants sets n unheld.set first less in
    let Past : List ℕ → Type 0 = λ ticks. IsPast epochs refresh ticks (reverse unheld.before) in
    let count : length (reverse unheld.before) ≡ length (reverse (take n sets)) =
    length-reverse unheld.before ∙ sym (length-reverse (take n sets) ∙ length-take-le n sets (omega arith)) in
    let same =
    same_past epochs refresh instants (reverse unheld.before) (reverse (take n sets)) (subst Past ticks at.earlier)
    (past_of epochs refresh profile instants sets n unheld.set first (omega arith)) count in
    let time =
    some_same unheld.set.pts held.set.pts (slice_get instants n)
    (ap (λ (ticks : List ℕ). slice_get ticks n) (sym ticks) ∙ unheld.time) held.time in
    let needs =
    same_needs epochs refresh (reverse unheld.before) (reverse (take n sets)) unheld.set held.set pixels
    held.fits.pixels nodes held.fits.nodes same time
    unheld.next held.next unheld.needs held.fits.needs in
    (omega (arith, needs.of_pixels, held.fits.has_pixels), omega (arith, needs.of_nodes, held.fits.has_nodes))

record AreSameFaults (row place pixels more nodes others : ℕ) : Type 0 where
  of_row : row ≡ place
  needs : AreSameNeeds pixels more nodes others

-- two sets that are not held, behind as many that are, are of the same record and need the same
same_unheld : (epochs : List Epoch) (refresh : ℕ) (profile : Profile) (row place pixels more nodes others : ℕ)
    (one : IsFirstUnheld epochs refresh profile row pixels nodes)
    (other : IsFirstUnheld epochs refresh profile place more others) →
    length one.before ≡ length other.before → AreSameFaults row place pixels more nodes others
same_unheld epochs refresh profile row place pixels more nodes others one other count =
    let ticks : one.instants ≡ other.instants =
    same_instants epochs refresh one.instants other.instants one.are_instants other.are_instants in
    let first = unheld_at epochs refresh profile row pixels nodes one in
    let second = unheld_at epochs refresh profile place more others other in
    let Past : List ℕ → Type 0 = λ ticks. IsPast epochs refresh ticks (reverse one.before) in
    let same =
    same_past epochs refresh other.instants (reverse one.before) (reverse other.before)
    (subst Past ticks first.earlier) second.earlier
    (length-reverse one.before ∙ count ∙ sym (length-reverse other.before)) in
    let time = same_time other.instants (length one.before) (length other.before) one.set other.set count
    (ap (λ (ticks : List ℕ). slice_get ticks (length one.before)) (sym ticks) ∙ one.time) other.time in
    let row_is =
    one_row epochs one.set.pts other.set.pts (reverse one.before) (reverse other.before) one.set.row other.set.row
    time same.rows one.next.row other.next.row in
    record {
      of_row = one.is_row ∙ row_is ∙ sym other.is_row;
      needs =
          same_needs epochs refresh (reverse one.before) (reverse other.before) one.set other.set pixels more nodes
          others same time one.next other.next one.needs other.needs;
    }

-- ---- faults

-- a profile has not what a set needs
abbrev IsOver : Profile → ℕ → ℕ → Type 0
IsOver profile pixels nodes = (profile.pixels < pixels) ⊎ (profile.nodes < nodes)

not_both : (profile : Profile) (pixels nodes : ℕ) → IsOver profile pixels nodes → (pixels ≤ profile.pixels)
    × (nodes ≤ profile.nodes) → ⊥
not_both profile pixels nodes (inl over) (few, held) = absurd (omega arith)
not_both profile pixels nodes (inr over) (few, held) = absurd (omega arith)

-- two sets that are not held are the same
one_unheld : (epochs : List Epoch) (refresh : ℕ) (profile : Profile) (row place pixels more nodes others : ℕ) →
    IsFirstUnheld epochs refresh profile row pixels nodes → IsFirstUnheld epochs refresh profile place more others
    → IsOver profile pixels nodes → IsOver profile more others →
    AreSameFaults row place pixels more nodes others
one_unheld epochs refresh profile row place pixels more nodes others one other over also =
    elim (apart_or_same (length one.before) (length other.before)) [
      | inl less ↦ absurd
          (not_both profile pixels nodes over
          (holds epochs refresh profile row pixels nodes one other.instants other.before other.are_instants other.first
          less))
      | inr (inl less) ↦ absurd
          (not_both profile more others also
          (holds epochs refresh profile place more others other one.instants one.before one.are_instants one.first
          less))
      | inr (inr same) ↦ same_unheld epochs refresh profile row place pixels more nodes others one other same
    ]

-- a script whose sets are all held has none that is not
all_held : (epochs : List Epoch) (refresh : ℕ) (profile : Profile) (sets : List PlannedSet) (row pixels nodes : ℕ)
    → ArePlanned epochs refresh profile sets →
    IsFirstUnheld epochs refresh profile row pixels nodes → IsOver profile pixels nodes → ⊥
all_held epochs refresh profile sets row pixels nodes planned unheld over =
    let ticks : unheld.instants ≡ planned.instants =
    same_instants epochs refresh unheld.instants planned.instants unheld.are_instants planned.are_instants in
    let among = slice_get_within unheld.instants (length unheld.before) unheld.set.pts unheld.time in
    not_both profile pixels nodes over
    (holds epochs refresh profile row pixels nodes unheld planned.instants sets planned.are_instants planned.first
    (omega (arith, among, planned.all, ap length ticks)))

large_or_held : (script : Script) (profile : Profile) → HasDisplay script.width script.height profile
    → (profile.width < script.width) ⊎ (profile.height < script.height) → ⊥
large_or_held script profile display (inl wide) = absurd (omega (arith, display.across))
large_or_held script profile display (inr high) = absurd (omega (arith, display.down))

pub plan_or_fault : (script : Script) (profile : Profile) (sets : List PlannedSet) (fault : PlanFault)
    → IsPlan script profile sets → IsPlanCause script profile fault → fault ≢ Memory → ⊥
plan_or_fault script profile sets Memory plan cause other = other refl
plan_or_fault script profile sets (DisplayTooLarge row) plan cause other =
    large_or_held script profile plan.display cause.large
plan_or_fault script profile sets (PixelFull row need) plan cause other =
    all_held script.epochs script.refresh profile sets row need cause.1.nodes plan.planned cause.1.unheld
    (inl cause.1.full)
plan_or_fault script profile sets (CompositionFull row need) plan cause other =
    all_held script.epochs script.refresh profile sets row cause.1.pixels need plan.planned cause.1.unheld
    (inr cause.1.full)

pub one_fault : (script : Script) (profile : Profile) (told fault : PlanFault) → IsPlanCause script profile told
    → IsPlanCause script profile fault → fault ≢ Memory →
    (told ≡ Memory) ⊎ (told ≡ fault)
one_fault script profile told Memory first second other = absurd (other refl)
one_fault script profile Memory fault first second other = inl refl
one_fault script profile (DisplayTooLarge a) (DisplayTooLarge b) first second other =
    inr (cc (first.second, second.second))
one_fault script profile (DisplayTooLarge a) (PixelFull b y) first second other =
    absurd (large_or_held script profile second.0 first.large)
one_fault script profile (DisplayTooLarge a) (CompositionFull b y) first second other =
    absurd (large_or_held script profile second.0 first.large)
one_fault script profile (PixelFull a x) (DisplayTooLarge b) first second other =
    absurd (large_or_held script profile first.0 second.large)
one_fault script profile (PixelFull a x) (PixelFull b y) first second other =
    let one =
    one_unheld script.epochs script.refresh profile a b x y first.1.nodes second.1.nodes first.1.unheld
    second.1.unheld (inl first.1.full) (inl second.1.full) in
    inr (cc (one.of_row, one.needs.of_pixels))
one_fault script profile (PixelFull a x) (CompositionFull b y) first second other =
    let one =
    one_unheld script.epochs script.refresh profile a b x second.1.pixels first.1.nodes y first.1.unheld
    second.1.unheld (inl first.1.full) (inr second.1.full) in
    absurd (omega (arith, one.needs.of_pixels, first.1.full, second.1.held))
one_fault script profile (CompositionFull a x) (DisplayTooLarge b) first second other =
    absurd (large_or_held script profile first.0 second.large)
one_fault script profile (CompositionFull a x) (PixelFull b y) first second other =
    let one =
    one_unheld script.epochs script.refresh profile a b first.1.pixels y x second.1.nodes first.1.unheld
    second.1.unheld (inr first.1.full) (inl second.1.full) in
    absurd (omega (arith, one.needs.of_pixels, second.1.full, first.1.held))
one_fault script profile (CompositionFull a x) (CompositionFull b y) first second other =
    let one =
    one_unheld script.epochs script.refresh profile a b first.1.pixels second.1.pixels x y first.1.unheld
    second.1.unheld (inr first.1.full) (inr second.1.full) in
    inr (cc (one.of_row, one.needs.of_nodes))

-- ---- what is answered

pub every_fault : (script : Script) (profile : Profile) (result : Result Plan PlanFault)
    → IfOk result (λ plan. IsPlan script profile plan.sets) →
    IfErr result (IsPlanCause script profile) → (fault : PlanFault) → IsPlanCause script profile fault
    → fault ≢ Memory → AnswersPlanFault fault result
every_fault script profile (Ok plan) made cause fault is other =
    plan_or_fault script profile plan.sets fault made is other
every_fault script profile (Err told) made cause fault is other = one_fault script profile told fault cause is other
