-- A page that shows something is followed by a set of the plan before its time-out, and between two sets no record
-- names a tick.
use Rattle.std.proofs.Common.{◌≡◌, ◌≢◌, ◌∙◌, ◌⊎◌, inl, inr, ℕ, suc, ◌+◌, ◌*◌, ◌==◌, ◌<◌, ◌≤◌, true, List, [], ◌∷◌, ◌++◌, length, map, filter, reverse, get_or, refl, sym, ap, subst, arith}
use Rattle.std.specs.Prelude.{All}
use Rattle.std.specs.List.{AllPairs, Contains, list_any}
use Rattle.std.proofs.lemmas.Bool.Decides.{nat_tests}
use Rattle.std.proofs.lemmas.List.{map-append}
use Rattle.std.proofs.lemmas.List.Elements.{All-head, All-tail, All-cons, All-contains_itself, Contains-append_right}
use Rattle.std.proofs.lemmas.List.Folds.{list_any_at}
use Rattle.sub_base.specs.declared.profile.Profile.{Profile}
use Rattle.cue_list.specs.Authored.{is_live}
use Rattle.cue_list.specs.Sound.{ticks_of}
use Rattle.cue_list.specs.declared.epoch.Cue.{Cue}
use Rattle.cue_list.specs.declared.epoch.Epoch.{Epoch}
use Rattle.cue_records.specs.declared.region.Region.{Region}
use Rattle.cue_list.specs.declared.script.Script.{Script}
use Rattle.page_epoch.proofs.ListLaws.{All-none, twice_within}
use Rattle.page_epoch.specs.Instants.{named_ticks, shows_cue, AreNeighbours, IsRefresh, IsInstant}
use Rattle.page_epoch.specs.Live.{no_cue, cue_at, own_places, live_places}
use Rattle.page_epoch.specs.Plan.{IsPlan}
use Rattle.page_epoch.specs.SentRegions.{AreShown}
use Rattle.page_epoch.specs.declared.instants.TheConstants.{REFRESH_ROOM}
use Rattle.page_epoch.specs.declared.planned_set.PlannedSet.{PlannedSet}
use Rattle.set_coder.specs.SetSegments.{time_out_of}
use Rattle.shown_plan.proofs.Steps.Fair.{IsFair}
use Rattle.shown_plan.proofs.Segments.Lists.{all_at, kept_pass, piece_there}
use Rattle.shown_plan.proofs.Segments.PlannedSets.{times_of, HasTimes, has_times, IsInEpoch, in_epoch, there_at}
use Rattle.shown_plan.proofs.Pictures.StillPictures.{AreStill, cue_start, cue_end}
use Rattle.sub_base.specs.Lists.{has_some}

-- ---- times of neighbours

-- the set of a plan, with the sets behind it all later than a tick
pub record IsLastBy (sets front back : List PlannedSet) (set : PlannedSet) (tick : ℕ) : Type 0 where
  pub whole : sets ≡ front ++ set ∷ back
  pub come : set.pts ≤ tick
  pub later : All (λ (other : PlannedSet). tick < other.pts) back

-- each time of the plan is by that of the set, or later than the tick
times_apart : (script : Script) (sets front back : List PlannedSet) (set : PlannedSet) (tick : ℕ)
    → HasTimes script sets → IsLastBy sets front back set tick → AreStill set.pts tick (times_of sets)
times_apart script sets front back set tick times last =
    subst (AreStill set.pts tick) (sym parts)
    (by (times_of front) (subst (AllPairs (λ (before later : ℕ). before < later)) parts times.rise))
  where
    parts : times_of sets ≡ times_of front ++ set.pts ∷ times_of back
    parts = ap times_of last.whole ∙ map-append (λ (s : PlannedSet). s.pts) front (set ∷ back)

    behind : (rest : List PlannedSet) → All (λ (other : PlannedSet). tick < other.pts) rest
        → AreStill set.pts tick (times_of rest)
    behind [] later = All-none _
    behind (other ∷ rest) later =
        All-cons (λ time. (time ≤ set.pts) ⊎ (tick < time)) other.pts (times_of rest)
        (inr (All-head (λ (other : PlannedSet). tick < other.pts) other rest later))
        (behind rest (All-tail (λ (other : PlannedSet). tick < other.pts) other rest later))

    by : (before : List ℕ)
        → AllPairs (λ (earlier later : ℕ). earlier < later) (before ++ set.pts ∷ times_of back)
        → AreStill set.pts tick (before ++ set.pts ∷ times_of back)
    by [] rise =
        All-cons (λ time. (time ≤ set.pts) ⊎ (tick < time)) set.pts (times_of back) (inl (omega arith))
        (behind back last.later)
    by (first ∷ before) rise =
        All-cons (λ time. (time ≤ set.pts) ⊎ (tick < time)) first (before ++ set.pts ∷ times_of back)
        (inl (let less = all_at (λ time. first < time) (before ++ set.pts ∷ times_of back) set.pts
        (λ k d within. rise 0 (suc k) d (omega arith) (omega arith))
        (Contains-append_right before (set.pts ∷ times_of back) set.pts (0, omega arith, refl)) in omega
        (arith, less)))
        (by before (λ i j d earlier within. rise (suc i) (suc j) d (omega arith) (omega arith)))

-- between a set and the next no record names a tick
pub named_still : (script : Script) (profile : Profile) (sets front back : List PlannedSet) (set : PlannedSet)
    (tick : ℕ) → IsPlan script profile sets → IsLastBy sets front back set tick
    → AreStill set.pts tick (named_ticks script.epochs)
named_still script profile sets front back set tick plan last k d within =
    all_at (λ time. (time ≤ set.pts) ⊎ (tick < time)) (times_of sets) (get_or (named_ticks script.epochs) k d)
    (times_apart script sets front back set tick times last)
    (times.all (get_or (named_ticks script.epochs) k d)
    (inl (All-contains_itself (named_ticks script.epochs) k d within)))
  where
    times : HasTimes script sets
    times = has_times script profile sets plan.planned

-- ---- a cue that is shown

-- a page that shows something has a live cue
shown_cue : (epoch : Epoch) (tick : ℕ) (shown : List ℕ) (first : ℕ) (rest : List ℕ)
    → AreShown epoch.cues epoch.regions tick shown → shown ≡ first ∷ rest → (cue : Cue)
    × Contains epoch.cues cue × (is_live tick cue ≡ true)
shown_cue epoch tick shown first rest are some =
    by (filter (λ (region : Region). has_some (live_places epoch.cues region.id tick)) are.by_y)
    (kept_pass (λ (region : Region). has_some (live_places epoch.cues region.id tick)) are.by_y)
    (sym are.is ∙ some)
  where
    in_places : (id : ℕ) (places : List ℕ) → live_places epoch.cues id tick ≡ places
        → has_some places ≡ true → (cue : Cue) × Contains epoch.cues cue × (is_live tick cue ≡ true)
    in_places id [] is has = absurd (cc)
    in_places id (place ∷ places) is has =
        (let there : Contains (live_places epoch.cues id tick) place = subst (λ (all : List ℕ). Contains all place)
        (sym is) (0, omega arith, refl) in
        let within : place < length epoch.cues =
        all_at (λ place. place < length epoch.cues) (live_places epoch.cues id tick) place
        (twice_within (λ place. (cue_at epoch.cues place).region == id)
        (λ place. is_live tick (cue_at epoch.cues place)) (length epoch.cues)) there in
        let live : is_live tick (cue_at epoch.cues place) ≡ true =
        all_at (λ place. is_live tick (cue_at epoch.cues place) ≡ true) (live_places epoch.cues id tick) place
        (kept_pass (λ place. is_live tick (cue_at epoch.cues place)) (own_places epoch.cues id)) there in
        (cue_at epoch.cues place, All-contains_itself epoch.cues place no_cue within, live))

    by : (regions : List Region)
        → All (λ (region : Region). has_some (live_places epoch.cues region.id tick) ≡ true) regions
        → map (λ (region : Region). region.id) regions ≡ first ∷ rest → (cue : Cue) × Contains epoch.cues cue
        × (is_live tick cue ≡ true)
    by [] all is = absurd (cc)
    by (region ∷ regions) all is =
        in_places region.id (live_places epoch.cues region.id tick) refl
        (All-head (λ (region : Region). has_some (live_places epoch.cues region.id tick) ≡ true) region regions all)

-- ---- the next named tick

-- the least of some numbers that are above one
record HasLeastAbove (from : ℕ) (times : List ℕ) : Type 0 where
  least : ℕ
  there : Contains times least
  above : from < least
  others : All (λ other. (other ≤ from) ⊎ (least ≤ other)) times

-- one number more: it is not above, or the least, or above the least
low_first : {from : ℕ} {times : List ℕ} (first : ℕ) → first ≤ from → HasLeastAbove from times
    → HasLeastAbove from (first ∷ times)
low_first {from} {times} first low found =
    record {
      least = found.least;
      there = Contains-append_right (first ∷ []) times found.least found.there;
      above = found.above;
      others = All-cons (λ other. (other ≤ from) ⊎ (found.least ≤ other)) first times (inl low) found.others;
    }

least_first : {from : ℕ} {times : List ℕ} (first : ℕ) → from < first
    → All (λ other. (other ≤ from) ⊎ (first ≤ other)) times → HasLeastAbove from (first ∷ times)
least_first {from} {times} first above others =
    record {
      least = first;
      there = (0, omega arith, refl);
      above = above;
      others = All-cons (λ other. (other ≤ from) ⊎ (first ≤ other)) first times (inr (omega arith)) others;
    }

high_first : {from : ℕ} {times : List ℕ} (first : ℕ) → from < first → HasLeastAbove from times
    → HasLeastAbove from (first ∷ times)
high_first {from} {times} first above found = by (grind arith)
  where
    lower : first ≤ found.least → {other : ℕ} → (other ≤ from) ⊎ (found.least ≤ other)
        → (other ≤ from) ⊎ (first ≤ other)
    lower below (inl low) = inl low
    lower below (inr up) = inr (omega (arith, below, up))

    by : (first ≤ found.least) ⊎ (found.least < first) → HasLeastAbove from (first ∷ times)
    by (inl below) = least_first first above (λ k d within. lower below (found.others k d within))
    by (inr beyond) =
        record {
          least = found.least;
          there = Contains-append_right (first ∷ []) times found.least found.there;
          above = found.above;
          others = All-cons (λ other. (other ≤ from) ⊎ (found.least ≤ other)) first times
              (inr (omega (arith, beyond))) found.others;
        }

some_above : (from : ℕ) (times : List ℕ) → HasLeastAbove from times ⊎ All (λ other. other ≤ from) times
some_above from [] = inr (All-none _)
some_above from (first ∷ times) = by (some_above from times) (grind arith)
  where
    by : HasLeastAbove from times ⊎ All (λ other. other ≤ from) times → (first ≤ from) ⊎ (from < first)
        → HasLeastAbove from (first ∷ times) ⊎ All (λ other. other ≤ from) (first ∷ times)
    by (inl found) (inl low) = inl (low_first first low found)
    by (inl found) (inr high) = inl (high_first first high found)
    by (inr none) (inl low) = inr (All-cons (λ other. other ≤ from) first times low none)
    by (inr none) (inr high) = inl (least_first first high (λ k d within. inl (none k d within)))

least_above : (from : ℕ) (times : List ℕ) (time : ℕ) → Contains times time → from < time
    → HasLeastAbove from times
least_above from times time there above =
    elim (some_above from times) [
      | inl found ↦ found
      | inr none ↦ absurd
          (let low = all_at (λ other. other ≤ from) times time none there in omega (arith, low, above))
    ]

-- ---- the next set

-- the last set of a plan by a tick, in its epoch
record IsLastOf (script : Script) (profile : Profile) (sets front back : List PlannedSet) (set : PlannedSet)
    (tick : ℕ) : Type 0 where
  fair : IsFair script
  plan : IsPlan script profile sets
  last : IsLastBy sets front back set tick
  place : IsInEpoch script profile (reverse front) set

-- a set comes within a refresh and its room
abbrev IsSoon : Script → PlannedSet → ℕ → Type 0
IsSoon script set tick = tick < set.pts + script.refresh + REFRESH_ROOM + 1

-- a cue of its epoch, and one that is live at its time
abbrev IsOwnCue : {script : Script} {profile : Profile} {sets front back : List
    PlannedSet} {set : PlannedSet} {tick : ℕ}
    → IsLastOf script profile sets front back set tick → Cue → Type 0
IsOwnCue is cue = Contains is.place.epoch.cues cue

own_epoch : {script : Script} {profile : Profile} {sets front back : List PlannedSet} {set : PlannedSet} {tick : ℕ}
    (is : IsLastOf script profile sets front back set tick) → Contains script.epochs is.place.epoch
own_epoch {script = script} {set = set} is =
    there_at script.epochs set.epoch is.place.epoch is.place.place.found

-- a cue that is live at a time is shown there
cue_shows : {script : Script} {profile : Profile} {sets front back : List PlannedSet} {set : PlannedSet} {tick : ℕ}
    (is : IsLastOf script profile sets front back set tick) (cue : Cue) (time : ℕ) → IsOwnCue is cue
    → is_live time cue ≡ true → shows_cue script.epochs time ≡ true
cue_shows {script = script} is cue time there live =
    let epoch_there = own_epoch is in
    list_any_at (λ (e : Epoch). list_any (is_live time) e.cues) script.epochs epoch_there.0 is.place.epoch
    epoch_there.1
    (ap (λ (e : Epoch). list_any (is_live time) e.cues) epoch_there.2
    ∙ list_any_at (is_live time) is.place.epoch.cues there.0 cue there.1 (ap (is_live time) there.2 ∙ live))

-- the last named tick by the set, so many refreshes before it, and the next one
record IsBetweenNamed (script : Script) (set : PlannedSet) : Type 0 where
  before : ℕ
  next : ℕ
  count : ℕ
  neighbours : AreNeighbours (named_ticks script.epochs) before next
  at : set.pts ≡ before + count * script.refresh
  next_later : set.pts < next

-- where no set came in that time, a refresh would have
late_refresh : {script : Script} {profile : Profile} {sets front back : List PlannedSet} {set : PlannedSet} {tick : ℕ}
    (is : IsLastOf script profile sets front back set tick) (cue : Cue) → IsOwnCue is cue
    → is_live set.pts cue ≡ true → IsBetweenNamed script set → set.pts + script.refresh + REFRESH_ROOM < tick
    → IsRefresh script.epochs script.refresh (set.pts + script.refresh)
late_refresh {script} {profile} {sets} {front} {back} {set} {tick} is cue there live named late =
    record {
      last = named.before;
      next = named.next;
      times = named.count + 1;
      neighbours = named.neighbours;
      shown = cue_shows is cue named.before there live_before;
      some = omega arith;
      after = ap (λ (n : ℕ). n + script.refresh) named.at ∙ more named.before named.count script.refresh;
      room = omega (arith, late, beyond);
    }
  where
    more : (a n r : ℕ) → a + n * r + r ≡ a + (n + 1) * r
    more a n r = grind arith

    beyond : tick < named.next
    beyond =
        elim (all_at (λ time. (time ≤ set.pts) ⊎ (tick < time)) (named_ticks script.epochs) named.next
        (named_still script profile sets front back set tick is.plan is.last) named.neighbours.has_second) [
          | inl low ↦ absurd (let later = named.next_later in omega (arith, low, later))
          | inr high ↦ high
        ]

    started : cue.start ≤ named.before
    started =
        elim (all_at (λ time. (time ≤ named.before) ⊎ (named.next ≤ time)) (named_ticks script.epochs) cue.start
        named.neighbours.between
        (piece_there ticks_of script.epochs is.place.epoch cue.start (own_epoch is)
        (cue_start is.place.epoch cue there))) [
          | inl low ↦ low
          | inr high ↦ absurd
              (let low : cue.start ≤ set.pts = grind (arith, nat_tests) in
              let later = named.next_later in omega (arith, low, high, later))
        ]

    live_before : is_live named.before cue ≡ true
    live_before =
        (let start = started in
        let ends : set.pts < cue.end = grind (arith, nat_tests) in
        let at = named.at in
        let low : named.before ≤ set.pts = omega (arith, at) in grind (arith, nat_tests))

-- so one comes
from_last : {script : Script} {profile : Profile} {sets front back : List PlannedSet} {set : PlannedSet} {tick : ℕ}
    (is : IsLastOf script profile sets front back set tick) (cue : Cue) → IsOwnCue is cue
    → is_live set.pts cue ≡ true → IsBetweenNamed script set → IsSoon script set tick
from_last {script} {profile} {sets} {front} {back} {set} {tick} is cue there live named = by (grind arith)
  where
    times : HasTimes script sets
    times = has_times script profile sets is.plan.planned

    by : IsSoon script set tick ⊎ (set.pts + script.refresh + REFRESH_ROOM < tick) → IsSoon script set tick
    by (inl soon) = soon
    by (inr late) =
        (let some_refresh = is.fair.often in
        elim (all_at (λ other. (other ≤ set.pts) ⊎ (tick < other)) (times_of sets) (set.pts + script.refresh)
        (times_apart script sets front back set tick times is.last)
        (times.all (set.pts + script.refresh) (inr (late_refresh is cue there live named late)))) [
          | inl low ↦ absurd (omega (arith, low, some_refresh))
          | inr high ↦ absurd (omega (arith, high, late))
        ])

-- the set is at a named tick, or a refresh behind one
between_named : {script : Script} {profile : Profile} {sets front back : List
    PlannedSet} {set : PlannedSet} {tick : ℕ}
    (is : IsLastOf script profile sets front back set tick) (cue : Cue) → IsOwnCue is cue
    → is_live set.pts cue ≡ true → IsInstant script.epochs script.refresh set.pts → IsBetweenNamed script set
between_named {script = script} {set = set} is cue there live (inl is_named) =
    let end_named =
    piece_there ticks_of script.epochs is.place.epoch cue.end (own_epoch is) (cue_end is.place.epoch cue there) in
    let ends : set.pts < cue.end = grind (arith, nat_tests) in
    let next = least_above set.pts (named_ticks script.epochs) cue.end end_named ends in
    record {
      before = set.pts;
      next = next.least;
      count = 0;
      neighbours = record { has_first = is_named; has_second = next.there; order = next.above; between = next.others };
      at = omega arith;
      next_later = next.above;
    }
between_named {script = script} {set = set} is cue there live (inr refresh) =
    record {
      before = refresh.last;
      next = refresh.next;
      count = refresh.times;
      neighbours = refresh.neighbours;
      at = refresh.after;
      next_later = (let room = refresh.room in omega (arith, room));
    }

-- where a set's page shows something, a set comes within a refresh and its room
comes_soon : {script : Script} {profile : Profile} {sets front back : List PlannedSet} {set : PlannedSet} {tick : ℕ}
    → IsLastOf script profile sets front back set tick → set.shown ≢ [] → IsSoon script set tick
comes_soon {script} {profile} {sets} {front} {back} {set} {tick} is some = by set.shown refl
  where
    times : HasTimes script sets
    times = has_times script profile sets is.plan.planned

    instant : IsInstant script.epochs script.refresh set.pts
    instant =
        all_at (IsInstant script.epochs script.refresh) (times_of sets) set.pts times.each
        (subst (λ (all : List ℕ). Contains all set.pts)
        (sym (ap times_of is.last.whole ∙ map-append (λ (s : PlannedSet). s.pts) front (set ∷ back)))
        (Contains-append_right (times_of front) (set.pts ∷ times_of back) set.pts (0, omega arith, refl)))

    by : (shown : List ℕ) → set.shown ≡ shown → IsSoon script set tick
    by [] none = absurd (some none)
    by (first ∷ rest) shown =
        (let cue = shown_cue is.place.epoch set.pts set.shown first rest is.place.planned.carried.shown shown in
        from_last is cue.0 cue.1 cue.2 (between_named is cue.0 cue.1 cue.2 instant))

-- so before its time-out
pub shown_in_time : (script : Script) (profile : Profile) (sets front back : List PlannedSet) (set : PlannedSet)
    (tick : ℕ) → IsFair script → IsPlan script profile sets → IsLastBy sets front back set tick
    → set.shown ≢ [] → tick < set.pts + 90000 * time_out_of script
shown_in_time script profile sets front back set tick is_fair plan last some =
    let soon =
    comes_soon (record {
      fair = is_fair;
      plan = plan;
      last = last;
      place = in_epoch script profile sets front back set is_fair plan last.whole;
    }) some in
    let whole = is_fair.whole in
    omega (arith, soon, whole)
