-- Sets of scripts that go on above a horizon: those up to it stay.
use Rattle.std.proofs.Common.{◌≡◌, ◌∙◌, inl, inr, refl, sym, ap, subst, ℕ, ◌<◌, ◌≤◌, ◌==◌, ◌%◌, nat_le, Bool, List, [], ◌∷◌, ◌++◌, length, map, filter, get_or, All, Some, arith, length-append}
use Rattle.std.specs.Prelude.{slice_get, take_while}
use Rattle.std.specs.List.{flat_map, prefix_len, zip}
use Rattle.std.proofs.lemmas.List.{get_or_append_left}
use Rattle.std.proofs.lemmas.List.Elements.{All-cons, All-head, All-map, All-tail, All-take}
use Rattle.std.proofs.lemmas.Option.{get_or_from_slice_get, slice_get-get_or}
use Rattle.sub_base.specs.Lists.{has_some}
use Rattle.cue_list.specs.declared.epoch.Epoch.{Epoch}
use Rattle.cue_records.specs.declared.region.Region.{Region}
use Rattle.page_epoch.specs.declared.planned_set.PlannedSet.{PlannedSet}
use Rattle.page_epoch.specs.declared.planned_set.SentRegion.{SentRegion}
use Rattle.grown_script_laws.specs.Growth.{EpochGrows, EpochsGrow}
use Rattle.page_epoch.specs.Plan.{IsCarried, IsNextSet}
use Rattle.page_epoch.specs.SentCluts.{sent_cluts}
use Rattle.page_epoch.specs.SentRegions.{AreSentRegions, AreShown, live_before, region_from, region_version, rises, is_redrawn, sent_region}
use Rattle.page_epoch.specs.States.{instants_of, is_due, last_entry, seen_of, state_of}
use Rattle.stream_syntax.specs.Segments.{is_entry_state}
use Rattle.page_epoch.proofs.AnswerLaws.{IsPast}
use Rattle.page_epoch.proofs.CountLaws.{count_agree}
use Rattle.grown_script_laws.proofs.GrownCluts.{cluts_stay}
use Rattle.grown_script_laws.proofs.GrownCues.{live_places_stay, page_version_stays}
use Rattle.grown_script_laws.proofs.GrownRows.{epochs_stay, names_stay, rows_stay}
use Rattle.page_epoch.proofs.ListLaws.{All-none}

-- ---- what a set carries

-- the pairs of two lists of low numbers are pairs of low numbers
zip_low : (horizon : ℕ) (xs ys : List ℕ) → All (λ tick. tick ≤ horizon) xs → All (λ tick. tick ≤ horizon) ys
    → All (λ (pair : ℕ × ℕ). (pair.0 ≤ horizon) × (pair.1 ≤ horizon)) (zip xs ys)
zip_low horizon [] ys first second = All-none (λ (pair : ℕ × ℕ). (pair.0 ≤ horizon) × (pair.1 ≤ horizon))
zip_low horizon (x ∷ xs) [] first second = All-none (λ (pair : ℕ × ℕ). (pair.0 ≤ horizon) × (pair.1 ≤ horizon))
zip_low horizon (x ∷ xs) (y ∷ ys) first second =
    All-cons (λ (pair : ℕ × ℕ). (pair.0 ≤ horizon) × (pair.1 ≤ horizon)) (x, y) (zip xs ys)
    (All-head (λ tick. tick ≤ horizon) x xs first, All-head (λ tick. tick ≤ horizon) y ys second)
    (zip_low horizon xs ys (All-tail (λ tick. tick ≤ horizon) x xs first)
    (All-tail (λ tick. tick ≤ horizon) y ys second))

rises_stay : (horizon : ℕ) (old new : Epoch) (id : ℕ) (pair : ℕ × ℕ) → EpochGrows horizon old new
    → pair.0 ≤ horizon → pair.1 ≤ horizon → rises new.cues id pair ≡ rises old.cues id pair
rises_stay horizon old new id (tick, before) grows now earlier =
    let live_now = live_places_stay horizon old new id tick grows now in
    let live_then = live_places_stay horizon old new id before grows earlier in
    λ i. is_redrawn (live_then i) (live_now i)

-- the version of a region at instants up to the horizon stays the same
region_version_stays : (horizon : ℕ) (old new : Epoch) (id tick : ℕ) (earlier : List ℕ) → EpochGrows horizon old new
    → All (λ tick. tick ≤ horizon) (tick ∷ earlier)
    → region_version new.cues id (tick ∷ earlier) ≡ region_version old.cues id (tick ∷ earlier)
region_version_stays horizon old new id tick earlier grows low =
    let pairs = zip (tick ∷ earlier) earlier in
    let each = zip_low horizon (tick ∷ earlier) earlier low (All-tail (λ tick. tick ≤ horizon) tick earlier low) in
    ap (λ (count : ℕ). count % 16)
    (count_agree (rises new.cues id) (rises old.cues id) pairs
    (λ k d within. rises_stay horizon old new id (get_or pairs k d) grows (each k d within).0 (each k d within).1))

before_stays : (horizon : ℕ) (old new : Epoch) (id : ℕ) (earlier : List ℕ) → EpochGrows horizon old new
    → All (λ tick. tick ≤ horizon) earlier → live_before new.cues id earlier ≡ live_before old.cues id earlier
before_stays horizon old new id [] grows low = refl
before_stays horizon old new id (before ∷ earlier) grows low =
    live_places_stay horizon old new id before grows (All-head (λ tick. tick ≤ horizon) before earlier low)

-- a region is sent as before
region_stays : (horizon : ℕ) (old new : Epoch) (whole : Bool) (seen : List ℕ) (id : ℕ) → EpochGrows horizon old new
    → All (λ tick. tick ≤ horizon) seen → sent_region new.cues whole seen id ≡ sent_region old.cues whole seen id
region_stays horizon old new whole [] id grows low = refl
region_stays horizon old new whole (tick ∷ earlier) id grows low =
    let version = region_version_stays horizon old new id tick earlier grows low in
    let before =
    before_stays horizon old new id earlier grows (All-tail (λ tick. tick ≤ horizon) tick earlier low) in
    let live = live_places_stay horizon old new id tick grows (All-head (λ tick. tick ≤ horizon) tick earlier low) in
    λ i. region_from id (version i) whole (before i) (live i)

-- a set carries the same of an epoch that goes on and has the same regions
carried_stays : (horizon : ℕ) (old new : Epoch) (whole : Bool) (seen : List ℕ) (set : PlannedSet)
    → EpochGrows horizon old new → new.regions ≡ old.regions → All (λ tick. tick ≤ horizon) seen → set.pts ≤ horizon
    → IsCarried old whole seen set → IsCarried new whole seen set
carried_stays horizon old new whole seen set grows same low early carried =
    let shown = carried.shown in
    let sent = carried.regions in
    let Shown : List Region → Type 0 = λ regions. AreShown new.cues regions set.pts set.shown in
    let Sent : List Region → Type 0 = λ regions. AreSentRegions new.cues regions whole seen set.regions in
    record {
      shown = subst Shown (sym same) (record {
        by_y = shown.by_y;
        ordered = shown.ordered;
        is = shown.is ∙ sym (ap
            (λ (live : ℕ → List ℕ). map (λ (region : Region). region.id)
            (filter (λ (region : Region). has_some (live region.id)) shown.by_y))
            (λ i id. live_places_stay horizon old new id set.pts grows early i));
      });
      regions = subst Sent (sym same) (record {
        by_id = sent.by_id;
        ordered = sent.ordered;
        is = sent.is ∙ sym (ap
            (λ (send : ℕ → List SentRegion). flat_map (λ (region : Region). send region.id) sent.by_id)
            (λ i id. region_stays horizon old new whole seen id grows low i));
      });
      cluts = carried.cluts
          ∙ sym (ap (λ colours. sent_cluts colours whole seen) grows.colours
          ∙ cluts_stay horizon old.colours grows.more_colours whole seen grows.colours_above low);
      cues = carried.cues;
      in_order = carried.in_order;
    }

-- ---- a set behind those before it

-- the instants of these sets
abbrev pub times_of : List PlannedSet → List ℕ
times_of sets = map (λ (set : PlannedSet). set.pts) sets

-- sets up to a horizon
abbrev pub AreLow : ℕ → List PlannedSet → Type 0
AreLow horizon sets = All (λ (set : PlannedSet). set.pts ≤ horizon) sets

while_low : (p : ℕ → Bool) (horizon : ℕ) (ticks : List ℕ) → All (λ tick. tick ≤ horizon) ticks
    → All (λ tick. tick ≤ horizon) (take_while p ticks)
while_low p horizon ticks low = All-take (λ tick. tick ≤ horizon) (prefix_len p ticks) ticks low

-- the regions of an epoch that has started by the horizon stay
pub same_regions : (horizon : ℕ) (old new : Epoch) → EpochGrows horizon old new → old.start ≤ horizon
    → new.regions ≡ old.regions
same_regions horizon old new grows early =
    elim grows.regions [
      | inl same ↦ same
      | inr late ↦ absurd (omega (arith, late, early))
    ]

-- a set up to the horizon is the next one of the script that goes on
pub next_stays : (horizon : ℕ) (old new : List Epoch) (refresh : ℕ) (past : List PlannedSet) (set : PlannedSet)
    → EpochsGrow horizon old new → AreLow horizon (set ∷ past) → IsNextSet old refresh past set
    → IsNextSet new refresh past set
next_stays horizon old new refresh past set grow low next =
    let P : PlannedSet → Type 0 = λ one. one.pts ≤ horizon in
    let early : set.pts ≤ horizon = All-head P set past low in
    let times : All (λ tick. tick ≤ horizon) (times_of past) =
    All-map (λ tick. tick ≤ horizon) (λ (one : PlannedSet). one.pts) past (All-tail P set past low) in
    let instants : All (λ tick. tick ≤ horizon) (instants_of past set.pts) =
    All-cons (λ tick. tick ≤ horizon) set.pts (times_of past) early times in
    let here = epochs_stay horizon old new set.pts set.epoch next.epoch grow early next.place in
    let grown = here.0 in
    let grows : EpochGrows horizon next.epoch grown = here.2 in
    let named = names_stay horizon old new set.pts grow early in
    let due = is_due refresh set.pts (last_entry past) in
    let whole = is_entry_state set.state in
    let seen = seen_of next.epoch.start past set.pts in
    let low_seen : All (λ tick. tick ≤ horizon) seen =
    All-cons (λ tick. tick ≤ horizon) set.pts (take_while (nat_le next.epoch.start) (times_of past)) early
    (while_low (nat_le next.epoch.start) horizon (times_of past) times) in
    let started : next.epoch.start ≤ horizon = omega (arith, next.place.started, early) in
    let Carried : ℕ → Type 0 = λ start. IsCarried grown whole (seen_of start past set.pts) set in
    record {
      epoch = grown;
      place = here.1;
      row = rows_stay horizon old new past set.pts set.row grow early next.row;
      state = next.state ∙ (λ i. state_of (sym grows.start i == set.pts) (sym named i) due);
      version = next.version ∙ sym (page_version_stays horizon old new (instants_of past set.pts) grow instants);
      carried = subst Carried (sym grows.start)
          (carried_stays horizon next.epoch grown whole seen set grows
          (same_regions horizon next.epoch grown grows started) low_seen early next.carried);
    }

-- sets up to the horizon, at the first instants, are those of the script that goes on, which begins with the same
-- instants
pub past_stays : (horizon : ℕ) (old new : List Epoch) (refresh : ℕ) (front rest others : List ℕ)
    (past : List PlannedSet)
    → EpochsGrow horizon old new → AreLow horizon past → length past ≤ length front
    → IsPast old refresh (front ++ rest) past → IsPast new refresh (front ++ others) past
past_stays horizon old new refresh front rest others [] grow low few are = tt
past_stays horizon old new refresh front rest others (set ∷ past) grow low few are =
    let P : PlannedSet → Type 0 = λ one. one.pts ≤ horizon in
    let within : length past < length front = omega (arith, few) in (
      next_stays horizon old new refresh past set grow low are.0,
      same_start front rest others (length past) set.pts within are.1,
      past_stays horizon old new refresh front rest others past grow (All-tail P set past low) (omega (arith, few))
          are.2,
    )
  where
    same_start : (front rest others : List ℕ) (n tick : ℕ) → n < length front
        → slice_get (front ++ rest) n ≡ Some tick → slice_get (front ++ others) n ≡ Some tick
    same_start front rest others n tick within found =
        let first = get_or_append_left front rest tick n within in
        let second = get_or_append_left front others tick n within in
        let there = get_or_from_slice_get (front ++ rest) n tick tick found in
        let long : n < length (front ++ others) = omega (arith, within, length-append front others) in
        slice_get-get_or (front ++ others) n tick long
        ∙ ap (λ (k : ℕ). Some k) (second ∙ sym first ∙ there)
