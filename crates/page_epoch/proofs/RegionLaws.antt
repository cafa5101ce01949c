-- Regions from instant to instant.
use Rattle.std.proofs.Common.{◌≡◌, ◌∙◌, ℕ, ◌+◌, ◌%◌, ◌<◌, Bool, true, false, cond, List, [], ◌∷◌, ◌++◌, map, take, drop, length, get_or, All, find, Option, Some, refl, sym, ap}
use Rattle.std.specs.List.{flat_map, zip, count_by}
use Rattle.std.specs.Option.{option_map_or}
use Rattle.std.proofs.lemmas.List.{map_more, get_or-map, length_push}
use Rattle.page_epoch.proofs.ListLaws.{flat_map_next, version_step}
use Rattle.std.proofs.lemmas.List.Sums.{sum_by-cons}
use Rattle.std.proofs.lemmas.List.Elements.{All-push}
use Rattle.cue_list.specs.declared.epoch.Cue.{Cue}
use Rattle.page_epoch.specs.declared.planned_set.SentRegion.{SentRegion}
use Rattle.page_epoch.specs.declared.region_state.RegionCues.{RegionCues}
use Rattle.page_epoch.specs.declared.region_state.RegionState.{RegionState}
use Rattle.page_epoch.specs.Live.{started_by, live_places}
use Rattle.page_epoch.specs.SentRegions.{rises, region_version, live_before, drawn_count, region_from, sent_region}
use Rattle.page_epoch.specs.EpochStates.{region_state, region_states, region_after, version_after, drawn_count_after, is_first, IsReachedBy, IsSmallRegionState}
use Rattle.sub_base.specs.Lists.{has_some}

-- ---- one region

pub version-more : (cues : List Cue) (region tick : ℕ) (seen : List ℕ) →
    region_version cues region (tick ∷ seen)
    ≡ version_after (is_first seen) (live_before cues region seen) (live_places cues region tick)
    (region_version cues region seen)
version-more cues region tick [] = refl
version-more cues region tick (before ∷ earlier) =
    ap (λ (n : ℕ). n % 16)
    (sum_by-cons (λ pair. cond (rises cues region pair) 1 0) (tick, before)
    (zip (before ∷ earlier) (drop 1 (before ∷ earlier))))
    ∙ version_step (rises cues region (tick, before))
    (count_by (rises cues region) (zip (before ∷ earlier) (drop 1 (before ∷ earlier))))

first_drawn_count : (b : Bool) (x : List ℕ) (other : Option (List ℕ))
    → option_map_or length (cond b (Some x) other) 0 ≡ cond b (length x) (option_map_or length other 0)
first_drawn_count true x other = refl
first_drawn_count false x other = refl

pub drawn_count-more : (cues : List Cue) (region tick : ℕ) (seen : List ℕ) →
    drawn_count cues region (tick ∷ seen)
    ≡ drawn_count_after (live_places cues region tick) (drawn_count cues region seen)
drawn_count-more cues region tick seen =
    first_drawn_count (has_some (live_places cues region tick)) (live_places cues region tick)
    (find has_some (map (live_places cues region) seen))

pub current-more : (cues : List Cue) (region tick : ℕ) (seen : List ℕ) →
    region_state cues (tick ∷ seen) region
    ≡ region_after (is_first seen) (region_state cues seen region) (started_by cues region tick)
    (live_places cues region tick)
current-more cues region tick seen = λ i. record {
  live = live_places cues region tick;
  started = started_by cues region tick;
  version = version-more cues region tick seen i;
  drawn_count = drawn_count-more cues region tick seen i;
}

-- ---- all regions

-- the first so many regions were taken to the next instant
pub record HaveStepped (cues : List Cue) (regions : List RegionCues) (states : List RegionState) (tick : ℕ)
    (first whole : Bool) (count : ℕ) (stepped : List RegionState) (sent : List SentRegion) : Type 0 where
  pub states_are : (seen : List ℕ) → first ≡ is_first seen → states ≡ region_states cues seen regions
      → IsReachedBy seen tick → stepped ≡ region_states cues (tick ∷ seen) (take count regions)
  pub sent_are : (seen : List ℕ) → first ≡ is_first seen → states ≡ region_states cues seen regions
      → IsReachedBy seen tick →
      sent ≡ flat_map (λ region. sent_region cues whole (tick ∷ seen) region.id) (take count regions)
  pub long : length stepped ≡ count
  pub small : All IsSmallRegionState stepped

-- the region at a place, after the instants so far
pub state_there : (cues : List Cue) (seen : List ℕ) (regions : List RegionCues) (states : List RegionState) (i : ℕ)
    (region : RegionCues) (current : RegionState) →
    states ≡ region_states cues seen regions → i < length regions → region ≡ get_or regions i region
    → current ≡ get_or states i current → current ≡ region_state cues seen region.id
state_there cues seen regions states i region current e h r c =
    c ∙ ap (λ xs. get_or xs i current) e
    ∙ get_or-map (λ (region : RegionCues). region_state cues seen region.id) regions i region current h
    ∙ ap (λ (region : RegionCues). region_state cues seen region.id) (sym r)

pub HaveStepped-more : {cues : List Cue} {regions : List RegionCues} {states : List RegionState} {tick : ℕ} {first
    whole : Bool} {i : ℕ} {stepped : List RegionState} {sent : List SentRegion}
    (region : RegionCues) (current next : RegionState) (found : List SentRegion) →
    HaveStepped cues regions states tick first whole i stepped sent → i < length regions
    → region ≡ get_or regions i region → current ≡ get_or states i current →
    ((seen : List ℕ) → current ≡ region_state cues seen region.id → IsReachedBy seen tick
    → next ≡ region_after first current (started_by cues region.id tick) (live_places cues region.id tick))
    → IsSmallRegionState next → found ≡ region_from region.id next.version whole current.live next.live →
    HaveStepped cues regions states tick first whole (i + 1) (stepped ++ next ∷ []) (sent ++ found)
HaveStepped-more {cues} {regions} {states} {tick} {first} {whole} {i} {stepped} {sent} region current next found before
    h r c n small f =
    let here : (seen : List ℕ) → first ≡ is_first seen → states ≡ region_states cues seen regions
    → IsReachedBy seen tick → next ≡ region_state cues (tick ∷ seen) region.id = λ seen b e a.
    n seen (state_there cues seen regions states i region current e h r c) a
    ∙ ap (λ (x : RegionState). region_after first x (started_by cues region.id tick)
    (live_places cues region.id tick)) (state_there cues seen regions states i region current e h r c)
    ∙ ap (λ (x : Bool). region_after x (region_state cues seen region.id) (started_by cues region.id tick)
    (live_places cues region.id tick)) b ∙ sym (current-more cues region.id tick seen) in
    record {
      states_are = λ seen b e a.
          ap (λ xs. xs ++ next ∷ []) (before.states_are seen b e a)
          ∙ ap (λ (x : RegionState). region_states cues (tick ∷ seen) (take i regions) ++ x ∷ [])
          (here seen b e a ∙ ap (λ (x : RegionCues). region_state cues (tick ∷ seen) x.id) r)
          ∙ sym (map_more (λ (x : RegionCues). region_state cues (tick ∷ seen) x.id) regions i region h);
      sent_are = λ seen b e a.
          ap (λ xs. xs ++ found) (before.sent_are seen b e a)
          ∙ ap (λ xs. flat_map (λ (x : RegionCues). sent_region cues whole (tick ∷ seen) x.id) (take i regions)
          ++ xs)
          (f ∙ ap (λ (x : RegionState). region_from region.id next.version whole x.live next.live)
          (state_there cues seen regions states i region current e h r c)
          ∙ ap (λ (x : RegionState). region_from region.id x.version whole (live_before cues region.id seen) x.live)
          (here seen b e a)
          ∙ ap (λ (x : RegionCues). sent_region cues whole (tick ∷ seen) x.id) r)
          ∙ sym (flat_map_next (λ (x : RegionCues). sent_region cues whole (tick ∷ seen) x.id) regions i region h);
      long = length_push stepped next ∙ ap (λ (k : ℕ). k + 1) before.long;
      small = All-push IsSmallRegionState stepped next before.small small;
    }
