-- An epoch from instant to instant.
use Rattle.std.proofs.Common.{◌≡◌, ◌∙◌, ℕ, ◌==◌, ◌<◌, ◌≤◌, Bool, List, ◌∷◌, map, length, get_or, All, Option, None, sum_by, refl, sym, ap, subst, arith}
use Rattle.std.specs.List.{flat_map, list_any}
use Rattle.std.specs.List.Sorted.{IsPermutation}
use Rattle.std.proofs.lemmas.Bool.Decides.{nat_tests}
use Rattle.std.proofs.lemmas.List.{length-map, get_or-map}
use Rattle.std.proofs.lemmas.List.Elements.{All-map, All-weaker}
use Rattle.std.proofs.lemmas.List.Sorted.{length_permutation, sum_by-IsPermutation, All-permutation, IsPermutation-trans, IsPermutation-map}
use Rattle.std.proofs.lemmas.List.Sums.{sum_by-cons}
use Rattle.cue_list.specs.declared.epoch.Epoch.{Epoch}
use Rattle.cue_records.specs.declared.region.Region.{Region}
use Rattle.cue_list.specs.declared.epoch.Cue.{Cue}
use Rattle.cue_records.specs.declared.row_values.ColourRow.{ColourRow}
use Rattle.page_epoch.specs.declared.planned_set.SentRegion.{SentRegion}
use Rattle.page_epoch.specs.declared.planned_set.SentClut.{SentClut}
use Rattle.page_epoch.specs.declared.region_state.RegionCues.{RegionCues}
use Rattle.page_epoch.specs.declared.region_state.RegionState.{RegionState}
use Rattle.page_epoch.specs.declared.clut_changes.ClutChanges.{ClutChanges}
use Rattle.page_epoch.specs.declared.layout.Layout.{Layout}
use Rattle.page_epoch.specs.declared.layout.PageRegion.{PageRegion}
use Rattle.page_epoch.specs.Live.{live_places, places_below, no_region}
use Rattle.page_epoch.specs.SentRegions.{sent_region, drawn_count, AreSentRegions, AreShown, AreOrdered}
use Rattle.page_epoch.specs.SentCluts.{sent_clut, sent_cluts, named_cluts, clut_count}
use Rattle.page_epoch.specs.Private.Layouts.{IsLayout, ArePageRegions, region_at, page_region_at, state_at, shown_of}
use Rattle.page_epoch.specs.EpochStates.{first_region_state, region_state, region_states, changed_versions, IsSmallRegionState, IsSmallVersion, sent_of}
use Rattle.page_epoch.proofs.ListLaws.{sum_mapped, flat_map_mapped, length_kept_places, map_map, map_kept, places_back, places_within}
use Rattle.sub_base.specs.Lists.{has_some}

-- ---- what stays

pub count_is : clut_count ≡ 256
unfolding clut_count
count_is = refl

pub few_cluts : (colours : List ColourRow) (cluts : List ClutChanges)
    → map (λ (clut : ClutChanges). clut.clut) cluts ≡ named_cluts colours → length cluts ≤ 256
few_cluts colours cluts e =
    let same = ap length e in
    let long = length-map cluts (λ (clut : ClutChanges). clut.clut) in
    let few = length_kept_places (λ clut. list_any (λ row. row.clut == clut) colours) clut_count in
    let all = count_is in
    omega arith

pub few_regions : (regions ids : List Region) (by_id : List RegionCues) → IsPermutation regions ids
    → map (λ (region : RegionCues). region.id) by_id ≡ map (λ (region : Region). region.id) ids
    → length by_id ≡ length regions
few_regions regions ids by_id perm e =
    sym (length-map by_id (λ (region : RegionCues). region.id)) ∙ ap length e
    ∙ length-map ids (λ (region : Region). region.id) ∙ length_permutation regions ids perm

pub small_first : (regions : List RegionCues) → All IsSmallRegionState (map (λ _. first_region_state) regions)
small_first regions =
    All-map IsSmallRegionState (λ (_ : RegionCues). first_region_state) regions
    (λ k d h. record { version = omega arith; drawn_count = omega arith; started = omega arith; live = omega arith })

pub small_none : (cluts : List ClutChanges) → All IsSmallVersion (map (λ _. None) cluts)
small_none cluts = All-map IsSmallVersion (λ (_ : ClutChanges). None) cluts (λ k d h. tt)

-- ---- one instant on

pub regions_on : (cues cues' : List Cue) (by by' : List RegionCues) (states courses' next : List RegionState)
    (seen : List ℕ) (tick : ℕ) → cues' ≡ cues → by' ≡ by → courses' ≡ states →
    states ≡ region_states cues seen by
    → (courses' ≡ region_states cues' seen by' → next ≡ region_states cues' (tick ∷ seen) by')
    → next ≡ region_states cues (tick ∷ seen) by
regions_on cues cues' by by' states courses' next seen tick a b e is on =
    let both : (s : List ℕ) → region_states cues' s by' ≡ region_states cues s by =
    λ s. ap (λ x. region_states x s by') a ∙ ap (λ x. region_states cues s x) b in
    on (e ∙ is ∙ sym (both seen)) ∙ both (tick ∷ seen)

sent_by_id : (cues : List Cue) (whole : Bool) (seen : List ℕ) (by_id : List RegionCues) (ids : List Region)
    → map (λ (region : RegionCues). region.id) by_id ≡ map (λ (region : Region). region.id) ids →
    flat_map (λ (region : RegionCues). sent_region cues whole seen region.id) by_id
    ≡ flat_map (λ (region : Region). sent_region cues whole seen region.id) ids
sent_by_id cues whole seen by_id ids e =
    sym (flat_map_mapped (sent_region cues whole seen) (λ (region : RegionCues). region.id) by_id)
    ∙ ap (flat_map (sent_region cues whole seen)) e
    ∙ flat_map_mapped (sent_region cues whole seen) (λ (region : Region). region.id) ids

pub sent_on : (epoch : Epoch) (layout : Layout) (cues' : List Cue) (by' : List RegionCues)
    (states courses' : List RegionState) (seen : List ℕ) (tick : ℕ) (whole whole' : Bool) (sent : List SentRegion)
    → IsLayout epoch layout →
    cues' ≡ epoch.cues → by' ≡ layout.by_id → courses' ≡ states → whole' ≡ whole
    → states ≡ region_states epoch.cues seen layout.by_id →
    (courses' ≡ region_states cues' seen by'
    → sent ≡ flat_map (λ region. sent_region cues' whole' (tick ∷ seen) region.id) by')
    → AreSentRegions epoch.cues epoch.regions whole (tick ∷ seen) sent
sent_on epoch layout cues' by' states courses' seen tick whole whole' sent lay a b e w is on =
    let both : region_states cues' seen by' ≡ region_states epoch.cues seen layout.by_id =
    ap (λ x. region_states x seen by') a ∙ ap (λ x. region_states epoch.cues seen x) b in
    record {
      by_id = lay.ids;
      ordered = lay.ordered_ids;
      is = on (e ∙ is ∙ sym both)
          ∙ ap (λ (x : Bool). flat_map (λ (region : RegionCues). sent_region cues' x (tick ∷ seen) region.id) by')
          w
          ∙ ap (λ x. flat_map (λ (region : RegionCues). sent_region x whole (tick ∷ seen) region.id) by') a
          ∙ ap (λ x. flat_map (λ (region : RegionCues). sent_region epoch.cues whole (tick ∷ seen) region.id) x) b
          ∙ sent_by_id epoch.cues whole (tick ∷ seen) layout.by_id lay.ids lay.by_id;
    }

-- the regions from the top of the display
abbrev regions_at : List Region → List PageRegion → List Region
regions_at ids page_regions = map (λ (page_region : PageRegion). region_at ids page_region.place) page_regions

page_regions_are : (ids : List Region) (page_regions : List PageRegion) → ArePageRegions ids page_regions
    → All (λ (page_region : PageRegion). (page_region ≡ page_region_at ids page_region.place)
    × (page_region.place < length ids)) page_regions
page_regions_are ids page_regions are =
    All-permutation
    (λ (page_region : PageRegion). (page_region ≡ page_region_at ids page_region.place)
    × (page_region.place < length ids)) (map (page_region_at ids) (places_below (length ids))) page_regions
    are.same
    (All-map (λ (page_region : PageRegion). (page_region ≡ page_region_at ids page_region.place)
    × (page_region.place < length ids)) (page_region_at ids) (places_below (length ids))
    (λ k d h. (refl, places_within (length ids) k d h)))

pub page_regions_within : (ids : List Region) (page_regions : List PageRegion) → ArePageRegions ids page_regions
    → All (λ (page_region : PageRegion). page_region.place < length ids) page_regions
page_regions_within ids page_regions are =
    All-weaker
    (λ (page_region : PageRegion). (page_region ≡ page_region_at ids page_region.place)
    × (page_region.place < length ids)) (λ (page_region : PageRegion). page_region.place < length ids)
    (λ page_region is. is.1) page_regions (page_regions_are ids page_regions are)

ordered_at : (regions ids : List Region) (page_regions : List PageRegion)
    → AreOrdered (λ (region : Region). region.id) regions ids → ArePageRegions ids page_regions
    → AreOrdered (λ (region : Region). region.y) regions (regions_at ids page_regions)
ordered_at regions ids page_regions ordered are =
    let at = λ (page_region : PageRegion). region_at ids page_region.place in
    let back : map at (map (page_region_at ids) (places_below (length ids))) ≡ ids =
    map_map at (page_region_at ids) (places_below (length ids)) ∙ places_back ids no_region in
    record {
      same = IsPermutation-trans regions ids (regions_at ids page_regions) ordered.same
          (subst (λ (xs : List Region). IsPermutation xs (regions_at ids page_regions)) back
          (IsPermutation-map at (map (page_region_at ids) (places_below (length ids))) page_regions are.same));
      rise = λ i j d low short.
          let long = length-map page_regions at in
          let none : PageRegion = record { y = 0; id = 0; place = 0 } in
          let y : (k : ℕ) → k < length page_regions
          → (get_or (regions_at ids page_regions) k d).y ≡ (get_or page_regions k none).y = λ k h.
          ap (λ (region : Region). region.y) (get_or-map at page_regions k none d h)
          ∙ sym (ap (λ (page_region : PageRegion). page_region.y)
          (page_regions_are ids page_regions are k none h).0) in
          let first = y i (omega arith) in
          let second = y j (omega arith) in
          let less = are.rise i j none low (omega arith) in
          omega arith;
    }

-- the courses of the regions by their numbers
states_by : (cues : List Cue) (seen : List ℕ) (by_id : List RegionCues) (ids : List Region)
    → map (λ (region : RegionCues). region.id) by_id ≡ map (λ (region : Region). region.id) ids →
    region_states cues seen by_id ≡ map (λ (region : Region). region_state cues seen region.id) ids
states_by cues seen by_id ids e =
    sym (map_map (region_state cues seen) (λ (region : RegionCues). region.id) by_id)
    ∙ ap (map (region_state cues seen)) e
    ∙ map_map (region_state cues seen) (λ (region : Region). region.id) ids

state_there : (cues : List Cue) (seen : List ℕ) (ids : List Region) (by_id : List RegionCues)
    (states : List RegionState) (place : ℕ)
    → map (λ (region : RegionCues). region.id) by_id ≡ map (λ (region : Region). region.id) ids →
    states ≡ region_states cues seen by_id → place < length ids
    → state_at states place ≡ region_state cues seen (region_at ids place).id
state_there cues seen ids by_id states place lay is h =
    ap (λ xs. get_or xs place first_region_state) (is ∙ states_by cues seen by_id ids lay)
    ∙ get_or-map (λ (region : Region). region_state cues seen region.id) ids place no_region first_region_state h

pub shown_on : (epoch : Epoch) (layout : Layout) (page_regions : List PageRegion) (states : List RegionState)
    (seen : List ℕ) (tick : ℕ) (shown : List ℕ) → IsLayout epoch layout → page_regions ≡ layout.by_y →
    states ≡ region_states epoch.cues (tick ∷ seen) layout.by_id → shown ≡ shown_of states page_regions
    → AreShown epoch.cues epoch.regions tick shown
shown_on epoch layout page_regions states seen tick shown lay b is e =
    let are = subst (ArePageRegions lay.ids) (sym b) lay.by_y in
    record {
      by_y = regions_at lay.ids page_regions;
      ordered = ordered_at epoch.regions lay.ids page_regions lay.ordered_ids are;
      is =
          e ∙ map_kept (λ (page_region : PageRegion). page_region.id) (λ (region : Region). region.id)
          (λ (page_region : PageRegion). region_at lay.ids page_region.place)
          (λ (page_region : PageRegion). has_some (state_at states page_region.place).live)
          (λ (region : Region). has_some (live_places epoch.cues region.id tick)) page_regions
          (All-weaker
          (λ (page_region : PageRegion). (page_region ≡ page_region_at lay.ids page_region.place)
          × (page_region.place < length lay.ids))
          (λ (page_region : PageRegion). (has_some (state_at states page_region.place).live
          ≡ has_some (live_places epoch.cues (region_at lay.ids page_region.place).id tick))
          × (page_region.id ≡ (region_at lay.ids page_region.place).id))
          (λ page_region h. (
            ap (λ (current : RegionState). has_some current.live)
                (state_there epoch.cues (tick ∷ seen) lay.ids layout.by_id states page_region.place lay.by_id is h.1),
            ap (λ (page_region : PageRegion). page_region.id) h.0,
          )) page_regions (page_regions_are lay.ids page_regions are));
    }

pub versions_on : (colours colours' : List ColourRow) (cluts cluts' : List ClutChanges)
    (versions versions' next : List (Option ℕ)) (seen : List ℕ) (tick : ℕ) → colours' ≡ colours
    → cluts' ≡ cluts → versions' ≡ versions →
    versions ≡ changed_versions colours seen cluts
    → (versions' ≡ changed_versions colours' seen cluts'
    → next ≡ changed_versions colours' (tick ∷ seen) cluts')
    → next ≡ changed_versions colours (tick ∷ seen) cluts
versions_on colours colours' cluts cluts' versions versions' next seen tick a b e is on =
    let both : (s : List ℕ) → changed_versions colours' s cluts' ≡ changed_versions colours s cluts =
    λ s. ap (λ x. changed_versions x s cluts') a ∙ ap (λ x. changed_versions colours s x) b in
    on (e ∙ is ∙ sym (both seen)) ∙ both (tick ∷ seen)

sent_named : (colours : List ColourRow) (whole : Bool) (seen : List ℕ) (cluts : List ClutChanges)
    → map (λ (clut : ClutChanges). clut.clut) cluts ≡ named_cluts colours
    → sent_of colours whole seen cluts ≡ sent_cluts colours whole seen
sent_named colours whole seen cluts e =
    sym (flat_map_mapped (sent_clut colours whole seen) (λ (clut : ClutChanges). clut.clut) cluts)
    ∙ ap (flat_map (sent_clut colours whole seen)) e

-- what the CLUTs are sent as, for a list that is made of them
pub cluts_on : {X : Type 0} (f : List SentClut → X) (colours colours' : List ColourRow)
    (cluts cluts' : List ClutChanges) (versions versions' : List (Option ℕ)) (seen : List ℕ) (tick : ℕ)
    (whole whole' : Bool) (made : X) →
    map (λ (clut : ClutChanges). clut.clut) cluts ≡ named_cluts colours → colours' ≡ colours
    → cluts' ≡ cluts → versions' ≡ versions → whole' ≡ whole
    → versions ≡ changed_versions colours seen cluts →
    (versions' ≡ changed_versions colours' seen cluts'
    → made ≡ f (sent_of colours' whole' (tick ∷ seen) cluts'))
    → made ≡ f (sent_cluts colours whole (tick ∷ seen))
cluts_on f colours colours' cluts cluts' versions versions' seen tick whole whole' made lay a b e w is on =
    let both : changed_versions colours' seen cluts' ≡ changed_versions colours seen cluts =
    ap (λ x. changed_versions x seen cluts') a ∙ ap (λ x. changed_versions colours seen x) b in
    on (e ∙ is ∙ sym both)
    ∙ ap f (ap (λ (x : Bool). sent_of colours' x (tick ∷ seen) cluts') w
    ∙ ap (λ x. sent_of x whole (tick ∷ seen) cluts') a
    ∙ ap (λ x. sent_of colours whole (tick ∷ seen) x) b ∙ sent_named colours whole (tick ∷ seen) cluts lay)

-- ---- the nodes

pub drawn_count_on : (epoch : Epoch) (layout : Layout) (seen : List ℕ) (states : List RegionState)
    → IsLayout epoch layout → states ≡ region_states epoch.cues seen layout.by_id →
    sum_by (λ (current : RegionState). current.drawn_count) states
    ≡ sum_by (λ (region : Region). drawn_count epoch.cues region.id seen) epoch.regions
drawn_count_on epoch layout seen states lay is =
    ap (λ xs. sum_by (λ (current : RegionState). current.drawn_count) xs)
    (is ∙ states_by epoch.cues seen layout.by_id lay.ids lay.by_id)
    ∙ sum_mapped (λ (current : RegionState). current.drawn_count)
    (λ (region : Region). region_state epoch.cues seen region.id) lay.ids
    ∙ sum_by-IsPermutation (λ (region : Region). drawn_count epoch.cues region.id seen) epoch.regions lay.ids
    lay.ordered_ids.same
