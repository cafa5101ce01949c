-- What stays in an epoch, and what is read off it.
use Rattle.std.specs.Prelude.{◌≡◌, ℕ, List, length, map, filter, All, slice_index_or}
use Rattle.std.specs.List.Sorted.{IsPermutation, IsNonDecreasingBy}
use Rattle.sub_base.specs.Lists.{has_some}
use Rattle.cue_list.specs.declared.epoch.Epoch.{Epoch}
use Rattle.cue_records.specs.declared.region.Region.{Region}
use Rattle.page_epoch.specs.declared.region_state.RegionState.{RegionState}
use Rattle.page_epoch.specs.declared.layout.Layout.{Layout}
use Rattle.page_epoch.specs.declared.layout.PageRegion.{PageRegion}
use Rattle.page_epoch.specs.Live.{no_region, places_below}
use Rattle.page_epoch.specs.SentRegions.{AreOrdered}
use Rattle.page_epoch.specs.SentCluts.{named_cluts}
use Rattle.page_epoch.specs.Needs.{pixel_need}
use Rattle.page_epoch.specs.Private.Changes.{AreChanges}
use Rattle.page_epoch.specs.EpochStates.{first_region_state, AreOwn}

-- the region at a place
abbrev pub region_at : List Region → ℕ → Region
region_at regions place = slice_index_or regions place no_region

-- the region at a place, with that place
abbrev pub page_region_at : List Region → ℕ → PageRegion
page_region_at regions place =
    record { y = (region_at regions place).y; id = (region_at regions place).id; place = place }

-- all regions, from the top of the display
pub record ArePageRegions (regions : List Region) (page_regions : List PageRegion) : Type 0 where
  pub same : IsPermutation (map (page_region_at regions) (places_below (length regions))) page_regions
  pub rise : IsNonDecreasingBy (λ page_region. page_region.y) page_regions

-- the regions, CLUTs and rows of an epoch, in order
pub record IsLayout (epoch : Epoch) (layout : Layout) : Type 0 where
  pub ids : List Region
  pub ordered_ids : AreOrdered (λ region. region.id) epoch.regions ids
  pub by_id : map (λ region. region.id) layout.by_id ≡ map (λ region. region.id) ids
  pub own : AreOwn epoch.cues layout.by_id
  pub by_y : ArePageRegions ids layout.by_y
  pub cluts : map (λ clut. clut.clut) layout.cluts ≡ named_cluts epoch.colours
  pub changes : All (AreChanges epoch.colours) layout.cluts
  pub pixels : layout.pixels ≡ pixel_need epoch.regions

-- the state of a region at a place
abbrev pub state_at : List RegionState → ℕ → RegionState
state_at states place = slice_index_or states place first_region_state

-- the numbers of the regions of these that have a live cue
abbrev pub shown_of : List RegionState → List PageRegion → List ℕ
shown_of states page_regions =
    map (λ page_region. page_region.id)
    (filter (λ page_region. has_some (state_at states page_region.place).live) page_regions)
