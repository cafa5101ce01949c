-- Region segments that are taken (EN 300 743, clause 7.2.3), one after another.
use Rattle.std.specs.Prelude.{◌≡◌, ℕ, ◌+◌, ◌-◌, ◌==◌, ◌≤◌, ◌<◌, Bool, true, false, if◌then◌else◌, List, [], ◌∷◌, ◌++◌, length, map, filter, reverse, sum_by, Option, Some, None, option_map, All}
use Rattle.std.specs.List.{list_any, range_with_len}
use Rattle.std.specs.Option.{option_map_or}
use Rattle.stream_syntax.specs.Segments.{Region, SegmentValue, of_page, of_region, of_clut, of_object, of_display, end_of_set, passed_over}
use Rattle.stream_syntax.specs.declared.region.Listing.{Listing}
use Rattle.stream_syntax.specs.declared.region.RegionHead.{RegionHead}
use Rattle.decoder_model.specs.Contents.{region_named, region_of}
use Rattle.decoder_model.specs.Faults.{has_same_shape, pixels_full, region_changed}
use Rattle.decoder_model.specs.Nodes.{listings_held, pixels_used, region_ids}
use Rattle.decoder_model.specs.Pixels.{code_by_fill, pixel_of}
use Rattle.decoder_model.specs.Readings.{Content}
use Rattle.decoder_model.specs.Taken.{Taken, is_taken, taken_of, taken_region}
use Rattle.sub_base.specs.declared.profile.Profile.{Profile}
use Rattle.pixel_store.specs.Regions.{PlacesOne, Regions, code_of, region_at}
use Rattle.page_core.specs.Composition.{AreIdsApart, Composition, KeptListing, KeptRegion, region_in, taken_nodes}
use Rattle.page_core.specs.Memory.{HasSidesOf, Memory, head_of, kept_listing}
use Rattle.block_painting.specs.Writing.{IsWritten}
use Rattle.page_core.specs.Private.Painted.{FitsHead}
use Rattle.page_core.specs.Private.RegionTests.{first_in, head_in, is_new}
use Rattle.page_core.specs.Private.Walks.{is_region}
use Rattle.sub_base.specs.Depth.{pixel_bytes}

-- ---- one change of a composition

-- a listing whose object was not painted since its region's segment
abbrev pub fresh : Listing → KeptListing
fresh listing = record { listing = listing; painted = None }

-- the composition with other regions, and so many free nodes
abbrev pub with_regions : List KeptRegion → ℕ → Composition → Composition
with_regions regions free composition = record composition { regions = regions; free = free }

-- the regions of that id are changed
abbrev pub changed_at : ℕ → (KeptRegion → KeptRegion) → KeptRegion → KeptRegion
changed_at id change kept = if kept.head.region == id then change kept else kept

-- a region without its listings
abbrev pub bare : KeptRegion → KeptRegion
bare kept = record { head = kept.head; slot = kept.slot; listings = [] }

-- a region with that head, in the slot that it has
abbrev pub headed : RegionHead → KeptRegion → KeptRegion
headed head kept = record { head = head; slot = kept.slot; listings = kept.listings }

-- a region with these listings behind its own, whose objects were not painted yet
abbrev pub listing_more : List Listing → KeptRegion → KeptRegion
listing_more listings kept =
    record { head = kept.head; slot = kept.slot; listings = kept.listings ++ map fresh listings }

-- how many listings a region has
abbrev pub count_kept : Option KeptRegion → ℕ
count_kept None = 0
count_kept (Some kept) = length kept.listings

-- the listings of the region of that id are out, and their nodes are free
abbrev pub without_listings : ℕ → Composition → Composition
without_listings id composition =
    with_regions (map (changed_at id bare) composition.regions)
    (composition.free + count_kept (region_in composition id)) composition

-- the region of the head's id has that head
abbrev pub with_head : RegionHead → Composition → Composition
with_head head composition =
    with_regions (map (changed_at head.region (headed head)) composition.regions) composition.free composition

-- the region of that id has these listings behind its own
abbrev pub with_listings : ℕ → List Listing → Composition → Composition
with_listings id listings composition =
    with_regions (map (changed_at id (listing_more listings)) composition.regions) (composition.free - length listings)
    composition

-- there is one more region, without listings
abbrev pub with_region : RegionHead → ℕ → Composition → Composition
with_region head slot composition =
    with_regions (composition.regions ++ record { head = head; slot = slot; listings = [] } ∷ [])
    (composition.free - 1)
    composition

-- the slot of a region
abbrev pub slot_in : Composition → ℕ → Option ℕ
slot_in composition id = option_map (λ (kept : KeptRegion). kept.slot) (region_in composition id)

-- ---- what the numbers of a segment are

-- the numbers of a region segment's head fit their fields, and its sides are at least 1
pub record IsValidHead (head : RegionHead) : Type 0 where
  pub fits : FitsHead head
  pub region : head.region < 256
  pub width : 1 ≤ head.width
  pub height : 1 ≤ head.height

-- the numbers of a segment are valid where it is a region segment; of any other one nothing is said
abbrev pub IsValidValue : SegmentValue → Type 0
IsValidValue (of_page value) = Unit {0}
IsValidValue (of_region value) = IsValidHead value.head
IsValidValue (of_clut value) = Unit {0}
IsValidValue (of_object value) = Unit {0}
IsValidValue (of_display value) = Unit {0}
IsValidValue end_of_set = Unit {0}
IsValidValue passed_over = Unit {0}

-- ---- the regions and their pixels

-- the nodes are counted, and the regions have the slots of a store in order, each with its sides, and ids that are
-- bytes, no two of them the same
pub record AreStored (composition : Composition) (store : Regions) : Type 0 where
  pub counted : composition.free + taken_nodes composition ≡ composition.size
  pub slots : map (λ (kept : KeptRegion). kept.slot) composition.regions ≡ range_with_len 0 (length store.regions)
  pub sides : All (λ (kept : KeptRegion). HasSidesOf kept.head (region_at store kept.slot)) composition.regions
  pub cluts : All (λ (kept : KeptRegion). kept.head.clut < 256) composition.regions
  pub ids : All (λ (kept : KeptRegion). kept.head.region < 256) composition.regions
  pub apart : AreIdsApart composition.regions

-- all but the regions and the free nodes is as it was
pub record KeepsBesideRegions (old new : Composition) : Type 0 where
  pub size : new.size ≡ old.size
  pub entries : new.entries ≡ old.entries
  pub cluts : new.cluts ≡ old.cluts
  pub set_entries : new.set_entries ≡ old.set_entries

-- a region that is new is put in, and filled where its segment says so
pub record IsNewRegion (region : Region) (old : Composition) (before : Regions) (new : Composition)
    (after : Regions) : Type 0 where
  pub slot : ℕ
  pub between : Regions
  pub composition : new ≡ with_listings region.head.region region.listings (with_region region.head slot old)
  pub placed : PlacesOne region.head.width region.head.height region.head.depth slot before between
  pub written : IsWritten slot (λ x y. code_by_fill region.head.region region.head) between after

-- a region that is known has another head and more listings, and is filled where its segment says so
pub record IsTakenAgain (region : Region) (old : Composition) (before : Regions) (new : Composition)
    (after : Regions) : Type 0 where
  pub kept : KeptRegion
  pub known : region_in old region.head.region ≡ Some kept
  pub composition : new ≡ with_listings region.head.region region.listings (with_head region.head old)
  pub written : IsWritten kept.slot (λ x y. code_by_fill region.head.region region.head) before after

-- a region segment is taken or not, by the head that is known: where there is room, and the region keeps its size and
-- depth
pub record IsRegionTaken (region : Region) (old : Composition) (before : Regions) (new : Composition)
    (after : Regions) : Type 0 where
  pub held : is_new region.head (head_in old region.head.region) ≡ false → (new ≡ old) × (after ≡ before)
  pub first : head_in old region.head.region ≡ None → 1 + length region.listings ≤ old.free
      → pixel_bytes region.head.width region.head.height region.head.depth ≤ before.free
      → IsNewRegion region old before new after
  pub again : (last : RegionHead) → head_in old region.head.region ≡ Some last
      → is_new region.head (Some last) ≡ true
      → has_same_shape region.head last ≡ true
      → length region.listings ≤ old.free → IsTakenAgain region old before new after

-- ---- the regions of a set

-- a region segment of a set takes the place of that head
abbrev pub renews : RegionHead → Content → Bool
renews head content =
    option_map_or (λ (region : Region). is_new region.head (Some head)) (region_named head.region content) false

-- some region segment of a set takes the place of that head
abbrev pub is_renewed : List Content → RegionHead → Bool
is_renewed set head = list_any (renews head) set

-- a region is without its listings where a segment of a set takes its place
abbrev pub bare_where : Bool → KeptRegion → KeptRegion
bare_where renewed kept = if renewed then bare kept else kept

-- a region that is kept, without its listings where a segment of a set takes the place of its head
abbrev pub bare_by : List Content → KeptRegion → KeptRegion
bare_by set kept = bare_where (is_renewed set kept.head) kept

-- a segment takes the place of a head that is known
abbrev pub takes_place : RegionHead → Option RegionHead → Bool
takes_place head None = false
takes_place head (Some last) = is_new head (Some last)

-- the listings of the region of an id are out, where that is so
abbrev pub cleared_where : Bool → ℕ → Composition → Composition
cleared_where renewed id composition = if renewed then without_listings id composition else composition

-- the regions that a set renews are without their listings
abbrev pub AreBare : List Content → Composition → Composition → Type 0
AreBare set old new = new.regions ≡ map (bare_by set) old.regions

-- how many listings the regions have
abbrev pub listings_kept : Composition → ℕ
listings_kept composition = sum_by (λ (kept : KeptRegion). length kept.listings) composition.regions

-- the segments of an epoch with the regions of a set
abbrev pub with_regions_of : List Content → List Content → List Content
with_regions_of older set = reverse (filter is_region set) ++ older

-- ---- some regions of a set taken, and others not yet

-- the listings of a region, where segments that are not taken yet leave them
abbrev pub awaited : Bool → List KeptListing → List KeptListing
awaited renewed listings = if renewed then [] else listings

-- a composition and a store have the regions that taken segments of an epoch give; those that some further regions of a
-- set renew are without their listings
pub record AwaitRegions (taken : Taken) (left : List Content) (composition : Composition)
    (store : Regions) : Type 0 where
  pub region_ids : map (λ (kept : KeptRegion). kept.head.region) composition.regions ≡ reverse (region_ids taken)
  pub heads : (id : ℕ) → head_in composition id ≡ option_map head_of (taken_region id taken)
  pub listings : (id : ℕ) →
      option_map (λ (kept : KeptRegion). kept.listings) (region_in composition id)
      ≡ option_map
      (λ (region : Region). awaited (is_renewed left region.head) (map (kept_listing taken id) region.listings))
      (taken_region id taken)
  pub pixels : (id x y : ℕ) (kept : KeptRegion) → region_in composition id ≡ Some kept → x < kept.head.width
      → y < kept.head.height →
      code_of (region_at store kept.slot) x y ≡ pixel_of taken id x y

-- how many nodes a region segment needs, by whether it is taken and by the last taken one of its region: one where the
-- region is new, and one for each listing
abbrev pub nodes_needed_by : Bool → Option Region → Region → ℕ
nodes_needed_by false known region = 0
nodes_needed_by true None region = 1 + length region.listings
nodes_needed_by true (Some last) region = length region.listings

-- how many nodes a segment, by the region that it has, needs behind earlier segments, the latest first
abbrev pub nodes_needed_for : List Content → Content → Option Region → ℕ
nodes_needed_for earlier content None = 0
nodes_needed_for earlier content (Some region) =
    nodes_needed_by (is_taken earlier content.value) (taken_region region.head.region (taken_of earlier)) region

-- how many nodes the regions of a set that are left need behind earlier segments, the latest first
abbrev pub nodes_needed : List Content → List Content → ℕ
nodes_needed earlier [] = 0
nodes_needed earlier (content ∷ left) =
    nodes_needed_for earlier content (region_of content) + nodes_needed (content ∷ earlier) left

-- some regions of a set can be taken behind earlier segments
pub record AreReady (profile : Profile) (segments left : List Content) (composition : Composition)
    (store : Regions) : Type 0 where
  pub regions : AwaitRegions (taken_of segments) left composition store
  pub changed : first_in region_changed segments left ≡ None
  pub room : first_in (pixels_full profile) segments left ≡ None
  pub free : store.free ≡ profile.pixels - pixels_used (taken_of segments)
  pub nodes : nodes_needed segments left ≤ composition.free

-- ---- all of it

-- the regions of a set are right behind older segments: none changes the size or depth of another, all have room in the
-- store, and there are nodes for what the epoch has with them
pub record AreRegionsValid (older set : List Content) (memory : Memory) : Type 0 where
  pub changed : first_in region_changed older (filter is_region set) ≡ None
  pub room : first_in (pixels_full memory.profile) older (filter is_region set) ≡ None
  pub free : memory.store.free ≡ memory.profile.pixels - pixels_used (taken_of older)
  pub nodes : length (region_ids (taken_of (with_regions_of older set)))
      + listings_held (taken_of (with_regions_of older set))
      ≤ memory.composition.free + length memory.composition.regions + listings_kept memory.composition

-- all but the regions, their listings and pixels, and the free nodes is as it was
pub record KeepsButRegions (old new : Memory) : Type 0 where
  pub profile : new.profile ≡ old.profile
  pub page : new.page ≡ old.page
  pub anchor : new.anchor ≡ old.anchor
  pub last : new.last ≡ old.last
  pub known : new.known ≡ old.known
  pub time_out : new.time_out ≡ old.time_out
  pub display : new.display ≡ old.display
  pub size : new.composition.size ≡ old.composition.size
  pub entries : new.composition.entries ≡ old.composition.entries
  pub cluts : new.composition.cluts ≡ old.composition.cluts
  pub set_entries : new.composition.set_entries ≡ old.composition.set_entries
  pub inks : new.inks ≡ old.inks
