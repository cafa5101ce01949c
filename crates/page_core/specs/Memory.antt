-- What a receiver keeps of the display sets and losses that it was handed, and what that has to do with them (EN 300
-- 743, clauses 5.1 and 5.2).
use Rattle.std.specs.Prelude.{◌≡◌, ℕ, ◌+◌, ◌*◌, ◌<◌, ◌≤◌, ◌⊎◌, Bool, false, List, [], ◌∷◌, length, map, reverse, slice_index_or, Option, Some, None, option_map, unwrap_or, All}
use Rattle.std.specs.List.{list_any, range_with_len}
use Rattle.std.specs.Option.{is_some}
use Rattle.sub_base.specs.Colour.{clear, default_of}
use Rattle.sub_base.specs.Depth.{code_count}
use Rattle.sub_base.specs.declared.colour.Colour.{Colour}
use Rattle.sub_base.specs.declared.depth.Depth.{Depth}
use Rattle.sub_base.specs.declared.depth.Depth.TheVariants.{Two, Four, Eight}
use Rattle.sub_base.specs.declared.profile.Profile.{Profile}
use Rattle.stream_syntax.specs.Segments.{Page, Region, Display}
use Rattle.stream_syntax.specs.declared.region.Listing.{Listing}
use Rattle.stream_syntax.specs.declared.region.RegionHead.{RegionHead}
use Rattle.decoder_model.specs.Contents.{object_named, page_in_set}
use Rattle.decoder_model.specs.Faults.{display_in_force, display_or_default}
use Rattle.decoder_model.specs.Free.{free_nodes_after, free_pixels_after}
use Rattle.decoder_model.specs.Ink.{ink_of}
use Rattle.decoder_model.specs.Kept.{last_time}
use Rattle.decoder_model.specs.Nodes.{TableEntry, is_same_entry, region_ids, clut_ids, table_entries}
use Rattle.decoder_model.specs.Pixels.{version_of_object, since_region, pixel_of}
use Rattle.decoder_model.specs.Readings.{Content, Reading}
use Rattle.decoder_model.specs.Sets.{Delivery}
use Rattle.sub_base.specs.Lists.{first_given}
use Rattle.decoder_model.specs.Taken.{Taken, segments_of, taken_of, taken_region, last_clut, version_of_clut}
use Rattle.decoder_model.specs.Verdict.{known_epoch}
use Rattle.pixel_store.specs.Regions.{Regions, region_at, code_of, no_regions}
use Rattle.pixel_store.specs.Regions.{StoredRegion}
use Rattle.page_core.specs.Composition.{AreIdsApart, Composition, KeptListing, KeptRegion, KeptClut, region_in, clut_in, taken_nodes, no_composition}

-- ---- what is kept

-- the profile, page id and anchor of the receiver; the greatest lifted time so far; whether an epoch is known, and then
-- the time-out of its page in seconds; the display; the composition memory; the colours of all CLUTs; and the pixels of
-- the regions
pub record Memory : Type 0 where
  pub profile : Profile
  pub page : ℕ
  pub anchor : ℕ
  pub last : Option ℕ
  pub known : Bool
  pub time_out : ℕ
  pub display : Display
  pub composition : Composition
  pub inks : List Colour
  pub store : Regions

-- the code in a column and a row of a region
abbrev pub code_in : Memory → KeptRegion → ℕ → ℕ → ℕ
code_in memory kept x y = code_of (region_at memory.store kept.slot) x y

-- the three tables of a CLUT stand one after another, and have so many colours together
abbrev pub colours_of_clut : ℕ
colours_of_clut = 276

-- where the table of a depth begins among the colours of its CLUT
abbrev pub first_of_table : Depth → ℕ
first_of_table Two = 0
first_of_table Four = 4
first_of_table Eight = 20

-- the index of an entry of a CLUT among the colours of all CLUTs
abbrev pub ink_place : ℕ → Depth → ℕ → ℕ
ink_place clut depth number = clut * colours_of_clut + first_of_table depth + number

-- the colour of an entry of a CLUT
abbrev pub ink_in : List Colour → ℕ → Depth → ℕ → Colour
ink_in inks clut depth number = slice_index_or inks (ink_place clut depth number) clear

-- the memory with that display
abbrev pub showing : Display → Memory → Memory
showing display memory = record memory { display = display }

-- ---- what holds whatever it was handed

-- an entry that is not among those that are set has its default colour
abbrev pub AreDefaultsBeside : List TableEntry → List Colour → Type 0
AreDefaultsBeside set inks =
    (clut : ℕ) (depth : Depth) (number : ℕ) → clut < 256 → number < code_count depth →
    list_any (is_same_entry (record { clut = clut; depth = depth; entry = number })) set ≡ false
    → ink_in inks clut depth number ≡ default_of depth number

-- an entry is one that a table has
abbrev pub IsInTable : TableEntry → Type 0
IsInTable entry = (entry.clut < 256) × (entry.entry < code_count entry.depth)

-- a region of the store has the sides and the depth of a head
pub record HasSidesOf (head : RegionHead) (region : StoredRegion) : Type 0 where
  pub width : region.width ≡ head.width
  pub height : region.height ≡ head.height
  pub depth : region.depth ≡ head.depth

-- there is a colour for each entry of each table, the default one where it is not set; and what is set are entries of
-- tables
pub record AreInks (set : List TableEntry) (inks : List Colour) : Type 0 where
  pub tables : All IsInTable set
  pub count : length inks ≡ 256 * colours_of_clut
  pub defaults : AreDefaultsBeside set inks

-- what holds of the memory of every receiver: its nodes and bytes are those of the profile; the regions have the slots
-- of the store in order, each with its sides, and ids that are bytes, no two of them the same; and its colours are the
-- default ones where nothing is set
pub record IsWholeMemory (memory : Memory) : Type 0 where
  pub nodes : memory.composition.size ≡ memory.profile.nodes
  pub counted : memory.composition.free + taken_nodes memory.composition ≡ memory.composition.size
  pub size : memory.store.size ≡ memory.profile.pixels
  pub slots : map (λ (kept : KeptRegion). kept.slot) memory.composition.regions
      ≡ range_with_len 0 (length memory.store.regions)
  pub sides : All (λ (kept : KeptRegion). HasSidesOf kept.head (region_at memory.store kept.slot))
      memory.composition.regions
  pub cluts : All (λ (kept : KeptRegion). kept.head.clut < 256) memory.composition.regions
  pub inks : AreInks memory.composition.set_entries memory.inks
  pub ids : All (λ (kept : KeptRegion). kept.head.region < 256) memory.composition.regions
  pub apart : AreIdsApart memory.composition.regions

-- the profile, page id and anchor stay
pub record IsSameReceiver (old new : Memory) : Type 0 where
  pub profile : new.profile ≡ old.profile
  pub page : new.page ≡ old.page
  pub anchor : new.anchor ≡ old.anchor

-- the profile holds the display, or it is the one where none is defined
abbrev pub IsDisplayOf : Profile → Display → Type 0
IsDisplayOf profile display =
    ((display.width ≤ profile.width) × (display.height ≤ profile.height)) ⊎ (display ≡ display_or_default None)

-- no epoch is known; all nodes and all bytes of pixels are free, and all colours are the default ones
pub record IsForgotten (memory : Memory) : Type 0 where
  pub known : memory.known ≡ false
  pub display : memory.display ≡ display_or_default None
  pub composition : memory.composition ≡ no_composition memory.profile.nodes
  pub inks : AreDefaultsBeside [] memory.inks
  pub store : memory.store ≡ no_regions memory.profile.pixels

-- all is forgotten but the greatest lifted time
pub record Forgets (old new : Memory) : Type 0 where
  pub same : IsSameReceiver old new
  pub last : new.last ≡ old.last
  pub forgotten : IsForgotten new

-- ---- what it has to do with the segments of an epoch

-- a listing of the region of that id, with the version of its object's last segment since the region's
abbrev pub kept_listing : Taken → ℕ → Listing → KeptListing
kept_listing taken id listing =
    record {
      listing = listing;
      painted = version_of_object
          (first_given (object_named listing.object) (since_region id taken));
    }

-- the head of a region segment: all of it but the objects that it lists
abbrev pub head_of : Region → RegionHead
head_of region = region.head

-- the memory has what these segments of an epoch give, the latest first; those that are not taken are among them
pub record HoldsSegments (segments : List Content) (memory : Memory) : Type 0 where
  pub display : memory.display ≡ display_in_force segments
  -- the regions, in the order of their first segments, and each by its last taken one
  pub region_ids : map (λ (kept : KeptRegion). kept.head.region) memory.composition.regions
      ≡ reverse (region_ids (taken_of segments))
  pub heads : (id : ℕ) →
      option_map (λ (kept : KeptRegion). kept.head) (region_in memory.composition id)
      ≡ option_map head_of (taken_region id (taken_of segments))
  pub listings : (id : ℕ) →
      option_map (λ (kept : KeptRegion). kept.listings) (region_in memory.composition id)
      ≡ option_map (λ (region : Region). map (kept_listing (taken_of segments) id) region.listings)
      (taken_region id (taken_of segments))
  pub pixels : (id x y : ℕ) (kept : KeptRegion) → region_in memory.composition id ≡ Some kept
      → x < kept.head.width
      → y < kept.head.height →
      code_in memory kept x y ≡ pixel_of (taken_of segments) id x y
  -- the CLUTs, in the order of their first segments, with the versions of their last taken ones
  pub clut_ids : map (λ (kept : KeptClut). kept.clut) memory.composition.cluts
      ≡ reverse (clut_ids (taken_of segments))
  pub versions : (id : ℕ) →
      option_map (λ (kept : KeptClut). kept.version) (clut_in memory.composition id)
      ≡ version_of_clut (last_clut id (taken_of segments).segments)
  pub inks : (id : ℕ) (depth : Depth) (number : ℕ) → id < 256 → number < code_count depth →
      ink_in memory.inks id depth number ≡ ink_of (taken_of segments) id depth number
  -- the table entries that are set: these, and as many
  pub set_entries : (entry : TableEntry) →
      list_any (is_same_entry entry) memory.composition.set_entries
      ≡ list_any (is_same_entry entry) (table_entries (taken_of segments))
  pub set_count : length memory.composition.set_entries ≡ length (table_entries (taken_of segments))

-- ---- what it has to do with all that was handed

-- the segments of the epoch that is known after a past, the latest first, and none where no epoch is known
abbrev pub known_segments : Profile → ℕ → List (Delivery Reading) → List Content
known_segments profile anchor past = segments_of (unwrap_or (known_epoch profile anchor past) [])

-- the memory is that after this past, the latest first, of sets, refused sets and losses
pub record IsMemoryAfter (past : List (Delivery Reading)) (memory : Memory) : Type 0 where
  pub last : memory.last ≡ last_time memory.anchor past
  pub known : memory.known ≡ is_some (known_epoch memory.profile memory.anchor past)
  pub holds : HoldsSegments (known_segments memory.profile memory.anchor past) memory
  -- the page is that of the last set of the epoch
  pub time_out : (set : List Content) (before : List (List Content)) (page : Page) →
      known_epoch memory.profile memory.anchor past ≡ Some (set ∷ before) → page_in_set set ≡ Some page
      → memory.time_out ≡ page.time_out
  pub entries : (set : List Content) (before : List (List Content)) (page : Page) →
      known_epoch memory.profile memory.anchor past ≡ Some (set ∷ before) → page_in_set set ≡ Some page →
      memory.composition.entries ≡ page.entries
  pub free_nodes : memory.composition.free ≡ free_nodes_after memory.profile memory.anchor past
  pub free_pixels : memory.store.free ≡ free_pixels_after memory.profile memory.anchor past
