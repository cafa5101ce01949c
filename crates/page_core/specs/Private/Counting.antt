-- How many nodes a set needs, counted before anything is changed (EN 300 743, clause 5.2).
use Rattle.std.specs.Prelude.{◌≡◌, ℕ, ◌+◌, ◌*◌, ◌==◌, ◌≤◌, ◌<◌, ◌^◌, true, if◌then◌else◌, List, ◌∷◌, ◌++◌, filter, length, map, reverse, Option, Some, None, option_map, slice_index_or, sum_by}
use Rattle.std.specs.List.{list_any}
use Rattle.std.specs.Option.{option_or}
use Rattle.stream_syntax.specs.Segments.{Region}
use Rattle.decoder_model.specs.Nodes.{TableEntry, clut_ids, is_same_entry, listings_held, region_ids, table_entries}
use Rattle.decoder_model.specs.Readings.{Content}
use Rattle.decoder_model.specs.Taken.{Taken, version_of_clut, last_clut, taken_among, taken_of, taken_region}
use Rattle.page_core.specs.Private.ClutSteps.{Placed, entries_placed, entry_of, placed_by}
use Rattle.page_core.specs.Composition.{Composition, KeptClut, KeptRegion, clut_in, region_in}
use Rattle.page_core.specs.Private.Marks.{AreMarked}
use Rattle.page_core.specs.Memory.{head_of}
use Rattle.page_core.specs.Private.RegionTests.{before_regions}
use Rattle.page_core.specs.Private.Walks.{is_region}
use Rattle.page_core.specs.declared.marks.Mark.{Mark}

-- ---- regions

-- the nodes that a region segment adds, by what is kept of its region: its own where it is new, and those of its
-- listings unless its version is known
abbrev pub added_by : Region → Option KeptRegion → ℕ
added_by region None = length region.listings + 1
added_by region (Some kept) = if kept.head.version == region.head.version then 0 else length region.listings

-- those that it takes away: of the listings in whose place its own come
abbrev pub gone_by : Region → Option KeptRegion → ℕ
gone_by region None = 0
gone_by region (Some kept) = if kept.head.version == region.head.version then 0 else length kept.listings

-- these segments of an epoch, the latest first, as those that are taken
abbrev pub of_taken : List Content → Taken
of_taken taken = record { segments = taken }

-- the nodes of the regions of taken segments, and of their listings
abbrev pub region_need : List Content → ℕ
region_need taken = length (region_ids (of_taken taken)) + listings_held (of_taken taken)

-- what is kept of a region has the head, and as many listings, as its last taken segment
pub record IsKeptOf (kept : Option KeptRegion) (last : Option Region) : Type 0 where
  pub head : option_map (λ (one : KeptRegion). one.head) kept ≡ option_map head_of last
  pub listings : option_map (λ (one : KeptRegion). length one.listings) kept
      ≡ option_map (λ (one : Region). length one.listings) last

-- the regions that are kept are those of an epoch
abbrev pub AreKept : List Content → Composition → Type 0
AreKept segments composition = (id : ℕ) → IsKeptOf (region_in composition id) (taken_region id (taken_of segments))

-- the regions of a set add so many nodes, no more than 65,536 for each of 256 regions, and take so many away
pub record HasRegionNeed (older set : List Content) (added gone : ℕ) : Type 0 where
  pub exact : region_need (taken_among (reverse (filter is_region set) ++ before_regions older set)) + gone
      ≡ region_need (taken_among older) + added
  pub few : added ≤ 65536 * 256

-- ---- CLUTs

-- the nodes of the CLUTs of taken segments, and of the entries that they set
abbrev pub clut_need : List Content → ℕ
clut_need taken = length (clut_ids (of_taken taken)) + length (table_entries (of_taken taken))

-- the versions of CLUTs in a set so far, and else those that are kept, are the last ones of an epoch
abbrev pub HasVersions : List Content → Composition → List (Option ℕ) → Type 0
HasVersions segments composition versions = (id : ℕ) → id < 256 →
    option_or (slice_index_or versions id None)
    (option_map (λ (kept : KeptClut). kept.version) (clut_in composition id))
    ≡ version_of_clut (last_clut id (taken_of segments).segments)

-- the node of a CLUT of which no version is known
abbrev pub new_or_none : Option ℕ → ℕ
new_or_none None = 1
new_or_none (Some version) = 0

-- the marks tell which entries are set, and which of the others are among those that were placed; and what is set was
-- placed
pub record AreCounted (placed : List Placed) (set : List TableEntry) (marks : List Mark) : Type 0 where
  pub marked : AreMarked set (map entry_of placed) marks
  pub among : (entry : TableEntry) → list_any (is_same_entry entry) set ≡ true
      → list_any (is_same_entry entry) (map entry_of placed) ≡ true

-- whatever was placed and counted, those are counted too, and are so many more
abbrev pub CountsMore : (List Placed → List Placed) → List Mark → List Mark → ℕ → Type 0
CountsMore more old new count = (placed : List Placed) (set : List TableEntry) → AreCounted placed set old
    → entries_placed (more placed) < 2 ^ 63
    → AreCounted (more placed) set new × (entries_placed (more placed) ≡ entries_placed placed + count)

-- with one more CLUT segment of a set the versions and the marks are those with it, and so many nodes more are needed
pub record IsClutCounted (earlier : List Content) (content : Content) (composition : Composition)
    (versions : List (Option ℕ)) (marks : List Mark) (count : ℕ) : Type 0 where
  pub known : HasVersions (content ∷ earlier) composition versions
  pub counted : AreCounted (placed_by (taken_among (content ∷ earlier))) composition.set_entries marks
  pub exact : clut_need (taken_among (content ∷ earlier)) ≡ clut_need (taken_among earlier) + count

-- ---- what is kept

-- the nodes of a composition but for those of the entries of the page
abbrev pub kept_need : Composition → ℕ
kept_need composition =
    length composition.regions + sum_by (λ (kept : KeptRegion). length kept.listings) composition.regions
    + length composition.cluts + length composition.set_entries
