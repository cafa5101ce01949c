-- The composition memory of a receiver (EN 300 743, clause 5.2): the page, the regions and CLUTs of the epoch, and what
-- is set in these. Each entry, region, listing, CLUT and set table entry takes one node.
use Rattle.std.specs.Prelude.{◌≡◌, ℕ, ◌+◌, ◌-◌, ◌==◌, false, List, [], ◌∷◌, length, drop, find, sum_by, Option}
use Rattle.std.specs.List.{list_any}
use Rattle.stream_syntax.specs.declared.page.PageEntry.{PageEntry}
use Rattle.stream_syntax.specs.declared.region.Listing.{Listing}
use Rattle.stream_syntax.specs.declared.region.RegionHead.{RegionHead}
use Rattle.decoder_model.specs.Nodes.{TableEntry}

-- a listing of a region, and the version with which its object was painted there last; none where it is unpainted
pub record KeptListing : Type 0 where
  pub listing : Listing
  pub painted : Option ℕ

-- a region of the epoch: its head and its listings, by its last taken segment, and the slot of its pixels
pub record KeptRegion : Type 0 where
  pub head : RegionHead
  pub slot : ℕ
  pub listings : List KeptListing

-- a CLUT of the epoch, and the version of its last taken segment
pub record KeptClut : Type 0 where
  pub clut : ℕ
  pub version : ℕ

-- how many nodes there are; the entries of the page; the regions and the CLUTs in the order in which the epoch defined
-- them, each once; the table entries that are set, each once; and how many nodes are free
pub record Composition : Type 0 where
  pub size : ℕ
  pub entries : List PageEntry
  pub regions : List KeptRegion
  pub cluts : List KeptClut
  pub set_entries : List TableEntry
  pub free : ℕ

-- nothing is kept, and all of so many nodes are free
abbrev pub no_composition : ℕ → Composition
no_composition nodes = record { size = nodes; entries = []; regions = []; cluts = []; set_entries = []; free = nodes }

-- the region of that id, where the epoch has one
abbrev pub region_in : Composition → ℕ → Option KeptRegion
region_in composition id = find (λ (kept : KeptRegion). kept.head.region == id) composition.regions

-- the CLUT of that id, where the epoch has one
abbrev pub clut_in : Composition → ℕ → Option KeptClut
clut_in composition id = find (λ (kept : KeptClut). kept.clut == id) composition.cluts

-- no two regions that are kept have one id
abbrev pub AreIdsApart : List KeptRegion → Type 0
AreIdsApart [] = Unit {0}
AreIdsApart (kept ∷ regions) =
    (list_any (λ (other : KeptRegion). other.head.region == kept.head.region) regions ≡ false) × AreIdsApart regions

-- how many nodes are taken
abbrev pub taken_nodes : Composition → ℕ
taken_nodes composition =
    length composition.entries
    + length composition.regions
    + sum_by (λ (kept : KeptRegion). length kept.listings) composition.regions
    + length composition.cluts
    + length composition.set_entries

-- the first of the table entries that are set is no more among them
abbrev pub without_colour : Composition → Composition
without_colour composition = record composition {
  set_entries = drop 1 composition.set_entries;
  free = composition.free + 1;
}

-- with these entries of the page in place of those that were there
abbrev pub with_entries : List PageEntry → Composition → Composition
with_entries entries composition = record composition {
  entries = entries;
  free = composition.free + length composition.entries - length entries;
}
