-- What the nodes of a pool stand for in a composition. List 0 has the entries of the page, list 1 the regions, list 2
-- the CLUTs, list 3 the table entries that are set, and list 4 + id the listings of the region of that id.
use Rattle.std.specs.Prelude.{◌≡◌, ℕ, ◌+◌, ◌==◌, ◌<◌, Bool, true, false, List, length, map, filter_map, find, All, Option, Some, None, option_map, slice_index_or, Contains}
use Rattle.std.specs.Option.{is_some, option_map_or}
use Rattle.stream_syntax.specs.declared.page.PageEntry.{PageEntry}
use Rattle.decoder_model.specs.Nodes.{TableEntry}
use Rattle.comp_pool.specs.Pool.{PoolOf, list_of, node_count}
use Rattle.comp_pool.specs.declared.node.NodeId.{NodeId}
use Rattle.page_core.specs.Private.Lists.{IsPopped}
use Rattle.page_core.specs.Composition.{Composition, KeptListing, KeptRegion, KeptClut}
use Rattle.page_core.specs.declared.node.Node.{Node}
use Rattle.page_core.specs.declared.node.Node.TheVariants as node
use Rattle.page_core.specs.declared.node.RegionNode.{RegionNode}
use Rattle.page_core.specs.declared.node.ListingNode.{ListingNode}
use Rattle.page_core.specs.declared.node.ClutNode.{ClutNode}
use Rattle.page_core.specs.declared.node.TablePlace.{TablePlace}

-- ---- the kinds of nodes

-- the entry of the page that a node has, if it has one
abbrev pub entry_in : Node → Option PageEntry
entry_in (node.Entry entry) = Some entry
entry_in (node.Region region) = None
entry_in (node.Listing listing) = None
entry_in (node.Clut clut) = None
entry_in (node.Colour place) = None

-- the head and the slot of the region that a node has, if it has one
abbrev pub region_node : Node → Option RegionNode
region_node (node.Entry entry) = None
region_node (node.Region region) = Some region
region_node (node.Listing listing) = None
region_node (node.Clut clut) = None
region_node (node.Colour place) = None

-- the listing of a node, as a composition keeps it
abbrev pub listing_kept : ListingNode → KeptListing
listing_kept kept = record { listing = kept.listing; painted = kept.painted }

-- the listing of a region that a node has, if it has one
abbrev pub listing_in : Node → Option KeptListing
listing_in (node.Entry entry) = None
listing_in (node.Region region) = None
listing_in (node.Listing listing) = Some (listing_kept listing)
listing_in (node.Clut clut) = None
listing_in (node.Colour place) = None

-- the CLUT of a node, as a composition keeps it
abbrev pub clut_kept : ClutNode → KeptClut
clut_kept kept = record { clut = kept.clut; version = kept.version }

-- the CLUT that a node has, if it has one
abbrev pub clut_node : Node → Option KeptClut
clut_node (node.Entry entry) = None
clut_node (node.Region region) = None
clut_node (node.Listing listing) = None
clut_node (node.Clut clut) = Some (clut_kept clut)
clut_node (node.Colour place) = None

-- the table entry that a node stands for: the id of its CLUT, the depth of its table, and its number there
abbrev pub place_kept : TablePlace → TableEntry
place_kept place = record { clut = place.clut; depth = place.depth; entry = place.entry }

-- the table entry that is set by what a node has, if it has one
abbrev pub colour_in : Node → Option TableEntry
colour_in (node.Entry entry) = None
colour_in (node.Region region) = None
colour_in (node.Listing listing) = None
colour_in (node.Clut clut) = None
colour_in (node.Colour place) = Some (place_kept place)

-- ---- the lists

-- how many lists there are
abbrev pub list_count : ℕ
list_count = 260

-- the number of the list that has the listings of the region of that id
abbrev pub listings_list : ℕ → ℕ
listings_list id = 4 + id

-- the items of a list that are of a kind
abbrev pub kept_in : {X : Type 0} → (Node → Option X) → List (NodeId × Node) → List X
kept_in kind pairs = filter_map (λ (pair : NodeId × Node). kind pair.1) pairs

-- all items of a list are of a kind
abbrev pub AreKind : {X : Type 0} → (Node → Option X) → List (NodeId × Node) → Type 0
AreKind kind pairs = All (λ (pair : NodeId × Node). is_some (kind pair.1) ≡ true) pairs

-- the region of a node, as a composition keeps it, with the listings that the pool has of it
abbrev pub region_kept : PoolOf Node → RegionNode → KeptRegion
region_kept pool region =
    record {
      head = region.head;
      slot = region.slot;
      listings = kept_in listing_in
          (list_of pool (listings_list region.head.region));
    }

-- the composition of a pool
abbrev pub composition_of : PoolOf Node → Composition
composition_of pool = record {
  size = node_count pool;
  entries = kept_in entry_in (list_of pool 0);
  regions = map (region_kept pool) (kept_in region_node (list_of pool 1));
  cluts = kept_in clut_node (list_of pool 2);
  set_entries = kept_in colour_in (list_of pool 3);
  free = pool.free;
}

-- the pool has these lists, each of items of its kind
pub record IsSorted (pool : PoolOf Node) : Type 0 where
  pub lists : length pool.lists ≡ list_count
  pub entries : AreKind entry_in (list_of pool 0)
  pub regions : AreKind region_node (list_of pool 1)
  pub cluts : AreKind clut_node (list_of pool 2)
  pub colours : AreKind colour_in (list_of pool 3)
  pub listings : (id : ℕ) → id < 256 → AreKind listing_in (list_of pool (listings_list id))

-- the node of a pair has the region of that id
abbrev pub is_region_of : ℕ → NodeId × Node → Bool
is_region_of id pair = option_map_or (λ (region : RegionNode). region.head.region == id) (region_node pair.1) false

-- the node of a pair has the CLUT of that id
abbrev pub is_clut_of : ℕ → NodeId × Node → Bool
is_clut_of id pair = option_map_or (λ (kept : KeptClut). kept.clut == id) (clut_node pair.1) false

-- the node of a pair, without its item
abbrev pub node_of : NodeId × Node → NodeId
node_of pair = pair.0

-- the tables have the nodes of the regions and of the CLUTs by their ids
pub record IsIndexed (pool : PoolOf Node) (region_nodes clut_nodes : List (Option NodeId)) : Type 0 where
  pub regions : (id : ℕ) → id < 256
      → slice_index_or region_nodes id None ≡ option_map node_of (find (is_region_of id) (list_of pool 1))
  pub cluts : (id : ℕ) → id < 256
      → slice_index_or clut_nodes id None ≡ option_map node_of (find (is_clut_of id) (list_of pool 2))

-- the first node of list l is taken out: it was of that kind, and has this
abbrev pub IsPoppedAs : {X : Type 0} → (Node → Option X) → ℕ → X → PoolOf Node → PoolOf Node → Type 0
IsPoppedAs kind l found old new = (item : Node) × (kind item ≡ Some found) × IsPopped l item old new

-- what a node of list 1 has, as a region
abbrev pub IsRegionOf : PoolOf Node → Option NodeId → Option RegionNode → Type 0
IsRegionOf pool None found = found ≡ None
IsRegionOf pool (Some name) found =
    (item : Node) × Contains (list_of pool 1) (name, item) × (found ≡ region_node item)
