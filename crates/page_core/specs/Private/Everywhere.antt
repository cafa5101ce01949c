-- What an object does in all regions.
use Rattle.std.specs.Prelude.{◌≡◌, ℕ, ◌<◌, Bool, false, if◌then◌else◌, List, [], ◌∷◌, ◌++◌, length, map, Contains, Some, None}
use Rattle.std.specs.List.{list_any}
use Rattle.sub_base.specs.Lists.{last_given}
use Rattle.stream_syntax.specs.Segments.{Object}
use Rattle.comp_pool.specs.Pool.{PoolOf, list_of, node_count}
use Rattle.comp_pool.specs.declared.node.NodeId.{NodeId}
use Rattle.decoder_model.specs.Readings.{Content}
use Rattle.pixel_store.specs.Regions.{Regions, KeepsOthers}
use Rattle.page_core.specs.Composition.{Composition, KeptRegion}
pub use Rattle.page_core.specs.Composition.{AreIdsApart}
use Rattle.page_core.specs.Private.Listings.{code_by_kept, code_by_pair, painted_listing, painted_node}
use Rattle.page_core.specs.Private.Lists.{IsRewritten, with_changed}
use Rattle.page_core.specs.Private.Nodes.{is_region_of, region_node, listings_list}
use Rattle.page_core.specs.Private.ObjectFaults.{fault_in_region_node}
use Rattle.block_painting.specs.Writing.{IsWritten}
use Rattle.page_core.specs.Private.Painted.{HasRegion, field_runs}
use Rattle.page_core.specs.declared.composition.listings.Painter.{Painter}
use Rattle.page_core.specs.declared.node.Node.{Node}
use Rattle.page_core.specs.declared.node.Node.TheVariants as node
use Rattle.page_core.specs.declared.node.RegionNode.{RegionNode}

-- the object has no fault in a region
abbrev pub HasNoFault : Painter → Content → Object → PoolOf Node → RegionNode → Type 0
HasNoFault painter content object pool region = fault_in_region_node pool painter content object region ≡ None

-- the node of a region has it in its slot, with its sides and depth
abbrev pub HasRegionAt : Node → Regions → Type 0
HasRegionAt (node.Entry entry) store = Unit {0}
HasRegionAt (node.Region region) store = HasRegion region.head region.slot store
HasRegionAt (node.Listing kept) store = Unit {0}
HasRegionAt (node.Clut clut) store = Unit {0}
HasRegionAt (node.Colour place) store = Unit {0}

-- the object is painted through the listings of the region of a node; other nodes change nothing
abbrev pub IsPaintedAt : Painter → Node → PoolOf Node → PoolOf Node → Type 0
IsPaintedAt painter (node.Entry entry) old new = new ≡ old
IsPaintedAt painter (node.Region region) old new =
    IsRewritten (listings_list region.head.region) (painted_node painter) old new
IsPaintedAt painter (node.Listing kept) old new = new ≡ old
IsPaintedAt painter (node.Clut clut) old new = new ≡ old
IsPaintedAt painter (node.Colour place) old new = new ≡ old

-- nothing but the codes of the region that the node has may have changed in the store; nothing where it has none
abbrev pub KeepsAt : Node → Regions → Regions → Type 0
KeepsAt (node.Entry entry) old new = new ≡ old
KeepsAt (node.Region region) old new = KeepsOthers region.slot old new
KeepsAt (node.Listing kept) old new = new ≡ old
KeepsAt (node.Clut clut) old new = new ≡ old
KeepsAt (node.Colour place) old new = new ≡ old

-- what the object writes to a region
abbrev pub IsWrittenIn : Painter → Content → PoolOf Node → RegionNode → Regions → Regions → Type 0
IsWrittenIn painter content pool region old new =
    IsWritten region.slot
    (λ x y. last_given (code_by_pair painter (field_runs region.head.depth content.top content.bottom) x y)
    (list_of pool (listings_list region.head.region))) old new

-- what the object writes to the region of a node, where it has no fault there; of any other node nothing is said
abbrev pub IsWrittenAt : Painter → Content → Object → PoolOf Node → Node → Regions → Regions → Type 0
IsWrittenAt painter content object pool (node.Entry entry) old new = Unit {0}
IsWrittenAt painter content object pool (node.Region region) old new =
    HasNoFault painter content object pool region → IsWrittenIn painter content pool region old new
IsWrittenAt painter content object pool (node.Listing kept) old new = Unit {0}
IsWrittenAt painter content object pool (node.Clut clut) old new = Unit {0}
IsWrittenAt painter content object pool (node.Colour place) old new = Unit {0}

-- the items of a list behind the object, where it paints them
abbrev pub painted_where : Painter → Bool → List (NodeId × Node) → List (NodeId × Node)
painted_where painter painted pairs = if painted then map (with_changed (painted_node painter)) pairs else pairs

-- the object is painted in all regions: each list of listings of a region has what the object leaves there, and nothing
-- else is changed
pub record IsEverywhere (painter : Painter) (old new : PoolOf Node) : Type 0 where
  pub lists : length new.lists ≡ length old.lists
  pub count : node_count new ≡ node_count old
  pub free : new.free ≡ old.free
  pub low : (k : ℕ) → k < 4 → list_of new k ≡ list_of old k
  pub listings : (id : ℕ)
      → list_of new (listings_list id)
      ≡ painted_where painter (list_any (is_region_of id) (list_of old 1)) (list_of old (listings_list id))

-- a region behind the object
abbrev pub painted_kept : Painter → KeptRegion → KeptRegion
painted_kept painter kept =
    record { head = kept.head; slot = kept.slot; listings = map (painted_listing painter) kept.listings }

-- the composition behind the object: in all regions the listings that it paints have its version
abbrev pub with_all_painted : Painter → Composition → Composition
with_all_painted painter composition = record composition { regions = map (painted_kept painter) composition.regions }

-- the object has no fault in any region
abbrev pub HasNoFaults : Painter → Content → Object → PoolOf Node → Type 0
HasNoFaults painter content object pool =
    (pair : NodeId × Node) (region : RegionNode) → Contains (list_of pool 1) pair
    → region_node pair.1 ≡ Some region
    → HasNoFault painter content object pool region

-- no two nodes have regions of one id
abbrev pub AreApart : PoolOf Node → Type 0
AreApart pool =
    (before behind : List (NodeId × Node)) (pair : NodeId × Node) (region : RegionNode)
    → before ++ pair ∷ behind ≡ list_of pool 1 → region_node pair.1 ≡ Some region
    → list_any (is_region_of region.head.region) before ≡ false

-- the object writes to some regions, one after another
abbrev pub AreWritten : Painter → Content → PoolOf Node → List RegionNode → Regions → Regions → Type 0
AreWritten painter content pool [] old new = old ≡ new
AreWritten painter content pool (region ∷ regions) old new =
    (between : Regions) × IsWrittenIn painter content pool region old between
    × AreWritten painter content pool regions between new

-- the slots of all regions have them, with their sides and depths
abbrev pub HaveRegions : PoolOf Node → Regions → Type 0
HaveRegions pool store = (pair : NodeId × Node) → Contains (list_of pool 1) pair → HasRegionAt pair.1 store

-- a store has as many bytes, as many of them free, and as many regions
pub record KeepsRoom (old new : Regions) : Type 0 where
  pub count : length new.regions ≡ length old.regions
  pub size : new.size ≡ old.size
  pub free : new.free ≡ old.free

-- the object writes to some regions that are kept, one after another
abbrev pub AreKeptWritten : Painter → Content → List KeptRegion → Regions → Regions → Type 0
AreKeptWritten painter content [] old new = old ≡ new
AreKeptWritten painter content (kept ∷ regions) old new =
    (between : Regions)
    × IsWritten kept.slot
    (λ x y. last_given (code_by_kept painter (field_runs kept.head.depth content.top content.bottom) x y)
    kept.listings) old between
    × AreKeptWritten painter content regions between new
