-- What a region segment changes in the lists of a pool.
use Rattle.std.specs.Prelude.{◌≡◌, ℕ, ◌+◌, List, ◌++◌, length, map, Option, MatchOption}
use Rattle.comp_pool.specs.Changes.{replaced}
use Rattle.comp_pool.specs.Pool.{PoolOf, list_of, NoneTwice, node_count}
use Rattle.comp_pool.specs.declared.node.NodeId.{NodeId}
use Rattle.stream_syntax.specs.declared.region.Listing.{Listing}
use Rattle.page_core.specs.Private.Lists.{KeepsBeside}
use Rattle.page_core.specs.Private.Nodes.{AreKind, kept_in, listing_in}
use Rattle.page_core.specs.Private.RegionSteps.{fresh}
use Rattle.page_core.specs.declared.node.Node.{Node}

-- these listings are behind those of a list, and nothing else is changed
pub record HasListings (l : ℕ) (listings : List Listing) (old new : PoolOf Node) : Type 0 where
  pub beside : KeepsBeside l old new
  pub are : kept_in listing_in (list_of new l) ≡ kept_in listing_in (list_of old l) ++ map fresh listings
  pub kinds : AreKind listing_in (list_of old l) → AreKind listing_in (list_of new l)
  pub free : new.free + length listings ≡ old.free

-- the node has that item, and nothing else is changed; no node was in the lists twice
pub record IsItemSet (item : Node) (old new : PoolOf Node) (node : NodeId) : Type 0 where
  pub set : new ≡ replaced node item old
  pub distinct : NoneTwice old
  pub count : node_count new ≡ node_count old

-- the node, where there is one, has that item; where there is none, the pool is as it was
abbrev pub IsRegionSet : Option NodeId → Node → PoolOf Node → PoolOf Node → Type 0
IsRegionSet node item old new = MatchOption node (new ≡ old) (IsItemSet item old new)
