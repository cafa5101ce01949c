-- The entries of a page that are left in a walk over the list of its nodes.
use Rattle.std.specs.Prelude.{List, Option}
use Rattle.std.specs.Option.{ForSome}
use Rattle.stream_syntax.specs.declared.page.PageEntry.{PageEntry}
use Rattle.comp_pool.specs.Places.{rest_from}
use Rattle.comp_pool.specs.Pool.{PoolOf, list_of, IsInList, NoneTwice}
use Rattle.comp_pool.specs.declared.node.NodeId.{NodeId}
use Rattle.page_core.specs.Private.Nodes.{AreKind, kept_in, entry_in}
use Rattle.page_core.specs.declared.node.Node.{Node}

-- the entries from a node on
abbrev pub entries_left : PoolOf Node → Option NodeId → List PageEntry
entries_left pool next = kept_in entry_in (rest_from next (list_of pool 0))

-- the list has entries alone, no node twice, and the node that comes
pub record IsWalk (pool : PoolOf Node) (next : Option NodeId) : Type 0 where
  pub kinds : AreKind entry_in (list_of pool 0)
  pub distinct : NoneTwice pool
  pub listed : ForSome next (IsInList pool 0)
