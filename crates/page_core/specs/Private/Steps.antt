-- Where a walk over a list of nodes stands.
use Rattle.std.specs.Prelude.{ℕ, Option}
use Rattle.std.specs.Option.{ForSome}
use Rattle.comp_pool.specs.Pool.{PoolOf, IsInList, NoneTwice}
use Rattle.comp_pool.specs.declared.node.NodeId.{NodeId}
use Rattle.page_core.specs.declared.node.Node.{Node}

-- no node is there twice, and the node that comes is in the list
pub record IsWalkOf (pool : PoolOf Node) (list : ℕ) (next : Option NodeId) : Type 0 where
  pub distinct : NoneTwice pool
  pub listed : ForSome next (IsInList pool list)
