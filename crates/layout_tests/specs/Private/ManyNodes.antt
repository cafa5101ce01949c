use Rattle.std.specs.Prelude.{◌≡◌, ℕ, List, Contains, slice_get, Some}
use Rattle.comp_pool.specs.declared.node.NodeId.{NodeId}
use Rattle.comp_pool.specs.Pool.{PoolOf, list_of}

-- What a test with many nodes says of them.

-- the node at index i of the nodes is in list 0, with the item i
abbrev pub HasIndex : PoolOf ℕ → List NodeId → ℕ → Type 0
HasIndex pool nodes i = (node : NodeId) → slice_get nodes i ≡ Some node → Contains (list_of pool 0) (node, i)
