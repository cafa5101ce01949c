use Rattle.std.specs.Prelude.{◌≡◌, ℕ, ◌+◌, List, [], length, map, replicate, sum_by, Contains, slice_get, slice_index_or, Some}
use Rattle.comp_pool.specs.declared.node.NodeId.{NodeId}

-- What contracts see of a pool.

-- the lists, each of pairs of a node and its item, and how many nodes are free
pub record PoolOf (T : Type 0) : Type 0 where
  pub lists : List (List (NodeId × T))
  pub free : ℕ

-- list l
abbrev pub list_of : {T : Type 0} → PoolOf T → ℕ → List (NodeId × T)
list_of pool l = slice_index_or pool.lists l []

-- the nodes of a list, without their items
abbrev pub nodes_of : {T : Type 0} → List (NodeId × T) → List NodeId
nodes_of pairs = map (λ p. p.0) pairs

-- the node is in list l
unfoldable pub IsInList : {T : Type 0} → PoolOf T → ℕ → NodeId → Type 0
IsInList pool l node = Contains (nodes_of (list_of pool l)) node

-- the node is in some list
unfoldable pub IsInSomeList : {T : Type 0} → PoolOf T → NodeId → Type 0
IsInSomeList pool node = (l : ℕ) × IsInList pool l node

-- the node is at index i of list l
abbrev pub IsAt : {T : Type 0} → PoolOf T → ℕ → ℕ → NodeId → Type 0
IsAt pool l i node = slice_get (nodes_of (list_of pool l)) i ≡ Some node

-- no node is there twice: wherever the same node is found, it is the same list and index
abbrev pub NoneTwice : {T : Type 0} → PoolOf T → Type 0
NoneTwice pool =
    (l k i j : ℕ) (node : NodeId) → IsAt pool l i node → IsAt pool k j node → (l ≡ k) × (i ≡ j)

-- how many nodes the pool has, in lists or free
abbrev pub node_count : {T : Type 0} → PoolOf T → ℕ
node_count pool = sum_by length pool.lists + pool.free

-- so many lists, all empty, and so many free nodes
abbrev pub empty_pool : {T : Type 0} → ℕ → ℕ → PoolOf T
empty_pool lists nodes = record { lists = replicate lists []; free = nodes }
