use Rattle.std.specs.Prelude.{ℕ, ◌+◌, ◌-◌, not, List, [], ◌∷◌, ◌++◌, length, map, filter, slice_set, if◌then◌else◌}
use Rattle.comp_pool.specs.declared.node.NodeId.{NodeId}
use Rattle.comp_pool.specs.Pool.{PoolOf, list_of, node_count, empty_pool}
use Rattle.comp_pool.specs.Places.{is_node}

-- The value of a pool after each call that changes it.

-- the node and its item at the end of list l
abbrev pub pushed : {T : Type 0} → ℕ → NodeId × T → PoolOf T → PoolOf T
pushed l pair pool = record { lists = slice_set pool.lists l (list_of pool l ++ pair ∷ []); free = pool.free - 1 }

-- a list without the node, the rest in its order
abbrev pub without : {T : Type 0} → NodeId → List (NodeId × T) → List (NodeId × T)
without node pairs = filter (λ p. not (is_node p.0 node)) pairs

-- list l without the node, which is free
abbrev pub unlinked : {T : Type 0} → ℕ → NodeId → PoolOf T → PoolOf T
unlinked l node pool = record { lists = slice_set pool.lists l (without node (list_of pool l)); free = pool.free + 1 }

-- the pair, with this item if it is the node's
abbrev pub with_item : {T : Type 0} → NodeId → T → NodeId × T → NodeId × T
with_item node item p = if is_node p.0 node then (p.0, item) else p

-- this item at the node, wherever it is
abbrev pub replaced : {T : Type 0} → NodeId → T → PoolOf T → PoolOf T
replaced node item pool =
    record { lists = map (λ pairs. map (with_item node item) pairs) pool.lists; free = pool.free }

-- list l is empty, and its nodes are free
abbrev pub cleared : {T : Type 0} → ℕ → PoolOf T → PoolOf T
cleared l pool = record { lists = slice_set pool.lists l []; free = pool.free + length (list_of pool l) }

-- all lists are empty, and all nodes are free
abbrev pub emptied : {T : Type 0} → PoolOf T → PoolOf T
emptied pool = empty_pool (length pool.lists) (node_count pool)
