use Rattle.std.specs.Prelude.{◌≡◌, ℕ, ◌<◌, List, length, map, drop, slice_index_or}
use Rattle.comp_pool.specs.declared.node.NodeId.{NodeId}
use Rattle.comp_pool.specs.Pool.{PoolOf}
use Rattle.comp_pool.specs.Private.Links.{IsLinked, lists_of, list_at}

-- What the fields of a pool mean.

-- the nodes of a list with their items
abbrev pub pairs : {T : Type 0} → T → List T → List ℕ → List (NodeId × T)
pairs filler items xs = map (λ n. (record { number = n }, slice_index_or items n filler)) xs

-- the pool of these lists, of which the first has the free nodes
abbrev pub pool_of_lists : {T : Type 0} → T → List T → List (List ℕ) → PoolOf T
pool_of_lists filler items lists =
    record { lists = map (pairs filler items) (drop 1 lists); free = length (list_at lists 0) }

-- the pool of the lists that following the links gives
abbrev pub pool_of : {T : Type 0} → ℕ → List ℕ → T → List T → PoolOf T
pool_of count nexts filler items = pool_of_lists filler items (lists_of count nexts)

-- the links are those of lists that share out the nodes, each node has an item, and the free ones are counted
pub record IsKept (count : ℕ) (nexts backs : List ℕ) (items free : ℕ) : Type 0 where
  pub linked : IsLinked count nexts backs (lists_of count nexts)
  pub itemed : items ≡ count
  pub counted : free ≡ length (list_at (lists_of count nexts) 0)
  pub ends : count < length nexts
