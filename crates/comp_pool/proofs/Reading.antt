use Rattle.std.proofs.Common.{◌≡◌, sym, subst, ℕ, ◌<◌, List, length}
use Rattle.comp_pool.specs.declared.node.NodeId.{NodeId}
use Rattle.comp_pool.specs.Pool.{PoolOf, IsInSomeList}
use Rattle.comp_pool.specs.Private.View.{IsKept, pool_of}
use Rattle.comp_pool.proofs.Calls.{IsInList-below}

-- a node in some list has its links and its item
pub is_one : {T : Type 0} (filler : T) (items : List T) (count : ℕ) (N P : List ℕ) (free : ℕ)
    → IsKept count N P (length items) free →
    (old : PoolOf T) → pool_of count N filler items ≡ old → (node : NodeId) → IsInSomeList old node
    → node.number < count
unfolding IsInSomeList
is_one {T} filler items count N P free kept old view node listed =
    let Q : PoolOf T → Type 0 = λ pool. IsInSomeList pool node in
    let was_listed =
    subst Q (sym view) listed in IsInList-below filler items count N P was_listed.0 node kept.linked was_listed.1
