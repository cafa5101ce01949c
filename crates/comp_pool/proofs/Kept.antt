use Rattle.std.proofs.Common.{◌≡◌, ◌∙◌, sym, ap, subst, ℕ, ◌<◌, List, length, arith}
use Rattle.comp_pool.specs.Private.Links.{lists_of}
use Rattle.comp_pool.specs.Pool.{PoolOf, NoneTwice, node_count}
use Rattle.comp_pool.specs.Private.View.{IsKept, pool_of}
use Rattle.comp_pool.proofs.Making.{pool_whole}
use Rattle.comp_pool.proofs.Twice.{none_twice}

-- What each call that changes a pool promises of the new value.

-- a list of the links for each list and one for the free nodes
pub a_list : (count : ℕ) (N P : List ℕ) (k free : ℕ) → IsKept count N P k free → 0 < length (lists_of count N)
a_list count N P k free kept = omega (arith, kept.ends, kept.linked.ends)

pub node_count_kept : {T : Type 0} (filler : T) (items : List T) (count : ℕ) (N P : List ℕ) (k free : ℕ)
    → IsKept count N P k free →
    node_count (pool_of count N filler items) ≡ count
node_count_kept filler items count N P k free kept =
    omega (arith, pool_whole filler items count (lists_of count N) (a_list count N P k free kept) kept.linked.whole)

-- the new value is the wanted one, in which no node is twice, with as many nodes as the old one
pub record Follows (T : Type 0) (old new wanted : PoolOf T) : Type 0 where
  pub is : new ≡ wanted
  pub distinct : NoneTwice new
  pub nodes : node_count new ≡ node_count old

pub follows : {T : Type 0} (filler : T) (items items' : List T) (count : ℕ) (N P N' P' : List ℕ)
    (k k' free free' : ℕ) (old : PoolOf T)
    (wanted : PoolOf T → PoolOf T) → IsKept count N P k free → IsKept count N' P' k' free'
    → pool_of count N filler items ≡ old →
    pool_of count N' filler items' ≡ wanted (pool_of count N filler items)
    → Follows T old (pool_of count N' filler items') (wanted old)
follows {T} filler items items' count N P N' P' k k' free free' old wanted kept kept' view is = record {
  is = is ∙ ap wanted view;
  distinct = none_twice filler items' count N' P' kept'.linked;
  nodes =
      node_count_kept filler items' count N' P' k' free' kept'
      ∙ sym (node_count_kept filler items count N P k free kept)
      ∙ ap (λ (pool : PoolOf T). node_count pool) view;
}

-- no node is twice in a value that was not changed
pub kept_distinct : {T : Type 0} (filler : T) (items : List T) (count : ℕ) (N P : List ℕ) (k free : ℕ)
    (old : PoolOf T) →
    IsKept count N P k free → pool_of count N filler items ≡ old → NoneTwice old
kept_distinct {T} filler items count N P k free old kept view =
    let Q : PoolOf T → Type 0 =
    λ pool. NoneTwice pool in subst Q view (none_twice filler items count N P kept.linked)
