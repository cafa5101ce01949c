use Rattle.std.proofs.Common.{◌≡◌, ◌∙◌, sym, ap, subst, ℕ, ◌+◌, ◌<◌, List, length, Contains, arith}
use Rattle.comp_pool.specs.declared.node.NodeId.{NodeId}
use Rattle.comp_pool.specs.Private.Links.{lists_of, list_at, IsLinked, moved}
use Rattle.comp_pool.specs.Pool.{PoolOf, IsInList}
use Rattle.comp_pool.specs.Changes.{unlinked}
use Rattle.comp_pool.specs.Private.View.{IsKept, pool_of}
use Rattle.comp_pool.proofs.Lists.{again}
use Rattle.comp_pool.proofs.Calls.{unlinked_pool, Contains-pool, IsInList-within, IsInList-below}
use Rattle.comp_pool.proofs.Kept.{Follows, follows}

-- A node in list l, as `unlink` takes it.

module _ {T : Type 0} (filler : T) (items : List T) (count : ℕ) (N P : List ℕ) (free : ℕ)
    (kept : IsKept count N P (length items) free)
    (old : PoolOf T) (view : pool_of count N filler items ≡ old) (l : ℕ) (node : NodeId)
    (listed : IsInList old l node) where
  was_listed : IsInList (pool_of count N filler items) l node
  was_listed = let Q : PoolOf T → Type 0 = λ pool. IsInList pool l node in subst Q (sym view) listed

  pub within : l + 1 < length (lists_of count N)
  within = IsInList-within filler items (lists_of count N) l node was_listed

  pub is_linked : Contains (list_at (lists_of count N) (l + 1)) node.number
  is_linked = Contains-pool filler items (lists_of count N) l node was_listed

  pub has_item : node.number < length items
  has_item = omega (arith, IsInList-below filler items count N P l node kept.linked was_listed, kept.itemed)

  pub unlinked_kept : (N' P' : List ℕ) → IsLinked count N' P' (moved node.number (l + 1) 0 (lists_of count N))
      → length N' ≡ length N →
      IsKept count N' P' (length items) (free + 1)
  unlinked_kept N' P' linked' same = record {
    linked = again count N' P' (moved node.number (l + 1) 0 (lists_of count N)) linked';
    itemed = kept.itemed;
    counted = ap (λ (k : ℕ). k + 1) kept.counted
        ∙ sym (ap (λ (pool : PoolOf T). pool.free)
        (unlinked_pool filler items count N N' P' l node.number within linked'));
    ends = omega (arith, kept.ends, same);
  }

  pub unlinked_follows : (N' P' : List ℕ) → IsLinked count N' P' (moved node.number (l + 1) 0 (lists_of count N))
      → length N' ≡ length N →
      Follows T old (pool_of count N' filler items) (unlinked l node old)
  unlinked_follows N' P' linked' same =
      follows filler items items count N P N' P' (length items) (length items) free (free + 1) old
      (unlinked l node) kept (unlinked_kept N' P' linked' same) view
      (unlinked_pool filler items count N N' P' l node.number within linked')
