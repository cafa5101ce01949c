use Rattle.std.proofs.Common.{◌≡◌, ◌∙◌, sym, ap, ℕ, ◌-◌, ◌<◌, List, length, get_or, arith}
use Rattle.comp_pool.specs.Private.Links.{lists_of, next_when_free, back_when_free, IsLinked}
use Rattle.comp_pool.specs.Pool.{PoolOf, empty_pool}
use Rattle.comp_pool.specs.Changes.{emptied}
use Rattle.comp_pool.specs.Private.View.{IsKept, pool_of}
use Rattle.comp_pool.proofs.Lists.{again}
use Rattle.comp_pool.proofs.Making.{free_lists, made, made_pool, length-lists}
use Rattle.comp_pool.proofs.Kept.{Follows, follows, a_list, node_count_kept}

-- Links as `free_all` writes them, of a pool that is made or reset.

pub freed_kept : {T : Type 0} (filler : T) (items : List T) (count n : ℕ) (N P : List ℕ)
    → IsLinked count N P (free_lists count n) → length items ≡ count →
    count < length N → IsKept count N P (length items) count
freed_kept {T} filler items count n N P linked itemed ends = record {
  linked = again count N P (free_lists count n) linked;
  itemed = itemed;
  counted = sym (ap (λ (pool : PoolOf T). pool.free) (made_pool filler items count n N P linked));
  ends = ends;
}

module _ {T : Type 0} (filler : T) (items : List T) (count : ℕ) (N P : List ℕ) (free : ℕ)
    (kept : IsKept count N P (length items) free)
    (old : PoolOf T) (view : pool_of count N filler items ≡ old) (N' P' : List ℕ) (same : length N' ≡ length N)
    (both : length P' ≡ length N)
    (forward : (k : ℕ) → k < length N' → get_or N' k 0 ≡ next_when_free count k)
    (backward : (k : ℕ) → k < length P' → get_or P' k 0 ≡ back_when_free count k) where
  linked : IsLinked count N' P' (free_lists count (length (lists_of count N) - 1))
  linked =
      made count (length (lists_of count N) - 1) N' P'
      (omega (arith, a_list count N P (length items) free kept, kept.linked.ends, same))
      (omega (arith, both, same)) (omega (arith, kept.linked.few, same)) forward backward

  pub reset_kept : IsKept count N' P' (length items) count
  reset_kept =
      freed_kept filler items count (length (lists_of count N) - 1) N' P' linked kept.itemed
      (omega (arith, kept.ends, same))

  pub reset_follows : Follows T old (pool_of count N' filler items) (emptied old)
  reset_follows =
      follows filler items items count N P N' P' (length items) (length items) free count old (λ pool. emptied pool)
      kept reset_kept view
      (made_pool filler items count (length (lists_of count N) - 1) N' P' linked
      ∙ ap (λ (n : ℕ). empty_pool n count)
      (sym (length-lists filler items (lists_of count N) (a_list count N P (length items) free kept)))
      ∙ ap (λ (n : ℕ). empty_pool (length (pool_of count N filler items).lists) n)
      (sym (node_count_kept filler items count N P (length items) free kept)))
