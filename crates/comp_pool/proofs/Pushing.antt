use Rattle.std.proofs.Common.{◌≡◌, ◌∙◌, sym, ap, subst, ℕ, ◌+◌, ◌-◌, ◌<◌, ◌≤◌, List, length, get_or, set, Contains, arith}
use Rattle.std.proofs.lemmas.List.{length-set}
use Rattle.comp_pool.specs.Private.Links.{lists_of, list_at, IsLinked, moved}
use Rattle.comp_pool.specs.Pool.{PoolOf, IsInSomeList}
use Rattle.comp_pool.specs.Changes.{pushed}
use Rattle.comp_pool.specs.Private.View.{IsKept, pool_of}
use Rattle.comp_pool.proofs.Lists.{again}
use Rattle.comp_pool.proofs.Views.{Ahead, named}
use Rattle.comp_pool.proofs.Calls.{pushed_pool, free_ahead, Contains-ahead, empty-ahead, length-pool, Contains-pool, IsInList-within}
use Rattle.comp_pool.proofs.Twice.{one_list}
use Rattle.comp_pool.proofs.Kept.{Follows, a_list, follows}

-- The first free node, as `push_back` takes it.

module _ {T : Type 0} (filler : T) (items : List T) (count : ℕ) (N P : List ℕ) (free : ℕ)
    (kept : IsKept count N P (length items) free)
    (old : PoolOf T) (view : pool_of count N filler items ≡ old) (n : ℕ) (is : n ≡ get_or N count 0) where
  first_free : Ahead count n (list_at (lists_of count N) 0)
  first_free =
      subst (λ (m : ℕ). Ahead count m (list_at (lists_of count N) 0)) (sym is)
      (free_ahead count N P (lists_of count N) kept.linked (a_list count N P (length items) free kept))

  pub none_free : count ≤ n → old.free ≡ 0
  none_free past =
      ap (λ (pool : PoolOf T). pool.free) (sym view)
      ∙ empty-ahead count n (list_at (lists_of count N) 0) past first_free

  pub is_free : n < count → Contains (list_at (lists_of count N) 0) n
  is_free below = Contains-ahead count n (list_at (lists_of count N) 0) below first_free

  pub in_no_list : n < count → IsInSomeList old (named n) → ⊥
  unfolding IsInSomeList
  in_no_list below listed =
      let Q : PoolOf T → Type 0 = λ pool. IsInSomeList pool (named n) in
      let there = subst Q (sym view) listed in
      absurd (omega (
        arith,
        one_list count N P (lists_of count N) 0 (there.0 + 1) n kept.linked (a_list count N P (length items) free kept)
            (IsInList-within filler items (lists_of count N) there.0 (named n) there.1) (is_free below)
            (Contains-pool filler items (lists_of count N) there.0 (named n) there.1),
      ))

  short : (l : ℕ) → l < length old.lists → l + 1 < length (lists_of count N)
  short l within =
      length-pool filler items (lists_of count N) l
      (subst (λ (pool : PoolOf T). l < length pool.lists) (sym view) within)

  pub pushed_kept : n < count → (l : ℕ) → l < length old.lists → (N' P' : List ℕ)
      → IsLinked count N' P' (moved n 0 (l + 1) (lists_of count N)) →
      length N' ≡ length N → (item : T) → IsKept count N' P' (length (set items n item)) (free - 1)
  pushed_kept below l within N' P' linked' same item = record {
    linked = again count N' P' (moved n 0 (l + 1) (lists_of count N)) linked';
    itemed = length-set items n item ∙ kept.itemed;
    counted = ap (λ (k : ℕ). k - 1) kept.counted
        ∙ sym (ap (λ (pool : PoolOf T). pool.free)
        (pushed_pool filler item items count N P N' P' l n kept.linked kept.itemed is below (short l within) linked'));
    ends = omega (arith, kept.ends, same);
  }

  pub pushed_follows : n < count → (l : ℕ) → l < length old.lists → (N' P' : List ℕ)
      → IsLinked count N' P' (moved n 0 (l + 1) (lists_of count N)) →
      length N' ≡ length N → (item : T)
      → Follows T old (pool_of count N' filler (set items n item)) (pushed l (named n, item) old)
  pushed_follows below l within N' P' linked' same item =
      follows filler items (set items n item) count N P N' P' (length items) (length (set items n item)) free (free - 1)
      old
      (pushed l (named n, item)) kept (pushed_kept below l within N' P' linked' same item) view
      (pushed_pool filler item items count N P N' P' l n kept.linked kept.itemed is below (short l within) linked')
