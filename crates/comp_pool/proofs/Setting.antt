use Rattle.std.proofs.Common.{◌≡◌, ◌∙◌, ℕ, ◌<◌, List, length, set, arith}
use Rattle.std.proofs.lemmas.List.{length-set}
use Rattle.comp_pool.specs.declared.node.NodeId.{NodeId}
use Rattle.comp_pool.specs.Private.Links.{lists_of}
use Rattle.comp_pool.specs.Pool.{PoolOf, IsInSomeList}
use Rattle.comp_pool.specs.Changes.{replaced}
use Rattle.comp_pool.specs.Private.View.{IsKept, pool_of}
use Rattle.comp_pool.proofs.Calls.{replaced_view}
use Rattle.comp_pool.proofs.Kept.{Follows, follows}
use Rattle.comp_pool.proofs.Reading.{is_one}

-- A node in some list, as `set_item` takes it.

module _ {T : Type 0} (filler : T) (items : List T) (count : ℕ) (N P : List ℕ) (free : ℕ)
    (kept : IsKept count N P (length items) free)
    (old : PoolOf T) (view : pool_of count N filler items ≡ old) (node : NodeId) (listed : IsInSomeList old node)
    (item : T) where
  pub replaced_kept : IsKept count N P (length (set items node.number item)) free
  replaced_kept = record {
    linked = kept.linked;
    itemed = length-set items node.number item ∙ kept.itemed;
    counted = kept.counted;
    ends = kept.ends;
  }

  pub replaced_follows : Follows T old (pool_of count N filler (set items node.number item)) (replaced node item old)
  replaced_follows =
      let below : node.number < length items =
      omega (arith, is_one filler items count N P free kept old view node listed, kept.itemed) in
      follows filler items (set items node.number item) count N P N P (length items)
      (length (set items node.number item)) free free old
      (replaced node item) kept replaced_kept view (replaced_view filler items node item (lists_of count N) below)
