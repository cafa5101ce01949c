use Rattle.std.proofs.Common.{◌≡◌, sym, ap, subst, ℕ, List, length, arith}
use Rattle.std.proofs.lemmas.List.{length_push}
use Rattle.comp_pool.specs.declared.node.NodeId.{NodeId}
use Rattle.layout_tests.specs.Private.ManyNodes.{HasIndex}
use Rattle.comp_pool.proofs.ItemLaws.{list_count_after_push}
use Rattle.layout_tests.proofs.ManyNodeLaws.{one_more}
use Rattle.layout_tests.proofs.pooled_lists.push_all.Goals as goal

pub loop-item-preserved : goal.loop-item-preserved
loop-item-preserved c =
    let old = c.loop-item.pool in
    let new = c.push_back.new.self in
    let node = c.in_ok-node.node in
    let same : length new.lists ≡ length old.lists =
    list_count_after_push old new 0 (node, c.loop-item.item) c.in_ok-node.ensures.pushed in
    let Q : List NodeId → Type 0 = λ nodes. (k : ℕ) → HasIndex new nodes k in
    record {
      list = omega (arith, same, c.loop-item.invariant.list);
      distinct = c.push_back.ensures.distinct;
      count =
          omega (
            arith,
            ap length c.in_ok-push.ensures.items,
            length_push c.loop-item.nodes.items
                node,
            c.loop-item.invariant.count,
          );
      indices =
          subst Q (sym c.in_ok-push.ensures.items)
          (one_more old new c.loop-item.nodes.items node c.loop-item.item c.loop-item.invariant.indices
          c.in_ok-node.ensures.pushed (sym c.loop-item.invariant.count) c.loop-item.invariant.list);
    }
