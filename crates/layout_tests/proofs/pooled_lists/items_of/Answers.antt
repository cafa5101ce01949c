use Rattle.std.proofs.Common.{◌∙◌, sym, ap, length, map, List, [], ◌∷◌, ◌++◌, Option, ℕ, append_assoc, arith}
use Rattle.comp_pool.specs.declared.node.NodeId.{NodeId}
use Rattle.comp_pool.specs.Pool.{IsInList, list_of}
use Rattle.comp_pool.specs.Places.{rest_from}
use Rattle.comp_pool.proofs.NodeLaws.{in_list_behind, in_some_list}
use Rattle.comp_pool.proofs.WalkLaws.{walk_step}
use Rattle.layout_tests.proofs.pooled_lists.items_of.Goals as goal

pub item-requires : goal.item-requires
item-requires c =
    in_some_list c.args.pool.now c.args.list c.in-Some.node (c.loop-place.invariant.listed c.in-Some.node c.in-Some.is)

pub loop-place-smaller : goal.loop-place-smaller
loop-place-smaller c =
    let pool = c.args.pool.now in
    let pairs : List (NodeId × ℕ) = list_of pool c.args.list in
    let listed : IsInList pool c.args.list c.in-Some.node = c.loop-place.invariant.listed c.in-Some.node c.in-Some.is in
    let step =
    walk_step pool c.args.list c.first-place.ensures.distinct c.in-Some.node c.item.result c.next-place.result
    (c.item.ensures.item c.args.list listed) (c.next-place.ensures c.args.list listed) in
    omega (arith, ap length step, ap (λ (o : Option NodeId). length (rest_from o pairs)) c.in-Some.is)

pub loop-place-preserved : goal.loop-place-preserved
loop-place-preserved c =
    let pool = c.args.pool.now in
    let pairs : List (NodeId × ℕ) = list_of pool c.args.list in
    let node = c.in-Some.node in
    let item_of : NodeId × ℕ → ℕ = λ p. p.1 in
    let listed : IsInList pool c.args.list node = c.loop-place.invariant.listed node c.in-Some.is in
    let next = c.next-place.ensures c.args.list listed in
    let step =
    walk_step pool c.args.list c.first-place.ensures.distinct node c.item.result c.next-place.result
    (c.item.ensures.item c.args.list listed) next in
    let items = c.loop-place.items.items in
    record {
      so_far =
          ap (λ (xs : List ℕ). xs ++ map item_of (rest_from c.next-place.result pairs)) c.in_ok-push.ensures.items
          ∙ append_assoc items (c.item.result ∷ []) (map item_of (rest_from c.next-place.result pairs))
          ∙ ap (λ (ps : List (NodeId × ℕ)). items ++ map item_of ps) (sym step)
          ∙ ap (λ (o : Option NodeId). items ++ map item_of (rest_from o pairs)) (sym c.in-Some.is)
          ∙ c.loop-place.invariant.so_far;
      listed = λ m is. in_list_behind pool c.args.list node m c.next-place.result next is;
    }
