use Rattle.std.proofs.Common.{◌∙◌, sym, ap, Option}
use Rattle.comp_pool.specs.Places.{rest_from}
use Rattle.comp_pool.specs.Pool.{IsInList, list_of}
use Rattle.comp_pool.specs.declared.node.NodeId.{NodeId}
use Rattle.comp_pool.proofs.NodeLaws.{in_list_behind, in_some_list}
use Rattle.comp_pool.proofs.WalkLaws.{walk_step}
use Rattle.page_core.proofs.composition.walk.Walk.next_item.Goals as goal

pub item-item-requires : goal.item-item-requires
item-item-requires c =
    in_some_list c.self.inside.pool.now c.self.inside.list c.in_ok-node.node
    (c.self.invariant.listed c.in_ok-node.node c.in_ok-node.was)

pub next-self-inside-requires : goal.next-self-inside-requires
next-self-inside-requires c =
    in_some_list c.self.inside.pool.now c.self.inside.list c.in_ok-node.node
    (c.self.invariant.listed c.in_ok-node.node c.in_ok-node.was)

pub invariant_of-self : goal.invariant_of-self
invariant_of-self c =
    let listed : IsInList c.self.inside.pool.now c.self.inside.list c.in_ok-node.node =
    c.self.invariant.listed c.in_ok-node.node c.in_ok-node.was in
    record {
      distinct = c.self.invariant.distinct;
      listed =
          λ node is. in_list_behind c.self.inside.pool.now c.self.inside.list c.in_ok-node.node node
          c.next-self-inside.result (c.next-self-inside.ensures c.self.inside.list listed) is;
    }

pub returns : goal.returns
returns c =
    let pool = c.self.inside.pool.now in
    let list = c.self.inside.list in
    let listed : IsInList pool list c.in_ok-node.node = c.self.invariant.listed c.in_ok-node.node c.in_ok-node.was in (
      c.in_ok-node.node,
      sym c.self.view_is ∙ ap (λ (o : Option NodeId). rest_from o (list_of pool list)) c.in_ok-node.was
          ∙ walk_step pool list c.self.invariant.distinct c.in_ok-node.node c.item-item.result
          c.next-self-inside.result (c.item-item.ensures.item list listed) (c.next-self-inside.ensures list listed),
    )
