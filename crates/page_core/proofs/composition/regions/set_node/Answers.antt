-- The node has another item.
use Rattle.std.proofs.Common.{Option, subst, sym}
use Rattle.comp_pool.specs.declared.node.NodeId.{NodeId}
use Rattle.page_core.specs.Private.PoolChanges.{IsItemSet, IsRegionSet}
use Rattle.page_core.proofs.composition.regions.set_node.Goals as goal

pub returns-in-Some : goal.returns-in-Some
returns-in-Some c =
    let set : IsItemSet c.args.item c.args.pool.now c.set_item.new.self c.in-Some.node =
    record {
      set = c.set_item.ensures.replaced;
      distinct = c.first.ensures.distinct;
      count = c.set_item.ensures.nodes;
    } in
    subst (λ (node : Option NodeId). IsRegionSet node c.args.item c.args.pool.now c.set_item.new.self)
    (sym c.in-Some.is) set
