-- A region has another head.
use Rattle.std.proofs.Common.{◌∙◌}
use Rattle.page_core.proofs.Regions.RegionNodes.{node_listed}
use Rattle.page_core.proofs.Regions.RegionHeadsSet.{head_set}
use Rattle.page_core.proofs.composition.CompositionMemory.set_region.Goals as goal

pub set_node-requires-clause-listed : goal.set_node-requires-clause-listed
set_node-requires-clause-listed c =
    node_listed c.self.inside.pool c.args.region.head.region c.node_at.result
    (c.node_at.ensures.node ∙ c.self.invariant.1.regions c.args.region.head.region c.node_at.ensures.byte)

pub invariant_of-self : goal.invariant_of-self
invariant_of-self c =
    (head_set c.self.inside.pool c.set_node.new.pool c.args.region c.node_at.result c.args.self.now
    c.self.inside.regions c.self.inside.cluts c.self.view_is
    (c.node_at.ensures.node ∙ c.self.invariant.1.regions c.args.region.head.region c.node_at.ensures.byte)
    c.set_node.ensures c.requires.slot c.requires.apart c.self.invariant).1

pub returns : goal.returns
returns c =
    (head_set c.self.inside.pool c.set_node.new.pool c.args.region c.node_at.result c.args.self.now
    c.self.inside.regions c.self.inside.cluts c.self.view_is
    (c.node_at.ensures.node ∙ c.self.invariant.1.regions c.args.region.head.region c.node_at.ensures.byte)
    c.set_node.ensures c.requires.slot c.requires.apart c.self.invariant).0
