-- The region of the node in the table.
use Rattle.std.proofs.Common.{◌∙◌}
use Rattle.page_core.proofs.Regions.RegionNodes.{node_listed, region_is}
use Rattle.page_core.proofs.composition.CompositionMemory.region.Goals as goal

pub region_at-requires-clause-listed : goal.region_at-requires-clause-listed
region_at-requires-clause-listed c =
    node_listed c.self.inside.pool c.args.id c.node_at.result
    (c.node_at.ensures.node ∙ c.self.invariant.1.regions c.args.id c.node_at.ensures.byte)

pub returns : goal.returns
returns c =
    region_is c.self.inside.pool c.args.id c.node_at.result c.region_at.result c.args.self.now c.self.view_is
    (c.node_at.ensures.node ∙ c.self.invariant.1.regions c.args.id c.node_at.ensures.byte)
    c.region_at.ensures.distinct c.region_at.ensures.region
