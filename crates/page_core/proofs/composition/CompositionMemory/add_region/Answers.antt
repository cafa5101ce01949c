-- There is one more region.
use Rattle.page_core.proofs.Regions.RegionAdds.{value_with_region, sorted_with_region}
use Rattle.page_core.proofs.composition.CompositionMemory.add_region.Goals as goal

pub invariant_of-self : goal.invariant_of-self
invariant_of-self c =
    sorted_with_region c.self.inside.pool c.push_back.new.self c.args.region c.in-Ok.node c.in-Ok.ensures.pushed
    c.push_back.ensures.nodes c.args.self.now c.self.view_is c.self.inside.regions c.self.inside.cluts
    c.self.invariant
    c.requires.new c.name_node.new.nodes c.name_node.ensures.named c.name_node.ensures.byte c.name_node.ensures.whole

pub returns-in-Ok : goal.returns-in-Ok
returns-in-Ok c =
    value_with_region c.self.inside.pool c.push_back.new.self c.args.region c.in-Ok.node c.in-Ok.ensures.pushed
    c.push_back.ensures.nodes c.args.self.now c.self.view_is c.self.inside.regions c.self.inside.cluts
    c.self.invariant
    c.requires.new c.requires.counted c.requires.apart
