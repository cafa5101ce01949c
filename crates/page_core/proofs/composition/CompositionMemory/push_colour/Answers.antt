-- One more table entry is set, or no node was free.
use Rattle.page_core.proofs.ColourTables.ClutNodes.{kept_by_colour, set_by_colour}
use Rattle.page_core.proofs.composition.CompositionMemory.push_colour.Goals as goal

pub invariant_of-self : goal.invariant_of-self
invariant_of-self c =
    kept_by_colour c.args.place c.push.result c.self.inside.pool c.push.new.pool c.self.inside.regions
    c.self.inside.cluts c.self.invariant c.push.ensures

pub returns : goal.returns
returns c =
    set_by_colour c.args.place c.push.result c.self.inside.pool c.push.new.pool c.args.self.now c.self.view_is
    c.push.ensures
