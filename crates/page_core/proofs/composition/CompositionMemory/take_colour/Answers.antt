-- The first colour is taken out.
use Rattle.page_core.proofs.ColourTables.ColourNodes.{kept_by_pop, taken_by_pop}
use Rattle.page_core.proofs.composition.CompositionMemory.take_colour.Goals as goal

pub invariant_of-self : goal.invariant_of-self
invariant_of-self c =
    kept_by_pop c.pop_colour.result c.self.inside.pool c.pop_colour.new.pool c.self.inside.regions c.self.inside.cluts
    c.self.invariant c.pop_colour.ensures

pub returns : goal.returns
returns c =
    record {
      taken = taken_by_pop c.pop_colour.result c.self.inside.pool c.pop_colour.new.pool c.self.inside.regions
          c.self.inside.cluts c.args.self.now c.self.view_is c.self.invariant c.pop_colour.ensures;
    }
