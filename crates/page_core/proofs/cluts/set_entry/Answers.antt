-- One table after another.
use Rattle.page_core.proofs.ColourTables.ColourSteps.{set_in_depths}
use Rattle.page_core.proofs.cluts.set_entry.Goals as goal

pub returns-clause-set : goal.returns-clause-set
returns-clause-set c =
    set_in_depths c.args.clut c.args.entry c.args.composition.now c.set_in_depth.new.composition
    c.set_in_depth-2.new.composition c.set_in_depth-3.new.composition
    c.args.inks.now c.set_in_depth.new.inks c.set_in_depth-2.new.inks c.set_in_depth-3.new.inks
    c.set_in_depth.ensures.keeps c.set_in_depth-2.ensures.keeps
    c.set_in_depth.ensures.set c.set_in_depth-2.ensures.set c.set_in_depth-3.ensures.set
