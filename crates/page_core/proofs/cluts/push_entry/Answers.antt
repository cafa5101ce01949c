-- The entry is marked.
use Rattle.page_core.specs.Private.Nodes.{place_kept}
use Rattle.page_core.proofs.ColourTables.ColourSteps.{colour_marked}
use Rattle.page_core.proofs.cluts.push_entry.Goals as goal

pub returns-in-Some-clause-marks : goal.returns-in-Some-clause-marks
returns-in-Some-clause-marks c =
    colour_marked (place_kept c.args.place) c.args.composition.now c.push_colour.new.self c.args.marks.now
    c.put.new.self (c.requires.clut, c.requires.table) c.requires.new c.in-Some.ensures.1 c.put.ensures
    c.requires.marks
