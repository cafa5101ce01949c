-- The first node is a colour.
use Rattle.page_core.proofs.ColourTables.ColourNodes.{popped_as}
use Rattle.page_core.specs.Private.Nodes.{colour_in, place_kept}
use Rattle.page_core.proofs.composition.pop_colour.Goals as goal

pub returns-in-Some : goal.returns-in-Some
returns-in-Some c =
    popped_as colour_in place_kept 3 c.in-Some.node c.place_in.result c.args.pool.now c.pop_front.new.pool
    c.requires.kind c.place_in.ensures c.in-Some.ensures
