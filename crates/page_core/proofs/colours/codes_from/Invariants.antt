use Rattle.page_core.specs.Coloured.{AreColouredTo}
use Rattle.page_core.proofs.colours.codes_from.Given as goal

abbrev pub invariant-loop-x : goal.invariant-loop-x
invariant-loop-x l = AreColouredTo l.x l.depth l.packed l.colours l.row
