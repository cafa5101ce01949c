-- The regions have their pixels.
use Rattle.page_core.proofs.Pictures.DrawnEntries.{regions_placed}
use Rattle.page_core.proofs.memory.scene.Scene.row_into.Goals as goal

pub row_into-requires : goal.row_into-requires
row_into-requires c = regions_placed _ c.core.invariant.whole
