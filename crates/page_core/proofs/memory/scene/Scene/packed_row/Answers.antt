-- The regions have their pixels.
use Rattle.page_core.proofs.Pictures.DrawnEntries.{regions_placed}
use Rattle.page_core.proofs.memory.scene.Scene.packed_row.Goals as goal

pub packed_row-requires : goal.packed_row-requires
packed_row-requires c = regions_placed _ c.core.invariant.whole
