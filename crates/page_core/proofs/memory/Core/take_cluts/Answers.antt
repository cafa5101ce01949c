-- The core holds the CLUT segments of the set too.
use Rattle.std.proofs.Common.{refl}
use Rattle.page_core.proofs.ColourTables.ClutSegments.{core_holds}
use Rattle.page_core.proofs.memory.Core.take_cluts.Goals as goal

pub returns-clause-holds : goal.returns-clause-holds
returns-clause-holds c older set holds are room =
    core_holds older set c.args.bytes.now _ c.args.self.now _ c.self.view_is refl c.take_cluts.ensures.keeps.regions
    refl c.take_cluts.ensures.taken holds are room
