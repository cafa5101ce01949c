-- The regions so far are cleared.
use Rattle.std.proofs.Common.{List, length}
use Rattle.decoder_model.specs.Readings.{Content}
use Rattle.pixel_store.specs.Regions.{Regions}
use Rattle.page_core.specs.Composition.{AreIdsApart}
use Rattle.page_core.specs.Handed.{AreContents}
use Rattle.page_core.specs.Private.RegionSteps.{AreStored, KeepsBesideRegions}
use Rattle.page_core.proofs.Regions.RenewedRegions.{IsClearing}
use Rattle.page_core.proofs.region_taking.clear_renewed.Given as goal

abbrev pub invariant-loop-next : goal.invariant-loop-next
invariant-loop-next l =
    AreIdsApart l.composition.regions × KeepsBesideRegions l.fn.composition l.composition
    × ((store : Regions) → AreStored l.fn.composition store → AreStored l.composition store)
    × ((set : List Content) → AreContents set l.fn.bytes → IsClearing set l.fn.composition l.composition l.rest)

abbrev pub decreases-loop-next : goal.decreases-loop-next
decreases-loop-next l = length l.rest
