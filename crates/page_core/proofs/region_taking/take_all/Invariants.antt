-- The regions so far are taken.
use Rattle.std.proofs.Common.{◌≡◌, [], List, filter, length}
use Rattle.sub_base.specs.declared.profile.Profile.{Profile}
use Rattle.decoder_model.specs.Readings.{Content}
use Rattle.page_core.specs.Handed.{AreContents}
use Rattle.page_core.specs.Private.RegionSteps.{AreReady, AreStored, KeepsBesideRegions}
use Rattle.page_core.specs.Private.RegionTests.{AreApart}
use Rattle.page_core.specs.Private.Walks.{is_region}
use Rattle.page_core.proofs.Regions.RegionReady.{IsTaking}
use Rattle.page_core.proofs.region_taking.take_all.Given as goal

abbrev pub invariant-loop-next : goal.invariant-loop-next
invariant-loop-next l =
    AreStored l.composition l.store × KeepsBesideRegions l.fn.composition l.composition
    × (l.store.size ≡ l.fn.store.size)
    × ((profile : Profile) (older set : List Content) → AreContents set l.fn.bytes
    → AreApart [] (filter is_region set)
    → AreReady profile older (filter is_region set) l.fn.composition l.fn.store
    → IsTaking profile older set l.composition l.store l.rest)

abbrev pub decreases-loop-next : goal.decreases-loop-next
decreases-loop-next l = length l.rest
