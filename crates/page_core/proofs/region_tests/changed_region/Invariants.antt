-- No region so far is changed.
use Rattle.std.proofs.Common.{[], List, length, filter}
use Rattle.decoder_model.specs.Faults.{region_changed}
use Rattle.decoder_model.specs.Readings.{Content}
use Rattle.page_core.specs.Handed.{AreContents}
use Rattle.page_core.specs.Private.RegionTests.{AreApart, HasHeads}
use Rattle.page_core.specs.Private.Walks.{is_region}
use Rattle.page_core.proofs.Regions.RegionLaws.{IsTested}
use Rattle.page_core.proofs.region_tests.changed_region.Given as goal

abbrev pub invariant-loop-next : goal.invariant-loop-next
invariant-loop-next l = (set older : List Content) → HasHeads older l.composition → AreContents set l.fn.bytes
    → AreApart [] (filter is_region set) → IsTested region_changed older set l.rest

abbrev pub decreases-loop-next : goal.decreases-loop-next
decreases-loop-next l = length l.rest
