-- The regions so far have room.
use Rattle.std.proofs.Common.{◌≡◌, ◌-◌, [], None, List, length, filter}
use Rattle.sub_base.specs.declared.profile.Profile.{Profile}
use Rattle.decoder_model.specs.Faults.{first_fault_by, region_changed}
use Rattle.decoder_model.specs.Nodes.{pixels_used}
use Rattle.decoder_model.specs.Readings.{Content}
use Rattle.decoder_model.specs.Taken.{taken_of}
use Rattle.page_core.specs.Handed.{AreContents}
use Rattle.page_core.specs.Private.RegionTests.{AreApart, HasHeads}
use Rattle.page_core.specs.Private.Walks.{is_region}
use Rattle.page_core.proofs.Counts.PixelRoom.{IsRoomed}
use Rattle.page_core.proofs.region_tests.full_pixels.Given as goal

abbrev pub invariant-loop-next : goal.invariant-loop-next
invariant-loop-next l = (profile : Profile) (set older : List Content)
    → l.fn.free ≡ profile.pixels - pixels_used (taken_of older) → HasHeads older l.composition
    → AreContents set l.fn.bytes
    → AreApart [] (filter is_region set) → first_fault_by region_changed older set ≡ None
    → IsRoomed profile older set l.left l.rest

abbrev pub decreases-loop-next : goal.decreases-loop-next
decreases-loop-next l = length l.rest
