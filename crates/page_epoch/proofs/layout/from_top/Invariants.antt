use Rattle.std.proofs.Common.{◌≡◌, map}
use Rattle.page_epoch.specs.Live.{places_below}
use Rattle.page_epoch.specs.Private.Layouts.{page_region_at}
use Rattle.page_epoch.proofs.layout.from_top.Given as goal

abbrev pub invariant-loop-place : goal.invariant-loop-place
invariant-loop-place l = l.page_regions.items ≡ map (page_region_at l.regions) (places_below l.place)
