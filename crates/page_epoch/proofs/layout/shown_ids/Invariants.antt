use Rattle.std.proofs.Common.{◌≡◌, take}
use Rattle.page_epoch.specs.Private.Layouts.{shown_of}
use Rattle.page_epoch.proofs.layout.shown_ids.Given as goal

abbrev pub invariant-loop-page_region : goal.invariant-loop-page_region
invariant-loop-page_region l = l.shown.items ≡ shown_of l.states (take l.page_region-index l.page_regions)
