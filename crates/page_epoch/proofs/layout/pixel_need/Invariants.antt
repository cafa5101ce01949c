use Rattle.std.proofs.Common.{◌≡◌, ◌≤◌, ◌*◌, ◌^◌, take, sum_by}
use Rattle.page_epoch.specs.Needs.{region_need}
use Rattle.page_epoch.proofs.layout.pixel_need.Given as goal

abbrev pub invariant-loop-region : goal.invariant-loop-region
invariant-loop-region l =
    (l.sum ≡ sum_by region_need (take l.region-index l.regions)) × (l.sum ≤ 2 ^ 33 * l.region-index)
