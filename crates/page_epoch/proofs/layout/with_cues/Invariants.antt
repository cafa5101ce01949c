use Rattle.std.proofs.Common.{◌≡◌, map, take}
use Rattle.page_epoch.specs.EpochStates.{AreOwn}
use Rattle.page_epoch.proofs.layout.with_cues.Given as goal

abbrev pub invariant-loop-region : goal.invariant-loop-region
invariant-loop-region l =
    (map (λ region. region.id) l.found.items ≡ map (λ region. region.id) (take l.region-index l.regions))
    × AreOwn l.cues l.found.items
