use Rattle.std.proofs.Common.{◌≡◌, take}
use Rattle.page_epoch.specs.SentRegions.{listed_cues}
use Rattle.page_epoch.proofs.layout.listed_cues_of.Given as goal

abbrev pub invariant-loop-region : goal.invariant-loop-region
invariant-loop-region l = l.cues.items ≡ listed_cues (take l.region-index l.regions)
