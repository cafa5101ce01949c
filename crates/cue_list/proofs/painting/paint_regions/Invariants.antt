use Rattle.std.proofs.Common.{take}
use Rattle.cue_list.specs.Planes.{ShowsRegions}
use Rattle.cue_list.proofs.painting.paint_regions.Given as goal

abbrev pub invariant-loop-region : goal.invariant-loop-region
invariant-loop-region l =
    ShowsRegions l.script.pictures l.epoch (take l.region-index l.regions) l.tick l.script.width l.script.height l.plane
