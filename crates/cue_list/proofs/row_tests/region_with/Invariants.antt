use Rattle.std.proofs.Common.{◌≡◌, drop}
use Rattle.cue_list.specs.Past.{region_with as region_with_of}
use Rattle.cue_list.proofs.row_tests.region_with.Given as goal

abbrev pub invariant-loop-region : goal.invariant-loop-region
invariant-loop-region l = region_with_of l.id (drop l.region-index l.regions) ≡ region_with_of l.id l.regions
