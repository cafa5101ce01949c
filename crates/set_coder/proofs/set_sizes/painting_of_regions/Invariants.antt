use Rattle.std.proofs.Common.{◌≡◌, ◌*◌, ◌≤◌, take}
use Rattle.std.specs.List.{sum_by}
use Rattle.set_coder.specs.SetSizes.{sent_painting}
use Rattle.set_coder.proofs.set_sizes.painting_of_regions.Given as goal

abbrev pub invariant-loop-sent : goal.invariant-loop-sent
invariant-loop-sent l = (l.painted ≡ sum_by (sent_painting l.epoch) (take l.sent-index l.regions))
    × (l.painted ≤ 4294967296 * l.sent-index)
