use Rattle.std.proofs.Common.{◌≡◌, take}
use Rattle.page_epoch.specs.Private.Showing.{starts_of, ends_of}
use Rattle.page_epoch.proofs.cue_ticks.CueTicks.of.Given as goal

abbrev pub invariant-loop-epoch : goal.invariant-loop-epoch
invariant-loop-epoch l = (l.starts.items ≡ starts_of (take l.epoch-index l.epochs))
    × (l.ends.items ≡ ends_of (take l.epoch-index l.epochs))
