use Rattle.std.proofs.Common.{◌≡◌, option_map, find, reverse, take, nat_le}
use Rattle.cue_list.proofs.painting.epoch_at.Given as goal

abbrev pub invariant-loop-epoch : goal.invariant-loop-epoch
invariant-loop-epoch l =
    option_map (λ epoch. epoch.now) l.last
    ≡ find (λ epoch. nat_le epoch.start l.tick) (reverse (take l.epoch-index l.epochs))
