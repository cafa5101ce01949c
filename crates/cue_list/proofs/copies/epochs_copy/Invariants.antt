use Rattle.std.proofs.Common.{◌≡◌, take}
use Rattle.cue_list.proofs.copies.epochs_copy.Given as goal

abbrev pub invariant-loop-epoch : goal.invariant-loop-epoch
invariant-loop-epoch l = l.copies.items ≡ take l.epoch-index l.epochs
