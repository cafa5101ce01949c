use Rattle.std.proofs.Common.{◌≡◌, map, take, None}
use Rattle.page_epoch.proofs.epoch_state.first_versions.Given as goal

abbrev pub invariant-loop-clut : goal.invariant-loop-clut
invariant-loop-clut l = l.versions.items ≡ map (λ _. None) (take l._clut-index l.cluts)
