use Rattle.std.proofs.Common.{◌≡◌, map, take}
use Rattle.page_epoch.specs.EpochStates.{first_region_state}
use Rattle.page_epoch.proofs.epoch_state.first_region_states.Given as goal

abbrev pub invariant-loop-region : goal.invariant-loop-region
invariant-loop-region l = l.states.items ≡ map (λ _. first_region_state) (take l._region-index l.regions)
