use Rattle.std.proofs.Common.{◌≤◌}
use Rattle.std.proofs.lemmas.List.Elements.{All-contains}
use Rattle.page_epoch.specs.declared.planned_set.PlannedSet.{PlannedSet}
use Rattle.grown_script_laws.proofs.GrownPlans.{HasGrown, sets_have_grown}
use Rattle.grown_script_laws.proofs.GrownPackets as own
use Rattle.grown_script_laws.proofs.sets.packets_stay.Goals as goal

pub returns : goal.returns
returns c horizon page old new profile sets set packets grows plan there early are =
    own.packets_stay horizon page old new set packets grows
    (All-contains (λ (set : PlannedSet). set.pts ≤ horizon → HasGrown horizon old new set) sets set
    (sets_have_grown horizon old new profile sets grows plan) there early) are
