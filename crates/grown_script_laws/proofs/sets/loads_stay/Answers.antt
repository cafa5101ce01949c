use Rattle.std.proofs.Common.{◌≤◌}
use Rattle.std.proofs.lemmas.List.Elements.{All-contains}
use Rattle.page_epoch.specs.declared.planned_set.PlannedSet.{PlannedSet}
use Rattle.grown_script_laws.proofs.GrownPlans.{HasGrown, sets_have_grown}
use Rattle.grown_script_laws.proofs.GrownPackets as own
use Rattle.grown_script_laws.proofs.sets.loads_stay.Goals as goal

pub returns : goal.returns
returns c horizon old new profile sets set load grows plan there early is =
    own.load_stays horizon old new set load grows
    (All-contains (λ (set : PlannedSet). set.pts ≤ horizon → HasGrown horizon old new set) sets set
    (sets_have_grown horizon old new profile sets grows plan) there early) is
