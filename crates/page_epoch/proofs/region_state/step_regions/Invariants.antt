use Rattle.page_epoch.proofs.RegionLaws.{HaveStepped}
use Rattle.page_epoch.proofs.region_state.step_regions.Given as goal

abbrev pub invariant-loop-i : goal.invariant-loop-i
invariant-loop-i l = HaveStepped l.cues l.regions l.states l.tick l.first l.whole l.i l.stepped.items l.sent.items
