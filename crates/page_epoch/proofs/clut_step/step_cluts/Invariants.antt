use Rattle.page_epoch.proofs.ClutLaws.{HaveStepped}
use Rattle.page_epoch.proofs.clut_step.step_cluts.Given as goal

abbrev pub invariant-loop-i : goal.invariant-loop-i
invariant-loop-i l = HaveStepped l.colours l.cluts l.versions l.tick l.whole l.i l.next.items l.sent.items l.nodes
