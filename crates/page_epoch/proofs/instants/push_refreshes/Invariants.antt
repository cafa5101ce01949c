use Rattle.std.proofs.Common.{◌-◌}
use Rattle.page_epoch.proofs.InstantLaws.{AreRefreshing}
use Rattle.page_epoch.proofs.instants.push_refreshes.Given as goal

abbrev pub invariant-loop-tick : goal.invariant-loop-tick
invariant-loop-tick l =
    AreRefreshing l.fn.instants.items l.instants.items l.fn.event.tick l.fn.event.row l.next l.refresh l.tick

abbrev pub decreases-loop-tick : goal.decreases-loop-tick
decreases-loop-tick l = l.next - l.tick
