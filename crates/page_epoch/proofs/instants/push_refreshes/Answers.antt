use Rattle.page_epoch.proofs.InstantLaws.{AreRefreshing-more}
use Rattle.page_epoch.proofs.instants.push_refreshes.Goals as goal

pub loop-tick-preserved : goal.loop-tick-preserved
loop-tick-preserved c =
    AreRefreshing-more c.loop-tick.invariant c.loop-tick-test.true c.requires.next c.requires.refresh
    c.in_ok-push.ensures.items
