use Rattle.page_epoch.proofs.InstantLaws.{AreRecordedInstantsUpTo}
use Rattle.page_epoch.proofs.instants.instants_of.Given as goal

abbrev pub invariant-loop-i : goal.invariant-loop-i
invariant-loop-i l = AreRecordedInstantsUpTo l.epochs l.refresh l.event-items l.i l.instants.items
