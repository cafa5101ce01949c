use Rattle.std.proofs.Common.{take}
use Rattle.std.specs.Ordering.{nat_cmp}
use Rattle.std.specs.BTreeMap.{get}
use Rattle.page_epoch.specs.Rows.{Noted}
use Rattle.page_epoch.proofs.events.least_rows.Given as goal

abbrev pub invariant-loop-event : goal.invariant-loop-event
invariant-loop-event l = Noted (take l.event-index l.events) (get nat_cmp l.rows)
