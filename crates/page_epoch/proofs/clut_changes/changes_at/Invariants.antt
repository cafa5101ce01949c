use Rattle.page_epoch.specs.SentCluts.{all_entries}
use Rattle.page_epoch.proofs.WalkLaws.{HaveWalked}
use Rattle.page_epoch.proofs.clut_changes.changes_at.Given as goal

abbrev pub invariant-loop-tick : goal.invariant-loop-tick
invariant-loop-tick l =
    HaveWalked l.colours all_entries l.rows l.ticks l.tick-index l.applied l.current.items l.changes.items
