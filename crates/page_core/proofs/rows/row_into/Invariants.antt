use Rattle.std.proofs.Common.{length}
use Rattle.page_core.proofs.Pictures.DrawnEntries.{IsOnWay}
use Rattle.page_core.proofs.rows.row_into.Given as goal

abbrev pub invariant-loop-entry : goal.invariant-loop-entry
invariant-loop-entry l = IsOnWay l.composition l.store l.inks l.place l.entries l.row

abbrev pub decreases-loop-entry : goal.decreases-loop-entry
decreases-loop-entry l = length l.entries
