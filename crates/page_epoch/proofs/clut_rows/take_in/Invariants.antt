use Rattle.std.proofs.Common.{◌≡◌, take}
use Rattle.page_epoch.specs.SentCluts.{all_entries}
use Rattle.page_epoch.specs.Private.Changes.{current_of}
use Rattle.page_epoch.proofs.clut_rows.take_in.Given as goal

abbrev pub invariant-loop-i : goal.invariant-loop-i
invariant-loop-i l = l.current.items ≡ current_of l.colours all_entries (take l.i l.rows)
