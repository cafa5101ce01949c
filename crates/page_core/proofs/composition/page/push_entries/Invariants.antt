-- The entries so far are put in.
use Rattle.segments.specs.Contents.{page_value}
use Rattle.page_core.proofs.Pictures.PagePushes.{HasSome}
use Rattle.page_core.proofs.composition.page.push_entries.Given as goal

abbrev pub invariant-loop-i : goal.invariant-loop-i
invariant-loop-i l = HasSome (page_value l.page).entries l.i l.fn.pool l.pool
