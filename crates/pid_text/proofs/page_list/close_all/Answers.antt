use Rattle.std.proofs.Common.{◌∙◌, ap, arith, get_or, set}
use Rattle.std.proofs.lemmas.List.{get_or_default}
use Rattle.std.proofs.lemmas.List.Edits.{map_over_more}
use Rattle.pid_text.specs.Private.Listing.{closed, fresh}
use Rattle.pid_text.proofs.page_list.close_all.Goals as goal

pub loop-entry-preserved : goal.loop-entry-preserved
loop-entry-preserved c =
    ap (set c.loop-entry.entries c.loop-entry.entry-index) c.close.ensures
    ∙ map_over_more closed c.args.entries.now c.loop-entry.entries c.loop-entry.entry-index
    (get_or c.loop-entry.entries c.loop-entry.entry-index (fresh 0)) c.loop-entry-test.true c.loop-entry.invariant
    (get_or_default c.loop-entry.entries c.loop-entry.entry-index (fresh 0) _
    (omega (arith, c.loop-entry-test.true, c.loop-entry.auto.entries)))
