-- One more entry of the segment is counted.
use Rattle.segments.specs.Contents.{clut_value, items_left}
use Rattle.page_core.proofs.Counts.CountedMarks.{counting_goes_on}
use Rattle.page_core.proofs.counting.count_entries.Goals as goal

pub loop-entry-preserved : goal.loop-entry-preserved
loop-entry-preserved c =
    counting_goes_on c.args.clut.now.clut (clut_value c.args.clut.now).entries (items_left c.loop-entry.items)
    (items_left c.next.new.self) c.in-Some.entry c.args.marks.now c.loop-entry.marks c.count_entry.new.marks
    c.loop-entry.count c.count_entry.result _ c.in-Some.ensures.steps c.saturating_add-count.ensures
    c.loop-entry.invariant c.count_entry.ensures.marks c.count_entry.ensures.counted
