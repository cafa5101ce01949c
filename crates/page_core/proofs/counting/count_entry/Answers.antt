-- One table after another.
use Rattle.page_core.proofs.Counts.CountedMarks.{counted_in_depths}
use Rattle.page_core.proofs.counting.count_entry.Goals as goal

pub returns-clause-counted : goal.returns-clause-counted
returns-clause-counted c =
    counted_in_depths c.args.clut c.args.entry c.args.marks.now c.count_in_depth-two.new.marks
    c.count_in_depth-four.new.marks c.count_in_depth-eight.new.marks c.count_in_depth-two.result
    c.count_in_depth-four.result c.count_in_depth-eight.result
    c.count_in_depth-two.ensures.counted c.count_in_depth-four.ensures.counted c.count_in_depth-eight.ensures.counted
