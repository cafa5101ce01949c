-- The entry is one of the table.
use Rattle.std.proofs.Common.{◌∙◌, sym}
use Rattle.page_core.proofs.Counts.CountedMarks.{counted_where}
use Rattle.page_core.proofs.counting.count_in_depth.Goals as goal

pub returns-then-is_in_depth-clause-counted : goal.returns-then-is_in_depth-clause-counted
returns-then-is_in_depth-clause-counted c =
    counted_where c.args.clut c.args.entry c.args.depth c.args.marks.now c.count_place.new.marks c.count_place.result
    (sym c.is_in_depth.ensures ∙ c.if-is_in_depth.true) c.count_place.ensures.counted
