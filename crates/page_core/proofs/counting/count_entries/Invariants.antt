-- The entries so far are counted.
use Rattle.std.proofs.Common.{length}
use Rattle.segments.specs.Contents.{clut_value, items_left}
use Rattle.page_core.proofs.Counts.CountedMarks.{IsCounting}
use Rattle.page_core.proofs.counting.count_entries.Given as goal

abbrev pub invariant-loop-entry : goal.invariant-loop-entry
invariant-loop-entry l =
    IsCounting l.clut.clut (clut_value l.clut).entries (items_left l.items) l.fn.marks l.marks l.count

abbrev pub decreases-loop-entry : goal.decreases-loop-entry
decreases-loop-entry l = length (items_left l.items)
