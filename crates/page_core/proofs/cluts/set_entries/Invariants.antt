-- The entries so far are set.
use Rattle.std.proofs.Common.{length}
use Rattle.segments.specs.Contents.{clut_value, items_left}
use Rattle.page_core.proofs.ColourTables.ColourSteps.{IsSetting}
use Rattle.page_core.proofs.cluts.set_entries.Given as goal

abbrev pub invariant-loop-entry : goal.invariant-loop-entry
invariant-loop-entry l =
    IsSetting l.clut.clut (clut_value l.clut).entries (items_left l.items) l.fn.composition l.fn.inks l.composition
    l.inks l.marks

abbrev pub decreases-loop-entry : goal.decreases-loop-entry
decreases-loop-entry l = length (items_left l.items)
