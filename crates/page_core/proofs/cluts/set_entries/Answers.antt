-- One more entry of the segment is set.
use Rattle.segments.specs.Contents.{clut_value, items_left}
use Rattle.page_core.proofs.ColourTables.ColourSteps.{setting_goes_on}
use Rattle.page_core.proofs.cluts.set_entries.Goals as goal

pub loop-entry-preserved : goal.loop-entry-preserved
loop-entry-preserved c =
    setting_goes_on c.args.clut.now.clut (clut_value c.args.clut.now).entries (items_left c.loop-entry.items)
    (items_left c.next.new.self) c.in-Some.entry c.args.composition.now c.args.inks.now
    c.loop-entry.composition c.set_entry.new.composition c.loop-entry.inks c.set_entry.new.inks c.loop-entry.marks
    c.set_entry.new.marks
    c.in-Some.ensures.steps c.loop-entry.invariant c.set_entry.ensures.coloured c.set_entry.ensures.keeps
    c.set_entry.ensures.set
