-- An entry of a table has a colour, or there is no node for it.
use Rattle.std.proofs.Common.{◌∙◌, sym}
use Rattle.page_core.proofs.ColourTables.ColourSteps.{coloured_by_place, coloured_without_place, kept_by_place, none_by_place, set_by_place}
use Rattle.page_core.proofs.cluts.set_place.Goals as goal

pub returns-then-add_entry : goal.returns-then-add_entry
returns-then-add_entry c = record {
  coloured =
      coloured_by_place c.args.place c.args.colour c.args.composition.now c.add_entry.new.composition c.args.inks.now
      c.requires.clut c.requires.table c.add_entry.ensures.added
      c.args.marks.now c.add_entry.new.marks c.set.new.self c.set.ensures.set
      (sym c.add_entry.ensures.set ∙ c.if-add_entry.true) c.requires.coloured c.add_entry.ensures.marks;
  keeps =
      kept_by_place c.args.place c.args.colour c.args.composition.now c.add_entry.new.composition c.args.inks.now
      c.requires.clut c.requires.table c.add_entry.ensures.added;
  set =
      set_by_place c.args.place c.args.colour c.args.composition.now c.add_entry.new.composition c.args.inks.now
      c.requires.clut c.requires.table c.add_entry.ensures.added c.set.new.self c.set.ensures.set
      c.requires.coloured.coloured.count;
}

pub returns-else-add_entry : goal.returns-else-add_entry
returns-else-add_entry c = record {
  coloured =
      coloured_without_place c.args.place c.args.colour c.args.composition.now c.add_entry.new.composition
      c.args.inks.now c.requires.clut c.requires.table c.add_entry.ensures.added
      c.args.marks.now c.add_entry.new.marks c.requires.coloured c.add_entry.ensures.marks;
  keeps =
      kept_by_place c.args.place c.args.colour c.args.composition.now c.add_entry.new.composition c.args.inks.now
      c.requires.clut c.requires.table c.add_entry.ensures.added;
  set =
      none_by_place c.args.place c.args.colour c.args.composition.now c.add_entry.new.composition c.args.inks.now
      c.requires.clut c.requires.table c.add_entry.ensures.added (sym c.add_entry.ensures.set ∙ c.if-add_entry.false);
}
