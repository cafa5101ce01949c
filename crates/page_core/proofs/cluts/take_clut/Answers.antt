-- A CLUT segment is taken, or changes nothing.
use Rattle.std.proofs.Common.{◌∙◌, sym}
use Rattle.segments.specs.Contents.{clut_value}
use Rattle.page_core.proofs.ColourTables.ClutLaws.{clut_taken_by, colours_held, colours_taken, kept_as_it_was, kept_with_clut}
use Rattle.page_core.proofs.cluts.take_clut.Goals as goal

pub returns-then-is_new_version : goal.returns-then-is_new_version
returns-then-is_new_version c = record {
  coloured = c.set_entries.ensures.coloured;
  keeps =
      kept_with_clut c.args.clut.now.clut c.args.clut.now.version c.args.composition.now c.set_clut.new.self
      c.set_entries.new.composition c.set_clut.ensures c.set_entries.ensures.keeps;
  taken = λ earlier content is has room.
      colours_taken earlier content (clut_value c.args.clut.now) c.args.composition.now c.set_clut.new.self
      c.args.inks.now is has c.set_entries.new.composition c.set_entries.new.inks
      (clut_taken_by earlier content (clut_value c.args.clut.now) c.clut_version.result is
      (c.clut_version.ensures ∙ has.versions c.args.clut.now.clut) ∙ sym c.is_new_version.ensures
      ∙ c.if-is_new_version.true)
      room c.set_clut.ensures c.set_entries.ensures.keeps c.set_entries.ensures.set;
}

pub returns-else-is_new_version : goal.returns-else-is_new_version
returns-else-is_new_version c = record {
  coloured = c.requires;
  keeps = kept_as_it_was c.args.composition.now;
  taken = λ earlier content is has room.
      colours_held earlier content c.args.composition.now c.args.inks.now
      (clut_taken_by earlier content (clut_value c.args.clut.now) c.clut_version.result is
      (c.clut_version.ensures ∙ has.versions c.args.clut.now.clut) ∙ sym c.is_new_version.ensures
      ∙ c.if-is_new_version.false) has;
}
