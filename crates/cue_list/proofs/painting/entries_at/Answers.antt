use Rattle.std.proofs.Common.{◌∙◌, get_or, sym, refl}
use Rattle.cue_list.proofs.EntryLaws.{IsEntryAfter-none, IsEntryAfter-row, IsEntryAfter-passed_row}
use Rattle.cue_list.specs.Planes.{colour_of}
use Rattle.cue_list.proofs.painting.entries_at.Goals as goal
use Rattle.cue_list.proofs.painting.entries_at.Goals.{then-sets_clut, else-sets_clut}

pub loop-row-init : goal.loop-row-init
loop-row-init c entry below =
    IsEntryAfter-none c.args.clut c.args.depth c.args.tick entry _ _ (c.default_entries-entries.ensures entry below)
    (c.no_ticks-ticks.ensures entry)

pub loop-row-preserved : goal.loop-row-preserved
loop-row-preserved c entry below =
    elim c.if-sets_clut.branch [
      | then-sets_clut w ↦
          rw (w.entries-is, w.ticks-is)
          (IsEntryAfter-row c.args.clut c.args.depth c.args.tick entry c.args.colours.now c.loop-row.row-index _
          c.loop-row-test.true
          (colour_of c.loop-row.entries entry) (colour_of w.put_row.new.entries entry) (get_or c.loop-row.ticks entry 0)
          (get_or w.put_row.new.ticks entry 0)
          (c.loop-row.invariant entry below) (sym c.sets_clut.ensures ∙ w.if-sets_clut.true)
          (w.put_row.ensures.same entry)
          (w.put_row.ensures.put entry)
          (w.put_row.ensures.kept entry))
      | else-sets_clut w ↦
          rw (w.entries-is, w.ticks-is)
          (IsEntryAfter-passed_row c.args.clut c.args.depth c.args.tick entry c.args.colours.now c.loop-row.row-index _
          c.loop-row-test.true
          (colour_of c.loop-row.entries entry) (colour_of c.loop-row.entries entry) (get_or c.loop-row.ticks entry 0)
          (get_or c.loop-row.ticks entry 0)
          (c.loop-row.invariant entry below) (sym c.sets_clut.ensures ∙ w.if-sets_clut.false) (refl, refl))
    ]
