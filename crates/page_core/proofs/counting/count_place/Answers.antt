-- The entry is counted, or was set or counted.
use Rattle.std.proofs.Common.{◌∙◌, arith, refl, sym}
use Rattle.page_core.specs.Memory.{ink_place}
use Rattle.page_core.specs.Private.Nodes.{place_kept}
use Rattle.page_core.proofs.Counts.CountedMarks.{none_counted, one_counted, uncounted_same}
use Rattle.page_core.proofs.counting.count_place.Goals as goal

pub returns-in-Unset-clause-marks : goal.returns-in-Unset-clause-marks
returns-in-Unset-clause-marks c =
    uncounted_same c.args.marks.now c.put.new.self (ink_place c.args.place.clut c.args.place.depth c.args.place.entry)
    (sym c.at.ensures ∙ c.in-Unset.is) c.put.ensures

pub returns-in-Unset-clause-counted : goal.returns-in-Unset-clause-counted
returns-in-Unset-clause-counted c =
    one_counted (place_kept c.args.place) c.args.marks.now c.put.new.self (c.requires.clut, c.requires.table)
    (sym c.at.ensures ∙ c.in-Unset.is) c.put.ensures

pub returns-in_default : goal.returns-in_default
returns-in_default c = record {
  marks = refl;
  counted =
      none_counted (place_kept c.args.place) c.args.marks.now (c.requires.clut, c.requires.table)
      (λ unset. c.in_default.not-Unset (c.at.ensures ∙ unset));
  one = omega arith;
}
