-- What a unit adds.
use Rattle.std.proofs.Common.{◌∙◌, refl, sym}
use Rattle.set_reader.proofs.Gatherings.{end_of, lost_gathers, lost_unit, other_unit, passed_gathers, read_unit, taken_gathers}
use Rattle.set_reader.proofs.units.take_unit.Goals as goal

pub returns-in-Ok-clause-gathers : goal.returns-in-Ok-clause-gathers
returns-in-Ok-clause-gathers c arrivals given place stands =
    taken_gathers arrivals _ _ given _
    (read_unit c.args.sets.now.pages place c.args.unit.now c.in-Ok.pes.pts c.in-Ok.pes.segments.now
    c.in-Ok.ensures.exact)
    (c.take_unit.ensures.stands arrivals given place stands)

pub returns-in-Ok-clause-end : goal.returns-in-Ok-clause-end
returns-in-Ok-clause-end c arrivals given place stands = (
  c.take_unit.result,
  refl,
  end_of _ arrivals _ _ _
      (read_unit c.args.sets.now.pages place c.args.unit.now c.in-Ok.pes.pts c.in-Ok.pes.segments.now
      c.in-Ok.ensures.exact) (c.take_unit.ensures.end arrivals given place stands),
)

pub returns-then-is_passed_over-clause-gathers : goal.returns-then-is_passed_over-clause-gathers
returns-then-is_passed_over-clause-gathers c arrivals given place stands =
    passed_gathers arrivals _ given _
    (other_unit c.args.sets.now.pages place c.args.unit.now c.in-Err.fault c.in-Err.ensures.exact
    (sym c.is_passed_over.ensures ∙ c.if-is_passed_over.true)) stands

pub returns-then-is_passed_over-clause-end : goal.returns-then-is_passed_over-clause-end
returns-then-is_passed_over-clause-end c arrivals given place stands = (
  _,
  refl,
  end_of _ arrivals _ _ _
      (other_unit c.args.sets.now.pages place c.args.unit.now c.in-Err.fault c.in-Err.ensures.exact
      (sym c.is_passed_over.ensures ∙ c.if-is_passed_over.true))
      (record { passed_over = refl; dropped = refl; before = refl }),
)

pub returns-else-is_passed_over-clause-gathers : goal.returns-else-is_passed_over-clause-gathers
returns-else-is_passed_over-clause-gathers c arrivals given place stands =
    lost_gathers arrivals _ given _
    (lost_unit c.args.sets.now.pages place c.args.unit.now c.in-Err.fault c.in-Err.ensures.exact
    (sym c.is_passed_over.ensures ∙ c.if-is_passed_over.false))
    (c.lose.ensures.refused arrivals given stands)

pub returns-else-is_passed_over-clause-end : goal.returns-else-is_passed_over-clause-end
returns-else-is_passed_over-clause-end c arrivals given place stands = (
  _,
  refl,
  end_of _ arrivals _ _ _
      (lost_unit c.args.sets.now.pages place c.args.unit.now c.in-Err.fault c.in-Err.ensures.exact
      (sym c.is_passed_over.ensures ∙ c.if-is_passed_over.false))
      (record { passed_over = refl; dropped = refl; before = refl }),
)
