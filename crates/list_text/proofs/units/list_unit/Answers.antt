use Rattle.std.proofs.Common.{◌∙◌}
use Rattle.list_text.specs.ListText.{of_others}
use Rattle.list_text.proofs.ListLaws.{unit_lines}
use Rattle.list_text.proofs.units.list_unit.Goals as goal

pub returns-in-Ok : goal.returns-in-Ok
returns-in-Ok g c =
    unit_lines _ _ _ _ _ _ c.args.place c.in-Ok.pes.pts c.args.unit.now c.in-Ok.pes.segments.now c.as_bytes.result.now
    c.in-Ok.ensures.found (c.as_bytes.ensures ∙ c.unit_line-line.ensures.line) c.put.ensures
    c.list_segments.ensures

pub returns-in-Err : goal.returns-in-Err
returns-in-Err g c = (
  c.as_bytes-in-Err.result.now,
  of_others c.in-Err.fault c.in-Err.ensures.fault
      (c.as_bytes-in-Err.ensures ∙ c.pes_line-line.ensures.line),
  c.put-in-Err.ensures,
)
