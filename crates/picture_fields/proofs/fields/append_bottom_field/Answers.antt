use Rattle.std.proofs.Common.{ap, length, arith}
use Rattle.picture_fields.proofs.FieldLaws.{few_rows}
use Rattle.picture_fields.proofs.fields.append_bottom_field.Goals as goal

pub append_field-requires-clause-few : goal.append_field-requires-clause-few
append_field-requires-clause-few c =
    omega (arith, few_rows c.args.picture.now c.height.ensures.picture 1, ap length c.bottom_rows.ensures.value)
