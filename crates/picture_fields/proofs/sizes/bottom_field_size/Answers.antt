use Rattle.std.proofs.Common.{ap, length, arith}
use Rattle.picture_fields.proofs.FieldLaws.{few_rows}
use Rattle.picture_fields.proofs.sizes.bottom_field_size.Goals as goal

pub field_size-requires-clause-few : goal.field_size-requires-clause-few
field_size-requires-clause-few c =
    omega (arith, few_rows c.args.picture.now c.height.ensures.picture 1, ap length c.bottom_rows.ensures.value)
