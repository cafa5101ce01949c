use Rattle.std.proofs.Common.{ap, length, arith}
use Rattle.picture_fields.specs.Private.Rows.{room_of}
use Rattle.picture_fields.proofs.FieldLaws.{few_rows, room_fields}
use Rattle.picture_fields.proofs.sizes.field_sizes.Goals as goal

pub field_size-top-requires-clause-few : goal.field_size-top-requires-clause-few
field_size-top-requires-clause-few c =
    omega (arith, few_rows c.args.picture.now c.depth.ensures.picture 0, ap length c.top_rows.ensures.value)

pub returns-then-fields_equal-clause-room : goal.returns-then-fields_equal-clause-room
returns-then-fields_equal-clause-room c =
    let whole = room_fields c.args.picture.now c.depth.ensures.picture in
    omega (arith, whole, c.field_size-top.ensures.room, ap room_of c.top_rows.ensures.value)

pub returns-else-fields_equal-clause-room : goal.returns-else-fields_equal-clause-room
returns-else-fields_equal-clause-room c =
    let whole = room_fields c.args.picture.now c.depth.ensures.picture in
    omega (
      arith,
      whole,
      c.field_size-top.ensures.room,
      ap room_of
          c.top_rows.ensures.value,
      c.bottom_field_size-bottom.ensures.room,
    )
