use Rattle.std.proofs.Common.{◌+◌, ◌*◌, ◌≤◌, length}
use Rattle.picture_fields.specs.Private.Rows.{room_of}
use Rattle.picture_fields.proofs.FieldLaws.{Written}
use Rattle.picture_fields.proofs.fields.append_field.Given as goal

abbrev pub invariant-loop-row : goal.invariant-loop-row
invariant-loop-row l =
    record {
      written : Written l.depth l.fn.region l.fn.out.items l.out.items l.row-iterator l.fn.rows;
      short : 2 * length l.out.items + room_of l.row-iterator ≤ 2 * length l.fn.out.items + 34 + room_of l.fn.rows;
    }
