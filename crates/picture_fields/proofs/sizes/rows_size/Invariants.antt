use Rattle.std.proofs.Common.{◌+◌, ◌*◌, ◌≤◌, ℕ, length}
use Rattle.stream_syntax.specs.FieldBlocks.{AreRowSizes}
use Rattle.picture_fields.specs.Private.Rows.{AreRows, room_of}
use Rattle.picture_fields.proofs.sizes.rows_size.Given as goal

abbrev pub invariant-loop-row : goal.invariant-loop-row
invariant-loop-row l = record {
  rows : AreRows l.depth l.row-iterator;
  short : l.size + 131075 * length l.row-iterator ≤ 131075 * length l.fn.rows;
  room : l.size + room_of l.row-iterator ≤ room_of l.fn.rows;
  sum : (rest : ℕ) → AreRowSizes l.depth l.row-iterator rest → AreRowSizes l.depth l.fn.rows (l.size + rest);
}
