use Rattle.std.proofs.Common.{◌≡◌, ◌+◌, length}
use Rattle.cue_records.specs.Rows.{IsReadable, rows_left, unread}
use Rattle.cue_list.proofs.single_rows.count_rows.Given as goal

abbrev pub invariant-loop-row : goal.invariant-loop-row
invariant-loop-row l =
    record {
      readable : IsReadable unread l.rows;
      counted : l.count + length (rows_left unread l.rows) ≡ length (rows_left unread l.initial.rows);
    }

abbrev pub decreases-loop-row : goal.decreases-loop-row
decreases-loop-row l = length (rows_left unread l.rows)
