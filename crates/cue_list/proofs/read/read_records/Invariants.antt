use Rattle.std.proofs.Common.{length}
use Rattle.cue_list.specs.Private.HasRead.{HasRead}
use Rattle.cue_records.specs.Rows.{IsReadable, rows_left, unread}
use Rattle.cue_list.proofs.read.read_records.Given as goal

abbrev pub invariant-loop-reader : goal.invariant-loop-reader
invariant-loop-reader l =
    record {
      readable : IsReadable unread l.rows;
      read : HasRead l.bytes l.font (rows_left unread l.rows) l.reader;
    }

abbrev pub decreases-loop-reader : goal.decreases-loop-reader
decreases-loop-reader l = length (rows_left unread l.rows)
