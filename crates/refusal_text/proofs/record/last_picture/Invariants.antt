use Rattle.std.proofs.Common.{length}
use Rattle.cue_records.specs.Rows.{IsReadable, rows_left, unread}
use Rattle.refusal_text.proofs.record.last_picture.Given as goal

abbrev pub invariant-loop-last : goal.invariant-loop-last
invariant-loop-last l = IsReadable unread l.reader

abbrev pub decreases-loop-last : goal.decreases-loop-last
decreases-loop-last l = length (rows_left unread l.reader)
