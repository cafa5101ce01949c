use Rattle.cue_records.specs.Rows.{IsReadable, unread}
use Rattle.refusal_text.proofs.record.Record.find.Given as goal

abbrev pub invariant-loop : goal.invariant-loop
invariant-loop l = IsReadable unread l.reader
