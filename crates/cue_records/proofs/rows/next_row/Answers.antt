use Rattle.cue_records.proofs.RowsLaws.{rows_left-read}
use Rattle.cue_records.proofs.rows.next_row.Goals as goal

pub returns-clause-row : goal.returns-clause-row
returns-clause-row c =
    rows_left-read _ c.args.reader.now c.read_byte_record.new.self _ _ c.requires
    (c.in-Ok.ensures.reads c.requires.plain c.requires.ready)
