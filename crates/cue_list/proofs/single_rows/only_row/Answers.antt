use Rattle.std.proofs.Common.{arith}
use Rattle.csv.specs.Records.{fields_of}
use Rattle.cue_records.specs.Rows.{rows_left, unread}
use Rattle.cue_list.proofs.StandsLaws.{few-left}
use Rattle.cue_list.proofs.single_rows.only_row.Goals as goal

pub count_rows-requires-clause-few : goal.count_rows-requires-clause-few
count_rows-requires-clause-few c =
    let few =
    few-left c.args.text.now (rows_left unread c.reader_of-rows.result) (rows_left unread c.next_row.new.reader)
    (fields_of c.next_row.new.row) c.in-Ok-true.field-0 c.reader_of-rows.ensures.rows c.in-Ok-true.field-0-test
    c.in-Ok-true.ensures.row in
    omega (arith, few)

pub overflow_add-result : goal.overflow_add-result
overflow_add-result c =
    let few =
    few-left c.args.text.now (rows_left unread c.reader_of-rows.result) (rows_left unread c.next_row.new.reader)
    (fields_of c.next_row.new.row) c.in-Ok-true.field-0 c.reader_of-rows.ensures.rows c.in-Ok-true.field-0-test
    c.in-Ok-true.ensures.row in
    omega (arith, few, c.in_ok-more.ensures)
