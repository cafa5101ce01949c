use Rattle.std.proofs.Common.{◌≡◌, drop}
use Rattle.csv.specs.Records.{fields_of}
use Rattle.cue_records.specs.CellFaults.{is_text_row as is_text_row_of}
use Rattle.cue_records.proofs.texts.is_text_row.Given as goal

abbrev pub invariant-loop-place : goal.invariant-loop-place
invariant-loop-place l = is_text_row_of (drop l.place (fields_of l.row)) ≡ is_text_row_of (fields_of l.row)
