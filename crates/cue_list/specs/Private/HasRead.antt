-- What a reader of a script stands for, between two records.
use Rattle.std.specs.Prelude.{◌≡◌, ℕ, List, drop}
use Rattle.bitmap_font.specs.Font.{FontValue}
use Rattle.cue_list.specs.declared.reader.Reader.{Reader}
use Rattle.cue_list.specs.Past.{looking_back}
use Rattle.cue_records.specs.Records.{records_of, records_before}
use Rattle.cue_records.specs.Rows.{Row, rows_of}
use Rattle.cue_list.specs.ScriptRows.{AreValidRecords, AreDrawn}
use Rattle.cue_list.specs.Private.State.{IsReader, past_of}

-- the records before the one at hand are valid, the reader keeps what looking back over them finds, and the others are
-- left
pub record HasRead (bytes : List ℕ) (font : FontValue) (left : List Row) (kept : Reader) : Type 0 where
  pub left_is : left ≡ drop kept.rows (rows_of bytes)
  pub valid : AreValidRecords font (records_of bytes) kept.rows
  pub reader : IsReader kept
  pub stands : past_of kept ≡ looking_back font (records_before (records_of bytes) kept.rows)
  pub drawn : AreDrawn font (records_before (records_of bytes) kept.rows) kept.pictures.items
