use Rattle.std.specs.Prelude.{◌≡◌, ℕ, ◌+◌, List, [], length, Option, Some, None, true, false, IsSome}
use Rattle.std.specs.Borrow.{Bor}
use Rattle.csv.specs.Reading.{default_config, records, records_from, strip_bom, source_of, reader_config, reader_trim, reader_state, is_flexible, has_failed, Ready}
use Rattle.csv.specs.declared.parser.State.{State}
use Rattle.csv.specs.declared.reader.Reader.{Reader}
use Rattle.csv.specs.declared.reader.Trim.TheVariants as trim

-- what is left of a text in memory
abbrev pub unread : Bor (List ℕ) → Option (List ℕ)
unread text = Some text.now

-- a record: the bytes of its cells
abbrev pub Row : Type 0
Row = List (List ℕ)

-- the records of a text, after a byte order mark at its start
abbrev pub rows_of : List ℕ → List Row
rows_of text = records default_config (strip_bom text)

-- the records of what is left of a text, from the reader's state on
abbrev pub rows_from : State → List ℕ → List Row
rows_from state text = records_from default_config (length text + 1) state text

-- the records that a reader has left
abbrev pub rows_of_source : State → Option (List ℕ) → List Row
rows_of_source state None = []
rows_of_source state (Some text) = rows_from state text

-- the reader reads as the crate's defaults say, takes records of any length, has no header and never failed
pub record IsReadable {R : Type 0} (remaining : R → Option (List ℕ)) (reader : Reader R) : Type 0 where
  pub config : reader_config reader ≡ default_config
  pub plain : reader_trim reader ≡ trim.None
  pub ready : Ready reader
  pub flexible : is_flexible reader ≡ true
  pub whole : has_failed reader ≡ false
  pub known : IsSome (source_of remaining reader)

-- the records that a reader has left
abbrev pub rows_left : {R : Type 0} → (R → Option (List ℕ)) → Reader R → List Row
rows_left remaining reader = rows_of_source (reader_state reader) (source_of remaining reader)
