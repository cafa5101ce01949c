-- The one record of a text.
use Rattle.std.specs.Prelude.{◌≡◌, ◌≢◌, List, [], ◌∷◌, length, ℕ}
use Rattle.csv.specs.Records.{fields_of}
use Rattle.cue_records.specs.Rows.{rows_of}
use Rattle.cue_list.specs.declared.single_rows.OnlyRow.{OnlyRow}
use Rattle.cue_list.specs.declared.single_rows.OnlyRow.TheVariants as only

-- the text has this one record, or so many, which is not one
abbrev pub IsOnlyRow : List ℕ → OnlyRow → Type 0
IsOnlyRow text (only.Row row) = rows_of text ≡ fields_of row ∷ []
IsOnlyRow text (only.Many count) = (count ≡ length (rows_of text)) × (count ≢ 1)
