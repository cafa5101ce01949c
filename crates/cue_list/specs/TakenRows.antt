-- The rows that a reader of scripts took one after another, the script that they are, and the way back.
use Rattle.std.specs.Prelude.{◌≡◌, ℕ, ◌+◌, List, [], ◌∷◌, ◌++◌, length, map, reverse, take, Option, None}
use Rattle.sub_base.specs.Picture.{Picture}
use Rattle.bitmap_font.specs.Font.{FontValue}
use Rattle.cue_records.specs.declared.fault.ScriptKind.{ScriptKind}
use Rattle.cue_records.specs.declared.row_values.PictureHead.{PictureHead}
use Rattle.cue_list.specs.declared.script.Script.{Script}
use Rattle.cue_list.specs.Past.{ScriptPast, looking_back}
use Rattle.cue_records.specs.Records.{Record, record_of, records_from, records_before}
use Rattle.cue_list.specs.RowFaults.{fault_of}
use Rattle.cue_records.specs.Rows.{Row}
use Rattle.cue_list.specs.ScriptRows.{AreDrawn, AreValidRecords, Lists}

-- ---- rows as records

-- rows as the records of a script, counted from 1
abbrev pub numbered : List Row → List Record
numbered rows = records_from 1 rows

-- these records, the nearest first
abbrev pub nearest : List Row → List Record
nearest rows = reverse (numbered rows)

-- the first test of a row behind others that fails
abbrev pub next_fault : FontValue → List Row → Row → Option ScriptKind
next_fault font rows cells = fault_of font (nearest rows) (record_of (length rows + 1) cells)

-- a script is that of these records: all of them are valid, and they list its values
pub record IsScriptOf (font : FontValue) (records : List Record) (script : Script) : Type 0 where
  pub valid : AreValidRecords font records (length records)
  pub lists : Lists font (records_before records (length records)) script.origin script.width script.height
      script.refresh script.epochs script.pictures

-- ---- a reader

-- what a reader keeps: what looking back over its records finds, and their pictures
pub record Kept : Type 0 where
  pub past : ScriptPast
  pub pictures : List Picture

-- the reader took these rows: each is valid by those before it, and what it keeps is what they say
pub record StandsFor (font : FontValue) (rows : List Row) (kept : Kept) : Type 0 where
  pub valid : AreValidRecords font (numbered rows) (length rows)
  pub found : kept.past ≡ looking_back font (nearest rows)
  pub drawn : AreDrawn font (nearest rows) kept.pictures

-- ---- the way back

-- the depths and the sides of pictures
abbrev pub heads_of : List Picture → List PictureHead
heads_of pictures =
    map (λ picture. record { depth = picture.depth; width = picture.width; height = picture.height }) pictures

-- what is known of the records without their pictures
abbrev pub without_heads : ScriptPast → ScriptPast
without_heads past = record past { heads = [] }

-- what was kept before a row, but for the pictures, and how many these were
pub record Mark : Type 0 where
  pub past : ScriptPast
  pub count : ℕ

-- a reader that has taken one row more can go back to where it stood for these rows
pub record CanGoBack (font : FontValue) (rows : List Row) (now : Kept) (mark : Mark) : Type 0 where
  pub kept : Kept
  pub stood : StandsFor font rows kept
  pub sized : kept.past.heads ≡ heads_of kept.pictures
  pub marked : mark.past ≡ without_heads kept.past
  pub front : take mark.count now.pictures ≡ kept.pictures

-- the row was taken behind the others: it is valid, the reader took it too, and can go back to where it stood without
pub record TakesRow (font : FontValue) (rows : List Row) (cells : Row) (now : Kept) (mark : Mark) : Type 0 where
  pub valid : next_fault font rows cells ≡ None
  pub stands : StandsFor font (rows ++ cells ∷ []) now
  pub back : CanGoBack font rows now mark
