-- The records of a script, each with its number and the kind that its first cell names.
use Rattle.std.specs.Prelude.{ℕ, ◌+◌, ◌==◌, Bool, if◌then◌else◌, List, [], ◌∷◌, reverse, take, codes, slice_index_or}
use Rattle.std.specs.Str.{bytes_eq}
use Rattle.cue_records.specs.declared.row_kind.RowKind.{RowKind}
use Rattle.cue_records.specs.declared.row_kind.RowKind.TheVariants as kinds
use Rattle.cue_records.specs.Rows.{Row, rows_of}
use Rattle.cue_records.specs.Cells.{cell_at}

-- the kind that a first cell names
abbrev pub kind_of : List ℕ → RowKind
kind_of word =
    if bytes_eq word (codes "origin") then kinds.Origin
    else if bytes_eq word (codes "display") then kinds.Display
    else if bytes_eq word (codes "refresh") then kinds.Refresh
    else if bytes_eq word (codes "epoch") then kinds.Epoch
    else if bytes_eq word (codes "region") then kinds.Region
    else if bytes_eq word (codes "colour") then kinds.Colour
    else if bytes_eq word (codes "picture") then kinds.Picture
    else if bytes_eq word (codes "place") then kinds.Place
    else if bytes_eq word (codes "cue") then kinds.Cue
    else kinds.Other

-- how many cells a record of the kind has, its first one among them
abbrev pub cells_of : RowKind → ℕ
cells_of kinds.Origin = 2
cells_of kinds.Display = 3
cells_of kinds.Refresh = 2
cells_of kinds.Epoch = 2
cells_of kinds.Region = 8
cells_of kinds.Colour = 9
cells_of kinds.Picture = 6
cells_of kinds.Place = 8
cells_of kinds.Cue = 9
cells_of kinds.Other = 0

-- a number for each kind
abbrev pub tag : RowKind → ℕ
tag kinds.Origin = 0
tag kinds.Display = 1
tag kinds.Refresh = 2
tag kinds.Epoch = 3
tag kinds.Region = 4
tag kinds.Colour = 5
tag kinds.Picture = 6
tag kinds.Place = 7
tag kinds.Cue = 8
tag kinds.Other = 9

-- a record: its number in the script, from 1, its kind, and its cells
pub record Record : Type 0 where
  pub number : ℕ
  pub kind : RowKind
  pub cells : Row

-- a record of that kind
abbrev pub is : RowKind → Record → Bool
is kind record_at = tag record_at.kind == tag kind

-- the record with that number and these cells
abbrev pub record_of : ℕ → Row → Record
record_of number cells = record { number = number; kind = kind_of (cell_at cells 0); cells = cells }

-- records that are counted from that number on
abbrev pub records_from : ℕ → List Row → List Record
records_from number [] = []
records_from number (cells ∷ rows) = record_of number cells ∷ records_from (number + 1) rows

-- the records of a script
abbrev pub records_of : List ℕ → List Record
records_of bytes = records_from 1 (rows_of bytes)

-- those before one of them, the nearest first
abbrev pub records_before : List Record → ℕ → List Record
records_before all n = reverse (take n all)

-- one of them
abbrev pub record_at : List Record → ℕ → Record
record_at all n = slice_index_or all n (record_of 0 [])
