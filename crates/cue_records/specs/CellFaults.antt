-- What is wrong with the cells of a record, from the left.
use Rattle.std.specs.Prelude.{ℕ, ◌+◌, ◌==◌, nat_le, Bool, ◌&&◌, ◌||◌, not, if◌then◌else◌, List, [], ◌∷◌, Option, Some, None, Result, Ok, Err, codes, ◌-◌, ◌≡◌, ⊤}
use Rattle.std.specs.Str.{bytes_eq, is_utf8}
use Rattle.std.specs.List.{list_all}
use Rattle.sub_base.specs.Number.{is_number, value_from}
use Rattle.cue_records.specs.declared.limits.TheConstants.{LATEST_ORIGIN, LONGEST_SCRIPT, MOST_DIGITS, MOST_HEIGHT, MOST_WIDTH}
use Rattle.cue_records.specs.declared.fault.ScriptKind.{ScriptKind}
use Rattle.cue_records.specs.declared.fault.ScriptKind.TheVariants as faults
use Rattle.cue_records.specs.declared.record_fault.RecordFault.{RecordFault}
use Rattle.cue_records.specs.declared.record_fault.RecordFault.TheVariants.{Memory, Wrong}
use Rattle.cue_records.specs.declared.row_kind.RowKind.{RowKind}
use Rattle.cue_records.specs.declared.row_kind.RowKind.TheVariants as kinds
use Rattle.cue_records.specs.Rows.{Row}
use Rattle.cue_records.specs.Cells.{cell_at}

-- the first of the tests that fails
abbrev pub first_of : List (Option ScriptKind) → Option ScriptKind
first_of [] = None
first_of (None ∷ tests) = first_of tests
first_of (Some kind ∷ tests) = Some kind

-- the fault that an answer has
abbrev pub fault_in : {A : Type 0} → Result A ScriptKind → Option ScriptKind
fault_in (Ok value) = None
fault_in (Err kind) = Some kind

-- a test: what is wrong where that holds
abbrev pub fails : Bool → ScriptKind → Option ScriptKind
fails wrong kind = if wrong then Some kind else None

-- the number that the digits of a cell make
abbrev pub value_of : List ℕ → ℕ
value_of cell = value_from 0 cell

-- the number that the digits of the cell at that place make
abbrev pub value_at : Row → ℕ → ℕ
value_at row place = value_of (cell_at row place)

-- a cell that is a number has one to eleven digits, no sign and no leading zero, and lies in its range
unfoldable pub number_fault : ℕ → ℕ → List ℕ → Option ScriptKind
number_fault least most cell = first_of (
    fails (not (is_number MOST_DIGITS cell)) faults.Number
    ∷ fails (not (nat_le least (value_of cell) && nat_le (value_of cell) most)) faults.Range
    ∷ [])

-- a depth is 2, 4 or 8
abbrev pub is_depth : ℕ → Bool
is_depth number = (number == 2) || (number == 4) || (number == 8)

-- a cell that is a depth: it is a number; then it is one that a depth has
unfoldable pub depth_fault : List ℕ → Option ScriptKind
depth_fault cell = first_of (
    fails (not (is_number MOST_DIGITS cell)) faults.Number
    ∷ fails (not (is_depth (value_of cell))) faults.Range
    ∷ [])

-- a mode is one of two words
unfoldable pub mode_fault : List ℕ → Option ScriptKind
mode_fault cell = fails (not (bytes_eq cell (codes "solid") || bytes_eq cell (codes "through"))) faults.Unknown

-- a tick lies from the origin on, and not too far after it
abbrev pub tick_fault : ℕ → List ℕ → Option ScriptKind
tick_fault origin cell = number_fault origin (origin + LONGEST_SCRIPT) cell

-- `origin`, TICK
unfoldable pub origin_cells : Row → Option ScriptKind
origin_cells row = number_fault 0 LATEST_ORIGIN (cell_at row 1)

-- `display`, W, H
unfoldable pub display_cells : Row → Option ScriptKind
display_cells row = first_of (
    number_fault 1 MOST_WIDTH (cell_at row 1)
    ∷ number_fault 1 MOST_HEIGHT (cell_at row 2)
    ∷ [])

-- `refresh`, seconds
unfoldable pub refresh_cells : Row → Option ScriptKind
refresh_cells row = number_fault 1 60 (cell_at row 1)

-- `epoch`, START
unfoldable pub epoch_cells : ℕ → Row → Option ScriptKind
epoch_cells origin row = tick_fault origin (cell_at row 1)

-- `region`, ID, X, Y, W, H, DEPTH, CLUT
unfoldable pub region_cells : Row → Option ScriptKind
region_cells row = first_of (
    number_fault 0 255 (cell_at row 1)
    ∷ number_fault 0 (MOST_WIDTH - 1) (cell_at row 2)
    ∷ number_fault 0 (MOST_HEIGHT - 1) (cell_at row 3)
    ∷ number_fault 1 MOST_WIDTH (cell_at row 4)
    ∷ number_fault 1 MOST_HEIGHT (cell_at row 5)
    ∷ depth_fault (cell_at row 6)
    ∷ number_fault 0 255 (cell_at row 7)
    ∷ [])

-- `colour`, TICK, CLUT, DEPTH, ENTRY, Y, CR, CB, T
unfoldable pub colour_cells : ℕ → Row → Option ScriptKind
colour_cells origin row = first_of (
    tick_fault origin (cell_at row 1)
    ∷ number_fault 0 255 (cell_at row 2)
    ∷ depth_fault (cell_at row 3)
    ∷ number_fault 0 255 (cell_at row 4)
    ∷ number_fault 0 255 (cell_at row 5)
    ∷ number_fault 0 255 (cell_at row 6)
    ∷ number_fault 0 255 (cell_at row 7)
    ∷ number_fault 0 255 (cell_at row 8)
    ∷ [])

-- `picture`, NAME, DEPTH, W, H, CODES: the name and the codes are tested after the other cells
unfoldable pub picture_cells : Row → Option ScriptKind
picture_cells row = first_of (
    depth_fault (cell_at row 2)
    ∷ number_fault 1 MOST_WIDTH (cell_at row 3)
    ∷ number_fault 1 MOST_HEIGHT (cell_at row 4)
    ∷ [])

-- START, END, REGION, X, Y of a place or a cue
unfoldable pub placing_cells : ℕ → Row → Option ScriptKind
placing_cells origin row = first_of (
    tick_fault origin (cell_at row 1)
    ∷ tick_fault origin (cell_at row 2)
    ∷ number_fault 0 255 (cell_at row 3)
    ∷ number_fault 0 (MOST_WIDTH - 1) (cell_at row 4)
    ∷ number_fault 0 (MOST_HEIGHT - 1) (cell_at row 5)
    ∷ [])

-- `place`, START, END, REGION, X, Y, MODE, NAME
unfoldable pub place_cells : ℕ → Row → Option ScriptKind
place_cells origin row = first_of (placing_cells origin row ∷ mode_fault (cell_at row 6) ∷ [])

-- `cue`, START, END, REGION, X, Y, FG, BG, TEXT
unfoldable pub cue_cells : ℕ → Row → Option ScriptKind
cue_cells origin row = first_of (
    placing_cells origin row
    ∷ number_fault 0 255 (cell_at row 6)
    ∷ number_fault 0 255 (cell_at row 7)
    ∷ [])

-- what is wrong with the cells of a record of that kind
abbrev pub cells_fault : ℕ → RowKind → Row → Option ScriptKind
cells_fault origin kinds.Origin row = origin_cells row
cells_fault origin kinds.Display row = display_cells row
cells_fault origin kinds.Refresh row = refresh_cells row
cells_fault origin kinds.Epoch row = epoch_cells origin row
cells_fault origin kinds.Region row = region_cells row
cells_fault origin kinds.Colour row = colour_cells origin row
cells_fault origin kinds.Picture row = picture_cells row
cells_fault origin kinds.Place row = place_cells origin row
cells_fault origin kinds.Cue row = cue_cells origin row
cells_fault origin kinds.Other row = None

-- each cell is text in UTF-8
abbrev pub is_text_row : Row → Bool
is_text_row row = list_all is_utf8 row

-- why a record was not taken; memory may want at any time
abbrev pub IsRecordFault : Option ScriptKind → RecordFault → Type 0
IsRecordFault fault Memory = ⊤
IsRecordFault fault (Wrong kind) = fault ≡ Some kind
