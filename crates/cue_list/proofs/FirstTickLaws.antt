-- The first tick of a valid row is the number in its second cell.
use Rattle.std.proofs.Common.{◌≡◌, refl, ℕ, Bool, true, false, not, List, [], ◌∷◌, Option, Some, None}
use Rattle.bitmap_font.specs.Font.{FontValue}
use Rattle.sub_base.specs.Number.{number_of, is_number}
use Rattle.cue_records.specs.declared.fault.ScriptKind.{ScriptKind}
use Rattle.cue_records.specs.declared.fault.ScriptKind.TheVariants as faults
use Rattle.cue_records.specs.declared.limits.TheConstants.{MOST_DIGITS}
use Rattle.cue_records.specs.declared.row_kind.RowKind.{RowKind}
use Rattle.cue_records.specs.declared.row_kind.RowKind.TheVariants as kinds
use Rattle.cue_records.specs.CellFaults.{first_of, fails, number_fault, value_of, value_at, cells_fault, epoch_cells, colour_cells, placing_cells, place_cells, cue_cells}
use Rattle.cue_records.specs.Cells.{cell_at}
use Rattle.cue_list.specs.Past.{ScriptPast}
use Rattle.cue_list.specs.Private.FirstTicks.{tick_in, tick_read}
use Rattle.cue_records.specs.Records.{kind_of, record_of}
use Rattle.cue_list.specs.RowFaults.{fault_with, is_full, is_misplaced, kind_fault, shape_fault}
use Rattle.cue_records.specs.Rows.{Row}
use Rattle.cue_list.specs.TickRows.{first_tick}

-- where no test fails, the first does not
first-none : (test : Option ScriptKind) (tests : List (Option ScriptKind)) → first_of (test ∷ tests) ≡ None
    → test ≡ None
first-none None tests right = refl
first-none (Some kind) tests right = absurd (let never : Some kind ≡ None = right in cc)

-- nor does the fourth
fourth-none : (a b c d e : Option ScriptKind) → first_of (a ∷ b ∷ c ∷ d ∷ e ∷ []) ≡ None → d ≡ None
fourth-none None None None d e right = first-none d (e ∷ []) right
fourth-none None None (Some kind) d e right = absurd (let never : Some kind ≡ None = right in cc)
fourth-none None (Some kind) c d e right = absurd (let never : Some kind ≡ None = right in cc)
fourth-none (Some kind) b c d e right = absurd (let never : Some kind ≡ None = right in cc)

holds : (test : Bool) (kind : ScriptKind) → fails (not test) kind ≡ None → test ≡ true
holds true kind right = refl
holds false kind right = absurd (let never : Some kind ≡ None = right in cc)

-- a cell that is a number is read as its value
number-read : (least most : ℕ) (cell : List ℕ) → number_fault least most cell ≡ None
    → number_of MOST_DIGITS cell ≡ Some (value_of cell)
unfolding number_fault
number-read least most cell right =
    let digits : is_number MOST_DIGITS cell ≡ true =
    holds (is_number MOST_DIGITS cell) faults.Number (first-none _ _ right) in
    rw digits refl

epoch-read : (origin : ℕ) (cells : Row) → epoch_cells origin cells ≡ None → tick_in cells ≡ Some (value_at cells 1)
unfolding epoch_cells
epoch-read origin cells right = number-read _ _ (cell_at cells 1) right

colour-read : (origin : ℕ) (cells : Row) → colour_cells origin cells ≡ None → tick_in cells ≡ Some (value_at cells 1)
unfolding colour_cells
colour-read origin cells right = number-read _ _ (cell_at cells 1) (first-none _ _ right)

placing-read : (origin : ℕ) (cells : Row) → placing_cells origin cells ≡ None
    → tick_in cells ≡ Some (value_at cells 1)
unfolding placing_cells
placing-read origin cells right = number-read _ _ (cell_at cells 1) (first-none _ _ right)

place-read : (origin : ℕ) (cells : Row) → place_cells origin cells ≡ None → tick_in cells ≡ Some (value_at cells 1)
unfolding place_cells
place-read origin cells right = placing-read origin cells (first-none _ _ right)

cue-read : (origin : ℕ) (cells : Row) → cue_cells origin cells ≡ None → tick_in cells ≡ Some (value_at cells 1)
unfolding cue_cells
cue-read origin cells right = placing-read origin cells (first-none _ _ right)

by-kind : (past : ScriptPast) (kind : RowKind) (cells : Row) → cells_fault past.origin kind cells ≡ None
    → tick_read past kind cells ≡ first_tick past kind cells
by-kind past kinds.Origin cells right = refl
by-kind past kinds.Display cells right = refl
by-kind past kinds.Refresh cells right = refl
by-kind past kinds.Epoch cells right = epoch-read past.origin cells right
by-kind past kinds.Region cells right = refl
by-kind past kinds.Colour cells right = colour-read past.origin cells right
by-kind past kinds.Picture cells right = refl
by-kind past kinds.Place cells right = place-read past.origin cells right
by-kind past kinds.Cue cells right = cue-read past.origin cells right
by-kind past kinds.Other cells right = refl

-- the first tick of a valid row is read from its second cell
pub first-read : (font : FontValue) (past : ScriptPast) (number : ℕ) (cells : Row)
    → fault_with font past (record_of number cells) ≡ None
    → tick_read past (kind_of (cell_at cells 0)) cells ≡ first_tick past (kind_of (cell_at cells 0)) cells
first-read font past number cells right =
    let kind = kind_of (cell_at cells 0) in
    by-kind past kind cells
    (fourth-none (shape_fault kind cells) (fails (is_misplaced past kind) faults.Order)
    (fails (is_full past kind) faults.TooMany) (cells_fault past.origin kind cells)
    (kind_fault font past kind number cells) right)
