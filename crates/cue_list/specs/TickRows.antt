-- Rows beside a script's own: `tick`, T; and the first tick that a row has a part in.
use Rattle.std.specs.Prelude.{ℕ, ◌==◌, nat_le, not, Bool, false, [], ◌∷◌, length, Option, Some, None, option_map, codes}
use Rattle.std.specs.Str.{bytes_eq}
use Rattle.cue_records.specs.declared.fault.ScriptKind.{ScriptKind}
use Rattle.cue_records.specs.declared.fault.ScriptKind.TheVariants as faults
use Rattle.cue_records.specs.declared.row_kind.RowKind.{RowKind}
use Rattle.cue_records.specs.declared.row_kind.RowKind.TheVariants as kinds
use Rattle.cue_records.specs.CellFaults.{first_of, fails, value_at, tick_fault, is_text_row}
use Rattle.cue_records.specs.Cells.{cell_at}
use Rattle.cue_list.specs.Past.{ScriptPast}
use Rattle.cue_records.specs.Rows.{Row}

-- a row is a tick row by its first cell
abbrev pub is_tick_row : Row → Bool
is_tick_row cells = bytes_eq (cell_at cells 0) (codes "tick")

-- a tick is not above the last one
abbrev pub is_not_above : Option ℕ → ℕ → Bool
is_not_above None tick = false
is_not_above (Some last) tick = nat_le tick last

-- the first test of `tick`, T that fails, behind what is known of the records so far and the last tick: a tick needs
-- the origin's record, and lies above the last one
abbrev pub tick_row_fault : ScriptPast → Option ℕ → Row → Option ScriptKind
tick_row_fault past last cells = first_of (
    fails (not (is_text_row cells)) faults.NotUtf8
    ∷ fails (not (length cells == 2)) faults.Count
    ∷ fails (past.rows == 0) faults.Order
    ∷ tick_fault past.origin (cell_at cells 1)
    ∷ fails (is_not_above last (value_at cells 1)) faults.Order
    ∷ [])

-- the first tick that a row of that kind has a part in: its own, and for a region the start of its epoch
abbrev pub first_tick : ScriptPast → RowKind → Row → Option ℕ
first_tick past kinds.Epoch cells = Some (value_at cells 1)
first_tick past kinds.Place cells = Some (value_at cells 1)
first_tick past kinds.Cue cells = Some (value_at cells 1)
first_tick past kinds.Colour cells = Some (value_at cells 1)
first_tick past kinds.Region cells = option_map (λ epoch. epoch.start) past.epoch
first_tick past _ cells = None
