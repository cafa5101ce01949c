-- The first tick of a row, as it is read from its second cell.
use Rattle.std.specs.Prelude.{ℕ, Option, None, option_map}
use Rattle.sub_base.specs.Number.{number_of}
use Rattle.cue_records.specs.declared.limits.TheConstants.{MOST_DIGITS}
use Rattle.cue_records.specs.declared.row_kind.RowKind.{RowKind}
use Rattle.cue_records.specs.declared.row_kind.RowKind.TheVariants as kinds
use Rattle.cue_records.specs.Cells.{cell_at}
use Rattle.cue_list.specs.Past.{ScriptPast}
use Rattle.cue_records.specs.Rows.{Row}

-- the tick in a row's second cell
abbrev pub tick_in : Row → Option ℕ
tick_in cells = number_of MOST_DIGITS (cell_at cells 1)

-- the first tick that a row of that kind has a part in, as it is read: its own, and for a region the start of its
-- epoch; none of other kinds
abbrev pub tick_read : ScriptPast → RowKind → Row → Option ℕ
tick_read past kinds.Epoch cells = tick_in cells
tick_read past kinds.Place cells = tick_in cells
tick_read past kinds.Cue cells = tick_in cells
tick_read past kinds.Colour cells = tick_in cells
tick_read past kinds.Region cells = option_map (λ epoch. epoch.start) past.epoch
tick_read past _ cells = None
