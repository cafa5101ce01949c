-- The ticks at which a CLUT's colours change, and the walk over its rows that finds what counts from each on.
use Rattle.std.specs.Prelude.{◌≡◌, ℕ, ◌==◌, List, map, filter, All, Option}
use Rattle.std.specs.List.{flat_map, Contains}
use Rattle.std.specs.List.Sorted.{IsPermutation, IsNonDecreasingBy, IsStrictlyIncreasing}
use Rattle.std.specs.Option.{option_to_list}
use Rattle.sub_base.specs.declared.depth.Depth.{Depth}
use Rattle.sub_base.specs.declared.depth.Depth.TheVariants.{Two, Four, Eight}
use Rattle.cue_records.specs.declared.row_values.ColourRow.{ColourRow}
use Rattle.page_epoch.specs.declared.clut_rows.Entry.{Entry}
use Rattle.page_epoch.specs.declared.clut_changes.Change.{Change}
use Rattle.page_epoch.specs.declared.clut_changes.ClutChanges.{ClutChanges}
use Rattle.page_epoch.specs.SentCluts.{row_at, rows_of_clut, is_of_entry, latest_place, by_tick, defined_rows}

-- rows in order of their ticks, those of one tick in the order that they had
pub record AreInOrder (colours : List ColourRow) (own rows : List ℕ) : Type 0 where
  pub moved : IsPermutation own rows
  pub rise : IsNonDecreasingBy (λ place. (row_at colours place).tick) rows
  pub stable : (other : ℕ)
      → filter (λ place. (row_at colours place).tick == (row_at colours other).tick) rows
      ≡ filter (λ place. (row_at colours place).tick == (row_at colours other).tick) own

-- how many entries come before those of a depth
abbrev pub first_of : Depth → ℕ
first_of Two = 0
first_of Four = 4
first_of Eight = 20

-- of these rows the ones that count, by entry
abbrev pub current_of : List ColourRow → List Entry → List ℕ → List (Option ℕ)
current_of colours entries rows =
    map (λ entry. latest_place colours (filter (λ place. is_of_entry entry (row_at colours place)) rows)) entries

-- a change at a tick, from the rows of the CLUT
abbrev pub change_at : List ColourRow → List Entry → List ℕ → ℕ → Change
change_at colours entries rows tick =
    record { tick = tick; rows = flat_map option_to_list (current_of colours entries (by_tick colours tick rows)) }

-- the ticks of these rows, each once and in order
pub record AreTicksOf (colours : List ColourRow) (places ticks : List ℕ) : Type 0 where
  pub rise : IsStrictlyIncreasing ticks
  pub from : All (Contains (map (λ place. (row_at colours place).tick) places)) ticks
  pub all : All (λ place. Contains ticks (row_at colours place).tick) places

-- the ticks of a CLUT's rows, each with the rows that give its entries their colours from then on
pub record AreChanges (colours : List ColourRow) (clut : ClutChanges) : Type 0 where
  pub ticks : AreTicksOf colours (rows_of_clut colours clut.clut) (map (λ change. change.tick) clut.changes)
  pub rows : All (λ change. change.rows ≡ defined_rows colours clut.clut change.tick) clut.changes
