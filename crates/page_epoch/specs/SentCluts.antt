-- The CLUTs that a set sends, their versions, and their entries. Colour rows are given by their places in the epoch's
-- list.
use Rattle.std.specs.Prelude.{ℕ, ◌-◌, ◌%◌, ◌==◌, nat_le, Bool, ◌&&◌, if◌then◌else◌, List, [], ◌∷◌, ◌++◌, length, map, filter, count_by, Option, Some, None, slice_index_or}
use Rattle.std.specs.List.{flat_map, list_any, range_with_len}
use Rattle.std.specs.Option.{option_to_list}
use Rattle.sub_base.specs.Depth.{code_count, is_same_depth}
use Rattle.sub_base.specs.declared.depth.Depth.{Depth}
use Rattle.sub_base.specs.declared.depth.Depth.TheVariants.{Two, Four, Eight}
use Rattle.cue_records.specs.declared.row_values.ColourRow.{ColourRow}
use Rattle.page_epoch.specs.declared.planned_set.SentClut.{SentClut}
use Rattle.page_epoch.specs.declared.clut_rows.Entry.{Entry}
use Rattle.page_epoch.specs.Live.{places_below}

-- no colour row
abbrev pub no_row : ColourRow
no_row =
    record { tick = 0; row = 0; clut = 0; depth = Two; entry = 0; colour = record { y = 0; cr = 0; cb = 0; t = 0 } }

-- the colour row at a place
abbrev pub row_at : List ColourRow → ℕ → ColourRow
row_at colours place = slice_index_or colours place no_row

-- the entries of a CLUT at a depth
unfoldable pub entries_at : Depth → List Entry
entries_at depth = map (λ number. record { depth = depth; number = number }) (range_with_len 0 (code_count depth))

-- the entries of a CLUT, by depth and number
unfoldable pub all_entries : List Entry
all_entries = entries_at Two ++ (entries_at Four ++ entries_at Eight)

-- how many numbers of CLUTs there are
unfoldable pub clut_count : ℕ
clut_count = 256

-- the rows of a CLUT, in the script's order
abbrev pub rows_of_clut : List ColourRow → ℕ → List ℕ
rows_of_clut colours clut = filter (λ place. (row_at colours place).clut == clut) (places_below (length colours))

-- a row sets that entry of its CLUT
abbrev pub is_of_entry : Entry → ColourRow → Bool
is_of_entry entry row = is_same_depth row.depth entry.depth && (row.entry == entry.number)

-- the rows that set an entry of the CLUT, in the script's order
abbrev pub rows_of_entry : List ColourRow → ℕ → Entry → List ℕ
rows_of_entry colours clut entry =
    filter (λ place. is_of_entry entry (row_at colours place)) (rows_of_clut colours clut)

-- of two rows the one with the later tick, and of equal ticks the second
abbrev pub later_place : List ColourRow → ℕ → Option ℕ → ℕ
later_place colours first None = first
later_place colours first (Some second) =
    if nat_le (row_at colours first).tick (row_at colours second).tick then second else first

-- the row with the latest tick, and among equal ticks the last one
unfoldable pub latest_place : List ColourRow → List ℕ → Option ℕ
latest_place colours [] = None
latest_place colours (place ∷ places) = Some (later_place colours place (latest_place colours places))

-- the rows of these that have a tick by then
abbrev pub by_tick : List ColourRow → ℕ → List ℕ → List ℕ
by_tick colours tick places = filter (λ place. nat_le (row_at colours place).tick tick) places

-- the row of these that gives an entry its colour at a tick: the latest of those that set it by then
abbrev pub row_by : List ColourRow → ℕ → List ℕ → List ℕ
row_by colours tick rows = option_to_list (latest_place colours (by_tick colours tick rows))

-- the rows that give the entries of a CLUT their colours at a tick, by depth and entry
abbrev pub defined_rows : List ColourRow → ℕ → ℕ → List ℕ
defined_rows colours clut tick = flat_map (λ entry. row_by colours tick (rows_of_entry colours clut entry)) all_entries

-- some colour of a CLUT changes at a tick
abbrev pub is_changed : List ColourRow → ℕ → ℕ → Bool
is_changed colours clut tick = list_any (λ row. (row.clut == clut) && (row.tick == tick)) colours

-- the version of a CLUT: at how many of these instants it changed, less one, modulo 16
abbrev pub clut_version : List ColourRow → ℕ → List ℕ → ℕ
clut_version colours clut seen = (count_by (is_changed colours clut) seen - 1) % 16

-- a CLUT with these rows, where there are some
abbrev pub clut_with : ℕ → ℕ → List ℕ → List SentClut
clut_with clut version [] = []
clut_with clut version (row ∷ rows) = record { clut = clut; version = version; rows = row ∷ rows } ∷ []

-- the rows that a set sends of a CLUT: all that are defined, or those of its own tick
abbrev pub rows_from : List ColourRow → Bool → ℕ → List ℕ → List ℕ
rows_from colours whole tick rows = if whole then rows else filter (λ place. (row_at colours place).tick == tick) rows

-- the CLUT as the set of the latest instant sends it, if it does: a set that is not normal with all entries that are
-- defined, a normal set with those that change
abbrev pub sent_clut : List ColourRow → Bool → List ℕ → ℕ → List SentClut
sent_clut colours whole [] clut = []
sent_clut colours whole (tick ∷ earlier) clut =
    clut_with clut (clut_version colours clut (tick ∷ earlier))
    (rows_from colours whole tick (defined_rows colours clut tick))

-- the CLUTs that the epoch's colour rows name, by their numbers
abbrev pub named_cluts : List ColourRow → List ℕ
named_cluts colours = filter (λ clut. list_any (λ row. row.clut == clut) colours) (range_with_len 0 clut_count)

-- the CLUTs that are sent, by their numbers
abbrev pub sent_cluts : List ColourRow → Bool → List ℕ → List SentClut
sent_cluts colours whole seen = flat_map (sent_clut colours whole seen) (named_cluts colours)
