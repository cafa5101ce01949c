-- The rows that give the entries of a CLUT their colours.
use Rattle.std.proofs.Common.{◌≡◌, ◌∙◌, ℕ, ◌==◌, ◌<◌, ◌≤◌, nat_le, Bool, true, false, cond, List, [], ◌∷◌, ◌++◌, length, get_or, All, Option, None, Some, ap, arith}
use Rattle.std.specs.List.{flat_map, range_with_len}
use Rattle.std.specs.Option.{option_to_list}
use Rattle.std.proofs.lemmas.List.{length-map, length-append}
use Rattle.std.proofs.lemmas.List.Elements.{All-head, All-tail, All-filter}
use Rattle.std.proofs.lemmas.List.FromFn.{length-range_with_len}
use Rattle.sub_base.specs.declared.depth.Depth.TheVariants.{Two, Four, Eight}
use Rattle.sub_base.specs.declared.depth.Depth.{Depth}
use Rattle.sub_base.specs.Depth.{code_count}
use Rattle.cue_records.specs.declared.row_values.ColourRow.{ColourRow}
use Rattle.page_epoch.specs.declared.clut_rows.Entry.{Entry}
use Rattle.page_epoch.specs.SentCluts.{row_at, entries_at, all_entries, rows_of_clut, rows_of_entry, is_of_entry, later_place, latest_place, by_tick, row_by, defined_rows}
use Rattle.page_epoch.proofs.ListLaws.{All-none, All-one, All-pieces, one_each, kept_within, filter_agree, filter_none, flat_map_none}

-- an entry of a depth
abbrev pub entry_of : Depth → ℕ → Entry
entry_of depth number = record { depth = depth; number = number }

pub length-entries_at : (depth : Depth) → length (entries_at depth) ≡ code_count depth
unfolding entries_at
length-entries_at depth =
    length-map (range_with_len 0 (code_count depth)) _ ∙ length-range_with_len 0 (code_count depth)

pub length-all_entries : length all_entries ≡ 276
unfolding all_entries
length-all_entries =
    let two = length-entries_at Two in
    let four = length-entries_at Four in
    let eight = length-entries_at Eight in
    let back = length-append (entries_at Four) (entries_at Eight) in
    let all = length-append (entries_at Two) (entries_at Four ++ entries_at Eight) in
    omega arith

-- ---- what holds of a CLUT's rows holds of those that count

either_in : (P : ℕ → Type 0) (b : Bool) (x y : ℕ) → P x → P y → P (cond b x y)
either_in P true x y px py = px
either_in P false x y px py = py

later_in : (P : ℕ → Type 0) (colours : List ColourRow) (place : ℕ) (found : Option ℕ) → P place
    → All P (option_to_list found) → P (later_place colours place found)
later_in P colours place None p all = p
later_in P colours place (Some q) p all =
    either_in P (nat_le (row_at colours place).tick (row_at colours q).tick) q place (All-head P q [] all) p

pub latest_in : (P : ℕ → Type 0) (colours : List ColourRow) (places : List ℕ) → All P places
    → All P (option_to_list (latest_place colours places))
unfolding latest_place
latest_in P colours [] all = All-none P
latest_in P colours (place ∷ places) all =
    All-one P (later_place colours place (latest_place colours places))
    (later_in P colours place (latest_place colours places) (All-head P place places all)
    (latest_in P colours places (All-tail P place places all)))

pub defined_in : (P : ℕ → Type 0) (colours : List ColourRow) (clut tick : ℕ)
    → All P (rows_of_clut colours clut) → All P (defined_rows colours clut tick)
defined_in P colours clut tick all =
    All-pieces P (λ (entry : Entry). row_by colours tick (rows_of_entry colours clut entry)) all_entries
    (λ k d h. latest_in P colours (by_tick colours tick (rows_of_entry colours clut (get_or all_entries k d)))
    (All-filter (λ place. nat_le (row_at colours place).tick tick) P
    (rows_of_entry colours clut (get_or all_entries k d))
    (All-filter (λ place. is_of_entry (get_or all_entries k d) (row_at colours place)) P (rows_of_clut colours clut)
    all)))

pub own_within : (colours : List ColourRow) (clut : ℕ)
    → All (λ place. place < length colours) (rows_of_clut colours clut)
own_within colours clut = kept_within (λ place. (row_at colours place).clut == clut) (length colours)

pub defined_within : (colours : List ColourRow) (clut tick : ℕ)
    → All (λ place. place < length colours) (defined_rows colours clut tick)
defined_within colours clut tick =
    defined_in (λ place. place < length colours) colours clut tick (own_within colours clut)

option_few : (found : Option ℕ) → length (option_to_list found) ≤ 1
option_few None = omega arith
option_few (Some x) = omega arith

pub defined_few : (colours : List ColourRow) (clut tick : ℕ) → length (defined_rows colours clut tick) ≤ 276
defined_few colours clut tick =
    let few =
    one_each (λ (entry : Entry). row_by colours tick (rows_of_entry colours clut entry))
    (λ entry. option_few (latest_place colours (by_tick colours tick (rows_of_entry colours clut entry))))
    all_entries in
    let all = length-all_entries in
    omega arith

-- ---- between two changes the same rows count

by_tick_same : (colours : List ColourRow) (clut tick other : ℕ)
    → All (λ place. nat_le (row_at colours place).tick tick ≡ nat_le (row_at colours place).tick other)
    (rows_of_clut colours clut) → (entry : Entry) →
    by_tick colours tick (rows_of_entry colours clut entry) ≡ by_tick colours other (rows_of_entry colours clut entry)
by_tick_same colours clut tick other same entry =
    filter_agree (λ place. nat_le (row_at colours place).tick tick)
    (λ place. nat_le (row_at colours place).tick other) (rows_of_entry colours clut entry)
    (All-filter (λ place. is_of_entry entry (row_at colours place))
    (λ place. nat_le (row_at colours place).tick tick ≡ nat_le (row_at colours place).tick other)
    (rows_of_clut colours clut) same)

pub defined_same : (colours : List ColourRow) (clut tick other : ℕ)
    → All (λ place. nat_le (row_at colours place).tick tick ≡ nat_le (row_at colours place).tick other)
    (rows_of_clut colours clut) →
    defined_rows colours clut tick ≡ defined_rows colours clut other
defined_same colours clut tick other same =
    λ i. flat_map
    (λ (entry : Entry). option_to_list (latest_place colours (by_tick_same colours clut tick other same entry i)))
    all_entries

row_by_none : (colours : List ColourRow) (clut tick : ℕ)
    → All (λ place. nat_le (row_at colours place).tick tick ≡ false) (rows_of_clut colours clut)
    → (entry : Entry) →
    row_by colours tick (rows_of_entry colours clut entry) ≡ []
unfolding latest_place
row_by_none colours clut tick none entry =
    ap (λ places. option_to_list (latest_place colours places))
    (filter_none (λ place. nat_le (row_at colours place).tick tick) (rows_of_entry colours clut entry)
    (All-filter (λ place. is_of_entry entry (row_at colours place))
    (λ place. nat_le (row_at colours place).tick tick ≡ false) (rows_of_clut colours clut) none))

pub defined_none : (colours : List ColourRow) (clut tick : ℕ)
    → All (λ place. nat_le (row_at colours place).tick tick ≡ false) (rows_of_clut colours clut)
    → defined_rows colours clut tick ≡ []
defined_none colours clut tick none =
    (let each : defined_rows colours clut tick
    ≡ flat_map (λ (entry : Entry). []) all_entries = λ i. flat_map
    (λ (entry : Entry). row_by_none colours clut tick none entry i) all_entries in each)
    ∙ flat_map_none all_entries
