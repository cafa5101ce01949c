-- CLUTs of epochs that go on above a horizon: what a set up to it sends of them stays.
use Rattle.std.proofs.Common.{◌≡◌, ◌∙◌, refl, sym, ap, subst, ℕ, zero, suc, ◌+◌, ◌-◌, ◌<◌, ◌≤◌, ◌==◌, ◌%◌, nat_le, Bool, true, false, ◌&&◌, ◌||◌, cond, List, [], ◌∷◌, ◌++◌, length, map, filter, get_or, All, Option, Some, None, arith, length-append}
use Rattle.std.specs.List.{flat_map, list_any, range_with_len}
use Rattle.std.specs.Option.{option_to_list}
use Rattle.std.proofs.lemmas.Bool.Decides.{nat_tests}
use Rattle.std.proofs.lemmas.List.{append-nil, get_or-append-add, get_or_append_left}
use Rattle.std.proofs.lemmas.List.Elements.{All-filter, All-head, All-tail, All-cons, filter-append}
use Rattle.std.proofs.lemmas.List.Folds.{list_any-append}
use Rattle.std.proofs.lemmas.List.FromFn.{get_or-range_with_len, length-range_with_len}
use Rattle.cue_records.specs.declared.row_values.ColourRow.{ColourRow}
use Rattle.page_epoch.specs.declared.clut_rows.Entry.{Entry}
use Rattle.page_epoch.specs.declared.planned_set.SentClut.{SentClut}
use Rattle.grown_script_laws.specs.Growth.{AreAbove}
use Rattle.page_epoch.specs.Live.{places_below}
use Rattle.page_epoch.specs.SentCluts.{all_entries, by_tick, clut_count, clut_version, clut_with, defined_rows, is_changed, is_of_entry, later_place, latest_place, no_row, row_at, row_by, rows_from, rows_of_clut, rows_of_entry, sent_clut, sent_cluts}
use Rattle.page_epoch.proofs.CountLaws.{count_agree}
use Rattle.grown_script_laws.proofs.GrownCues.{places_split}
use Rattle.page_epoch.proofs.ListLaws.{All-none, All-one, All-pieces, filter_agree, filter_none, flat_map_none, kept_within, places_within, twice_within}

-- ---- colour rows that were added

abbrev tick_of : ColourRow → ℕ
tick_of row = row.tick

-- these rows are added above a horizon
abbrev AddedAbove : ℕ → List ColourRow → Type 0
AddedAbove horizon more = AreAbove horizon (map tick_of more)

added_tail : (horizon : ℕ) (row : ColourRow) (more : List ColourRow) → AddedAbove horizon (row ∷ more)
    → AddedAbove horizon more
added_tail horizon row more above k d within = above (suc k) d (omega arith)

row_late : (horizon tick : ℕ) (more : List ColourRow) (i : ℕ) → AddedAbove horizon more → tick ≤ horizon
    → i < length more → nat_le (row_at more i).tick tick ≡ false
row_late horizon tick [] i above early within = absurd (omega arith)
row_late horizon tick (row ∷ more) zero above early within =
    let high = above 0 0 (omega arith) in
    let late : nat_le row.tick tick ≡ false = grind (arith, nat_tests) in
    late
row_late horizon tick (row ∷ more) (suc i) above early within =
    row_late horizon tick more i (added_tail horizon row more above) early (omega arith)

added_late : (horizon tick : ℕ) (old more : List ColourRow) → AddedAbove horizon more → tick ≤ horizon
    → All (λ place. nat_le (row_at (old ++ more) place).tick tick ≡ false)
    (range_with_len (0 + length old) (length more))
added_late horizon tick old more above early k d within =
    let short : k < length more =
    subst (λ m. k < m) (length-range_with_len (0 + length old) (length more)) within in
    let place = get_or-range_with_len (0 + length old) (length more) k d short in
    let here : get_or (range_with_len (0 + length old) (length more)) k d ≡ length old + k = omega (arith, place) in
    ap (λ n. nat_le (row_at (old ++ more) n).tick tick) here
    ∙ ap (λ (row : ColourRow). nat_le row.tick tick) (get_or-append-add old more k no_row)
    ∙ row_late horizon tick more k above early short

-- a test of rows keeps the same of the places that were there
rows_agree : (p : ColourRow → Bool) (old more : List ColourRow) (places : List ℕ)
    → All (λ place. place < length old) places
    → filter (λ place. p (row_at (old ++ more) place)) places ≡ filter (λ place. p (row_at old place)) places
rows_agree p old more places below =
    filter_agree (λ place. p (row_at (old ++ more) place)) (λ place. p (row_at old place)) places
    (λ k d within. ap p (get_or_append_left old more no_row (get_or places k d) (below k d within)))

-- ---- the rows of an entry

-- the rows of an entry by a tick up to the horizon stay the same
by_tick_stays : (horizon : ℕ) (old more : List ColourRow) (clut : ℕ) (entry : Entry) (tick : ℕ)
    → AddedAbove horizon more → tick ≤ horizon
    → by_tick (old ++ more) tick (rows_of_entry (old ++ more) clut entry)
    ≡ by_tick old tick (rows_of_entry old clut entry)
by_tick_stays horizon old more clut entry tick above early =
    let all = old ++ more in
    let its : ℕ → Bool = λ place. (row_at all place).clut == clut in
    let sets : ℕ → Bool = λ place. is_of_entry entry (row_at all place) in
    let soon : ℕ → Bool = λ place. nat_le (row_at all place).tick tick in
    let its_old : ℕ → Bool = λ place. (row_at old place).clut == clut in
    let sets_old : ℕ → Bool = λ place. is_of_entry entry (row_at old place) in
    let n = length old in
    let first = range_with_len 0 n in
    let second = range_with_len (0 + n) (length more) in
    let places : places_below (length all) ≡ first ++ second =
    ap places_below (length-append old more) ∙ places_split n 0 (length more) in
    let late : All (λ place. soon place ≡ false) (filter sets (filter its second)) =
    All-filter sets (λ place. soon place ≡ false) (filter its second)
    (All-filter its (λ place. soon place ≡ false) second (added_late horizon tick old more above early)) in
    let none : filter soon (filter sets (filter its second)) ≡ [] =
    filter_none soon (filter sets (filter its second)) late in
    ap (λ xs. filter soon (filter sets (filter its xs))) places
    ∙ ap (λ xs. filter soon (filter sets xs)) (filter-append its first second)
    ∙ ap (filter soon) (filter-append sets (filter its first) (filter its second))
    ∙ filter-append soon (filter sets (filter its first)) (filter sets (filter its second))
    ∙ ap (λ xs. filter soon (filter sets (filter its first)) ++ xs) none
    ∙ append-nil (filter soon (filter sets (filter its first)))
    ∙ ap (λ xs. filter soon (filter sets xs))
    (rows_agree (λ row. row.clut == clut) old more first (places_within n))
    ∙ ap (filter soon)
    (rows_agree (is_of_entry entry) old more (filter its_old first) (kept_within its_old n))
    ∙ rows_agree (λ row. nat_le row.tick tick) old more (filter sets_old (filter its_old first))
    (twice_within its_old sets_old n)

-- a place, where there is one, is below a bound
abbrev IsBelow : ℕ → Option ℕ → Type 0
IsBelow bound None = Unit {0}
IsBelow bound (Some place) = place < bound

either_below : (b : Bool) (bound x y : ℕ) → x < bound → y < bound → cond b x y < bound
either_below true bound x y first second = first
either_below false bound x y first second = second

later_below : (colours : List ColourRow) (bound first : ℕ) (rest : Option ℕ) → first < bound → IsBelow bound rest
    → later_place colours first rest < bound
later_below colours bound first None below within = below
later_below colours bound first (Some second) below within =
    either_below (nat_le (row_at colours first).tick (row_at colours second).tick) bound second first within below

latest_below : (colours : List ColourRow) (bound : ℕ) (places : List ℕ) → All (λ place. place < bound) places
    → IsBelow bound (latest_place colours places)
unfolding latest_place
latest_below colours bound [] all = tt
latest_below colours bound (place ∷ places) all =
    later_below colours bound place (latest_place colours places) (All-head (λ place. place < bound) place places all)
    (latest_below colours bound places (All-tail (λ place. place < bound) place places all))

later_same : (old more : List ColourRow) (first : ℕ) (rest : Option ℕ) → first < length old
    → IsBelow (length old) rest → later_place (old ++ more) first rest ≡ later_place old first rest
later_same old more first None below within = refl
later_same old more first (Some second) below within =
    let one = get_or_append_left old more no_row first below in
    let other = get_or_append_left old more no_row second within in
    λ i. cond (nat_le (one i).tick (other i).tick) second first

-- the latest of rows that were there is the same
latest_same : (old more : List ColourRow) (places : List ℕ) → All (λ place. place < length old) places
    → latest_place (old ++ more) places ≡ latest_place old places
unfolding latest_place
latest_same old more [] all = refl
latest_same old more (place ∷ places) all =
    let first = All-head (λ place. place < length old) place places all in
    let others = All-tail (λ place. place < length old) place places all in
    ap (λ rest. Some (later_place (old ++ more) place rest)) (latest_same old more places others)
    ∙ ap (λ (k : ℕ). Some k)
    (later_same old more place (latest_place old places) first (latest_below old (length old) places others))

-- the rows of an entry that are there by a tick are among the rows
by_tick_below : (old : List ColourRow) (clut : ℕ) (entry : Entry) (tick : ℕ)
    → All (λ place. place < length old) (by_tick old tick (rows_of_entry old clut entry))
by_tick_below old clut entry tick =
    All-filter (λ place. nat_le (row_at old place).tick tick) (λ place. place < length old)
    (rows_of_entry old clut entry)
    (twice_within (λ place. (row_at old place).clut == clut) (λ place. is_of_entry entry (row_at old place))
    (length old))

-- the row that gives an entry its colour stays the same
row_by_stays : (horizon : ℕ) (old more : List ColourRow) (clut : ℕ) (entry : Entry) (tick : ℕ)
    → AddedAbove horizon more → tick ≤ horizon
    → row_by (old ++ more) tick (rows_of_entry (old ++ more) clut entry)
    ≡ row_by old tick (rows_of_entry old clut entry)
row_by_stays horizon old more clut entry tick above early =
    ap (λ places. option_to_list (latest_place (old ++ more) places))
    (by_tick_stays horizon old more clut entry tick above early)
    ∙ ap (λ (place : Option ℕ). option_to_list place)
    (latest_same old more (by_tick old tick (rows_of_entry old clut entry)) (by_tick_below old clut entry tick))

-- the rows that give a CLUT its colours stay the same
defined_stays : (horizon : ℕ) (old more : List ColourRow) (clut tick : ℕ) → AddedAbove horizon more
    → tick ≤ horizon → defined_rows (old ++ more) clut tick ≡ defined_rows old clut tick
defined_stays horizon old more clut tick above early =
    ap (λ (rows : Entry → List ℕ). flat_map rows all_entries)
    (λ i entry. row_by_stays horizon old more clut entry tick above early i)

option_below : (bound : ℕ) (place : Option ℕ) → IsBelow bound place
    → All (λ place. place < bound) (option_to_list place)
option_below bound None below = All-none (λ place. place < bound)
option_below bound (Some place) below = All-one (λ place. place < bound) place below

defined_below : (old : List ColourRow) (clut tick : ℕ)
    → All (λ place. place < length old) (defined_rows old clut tick)
defined_below old clut tick =
    All-pieces (λ place. place < length old) (λ entry. row_by old tick (rows_of_entry old clut entry)) all_entries
    (λ k d within. option_below (length old)
    (latest_place old (by_tick old tick (rows_of_entry old clut (get_or all_entries k d))))
    (latest_below old (length old) (by_tick old tick (rows_of_entry old clut (get_or all_entries k d)))
    (by_tick_below old clut (get_or all_entries k d) tick)))

-- ---- a CLUT as it is sent

rows_from_stay : (old more : List ColourRow) (whole : Bool) (tick : ℕ) (rows : List ℕ)
    → All (λ place. place < length old) rows → rows_from (old ++ more) whole tick rows ≡ rows_from old whole tick rows
rows_from_stay old more true tick rows below = refl
rows_from_stay old more false tick rows below = rows_agree (λ row. row.tick == tick) old more rows below

and_not : (a b : Bool) → b ≡ false → (a && b) ≡ false
and_not true b never = never
and_not false b never = refl

none_changed : (horizon clut tick : ℕ) (more : List ColourRow) → AddedAbove horizon more → tick ≤ horizon
    → is_changed more clut tick ≡ false
none_changed horizon clut tick [] above early = refl
none_changed horizon clut tick (row ∷ more) above early =
    let high = above 0 0 (omega arith) in
    let other : (row.tick == tick) ≡ false = grind (arith, nat_tests) in
    ap (λ now. now || is_changed more clut tick) (and_not (row.clut == clut) (row.tick == tick) other)
    ∙ none_changed horizon clut tick more (added_tail horizon row more above) early

or_not : (a b : Bool) → b ≡ false → (a || b) ≡ a
or_not true b never = refl
or_not false b never = never

changed_stays : (horizon : ℕ) (old more : List ColourRow) (clut tick : ℕ) → AddedAbove horizon more
    → tick ≤ horizon → is_changed (old ++ more) clut tick ≡ is_changed old clut tick
changed_stays horizon old more clut tick above early =
    list_any-append (λ row. (row.clut == clut) && (row.tick == tick)) old more
    ∙ or_not (is_changed old clut tick) (is_changed more clut tick)
    (none_changed horizon clut tick more above early)

version_stays : (horizon : ℕ) (old more : List ColourRow) (clut : ℕ) (seen : List ℕ) → AddedAbove horizon more
    → All (λ tick. tick ≤ horizon) seen → clut_version (old ++ more) clut seen ≡ clut_version old clut seen
version_stays horizon old more clut seen above early =
    ap (λ (count : ℕ). (count - 1) % 16)
    (count_agree (is_changed (old ++ more) clut) (is_changed old clut) seen
    (λ k d within. changed_stays horizon old more clut (get_or seen k d) above (early k d within)))

sent_stays : (horizon : ℕ) (old more : List ColourRow) (whole : Bool) (seen : List ℕ) (clut : ℕ)
    → AddedAbove horizon more → All (λ tick. tick ≤ horizon) seen
    → sent_clut (old ++ more) whole seen clut ≡ sent_clut old whole seen clut
sent_stays horizon old more whole [] clut above early = refl
sent_stays horizon old more whole (tick ∷ earlier) clut above early =
    let now = All-head (λ tick. tick ≤ horizon) tick earlier early in
    let version = version_stays horizon old more clut (tick ∷ earlier) above early in
    let rows : rows_from (old ++ more) whole tick (defined_rows (old ++ more) clut tick)
    ≡ rows_from old whole tick (defined_rows old clut tick) =
    ap (rows_from (old ++ more) whole tick) (defined_stays horizon old more clut tick above now)
    ∙ rows_from_stay old more whole tick (defined_rows old clut tick) (defined_below old clut tick) in
    λ i. clut_with clut (version i) (rows i)

-- ---- CLUTs that no row names

none_named : (p : ColourRow → Bool) (rows : List ColourRow) → list_any p rows ≡ false
    → All (λ row. p row ≡ false) rows
none_named p [] none = All-none (λ row. p row ≡ false)
none_named p (row ∷ rows) none =
    let parts = neither (p row) (list_any p rows) none in
    All-cons (λ row. p row ≡ false) row rows parts.0 (none_named p rows parts.1)
  where
    neither : (a b : Bool) → (a || b) ≡ false → (a ≡ false) × (b ≡ false)
    neither true b never = absurd (let bad : true ≡ false = never in cc)
    neither false b never = (refl, never)

no_rows : (colours : List ColourRow) (clut : ℕ) → list_any (λ row. row.clut == clut) colours ≡ false
    → rows_of_clut colours clut ≡ []
no_rows colours clut none =
    let its : ColourRow → Bool = λ row. row.clut == clut in
    let each = none_named its colours none in
    filter_none (λ place. its (row_at colours place)) (places_below (length colours))
    (λ k d within. each (get_or (places_below (length colours)) k d) no_row
    (places_within (length colours) k d within))

defined_none : (colours : List ColourRow) (clut tick : ℕ) → rows_of_clut colours clut ≡ []
    → defined_rows colours clut tick ≡ []
unfolding latest_place
defined_none colours clut tick none =
    ap (λ (rows : List ℕ). flat_map
    (λ (entry : Entry). row_by colours tick (filter (λ place. is_of_entry entry (row_at colours place)) rows))
    all_entries) none
    ∙ flat_map_none {X = Entry} {Y = ℕ} all_entries

nothing_from : (colours : List ColourRow) (whole : Bool) (tick : ℕ) → rows_from colours whole tick [] ≡ []
nothing_from colours true tick = refl
nothing_from colours false tick = refl

not_sent : (colours : List ColourRow) (whole : Bool) (seen : List ℕ) (clut : ℕ)
    → list_any (λ row. row.clut == clut) colours ≡ false → sent_clut colours whole seen clut ≡ []
not_sent colours whole [] clut none = refl
not_sent colours whole (tick ∷ earlier) clut none =
    ap (λ rows. clut_with clut (clut_version colours clut (tick ∷ earlier)) rows)
    (ap (rows_from colours whole tick) (defined_none colours clut tick (no_rows colours clut none))
    ∙ nothing_from colours whole tick)

-- what is left out gives nothing
kept_or_not : {X Y : Type 0} (f : X → List Y) (p : X → Bool) (x : X) (xs : List X) (b : Bool)
    → (b ≡ false → f x ≡ []) → flat_map f (filter p xs) ≡ flat_map f xs
    → flat_map f (cond b (x ∷ filter p xs) (filter p xs)) ≡ f x ++ flat_map f xs
kept_or_not f p x xs true nothing rest = ap (λ ys. f x ++ ys) rest
kept_or_not {X} {Y} f p x xs false nothing rest =
    rest ∙ sym (ap (λ (ys : List Y). ys ++ flat_map f xs) (nothing refl))

flat_map_kept : {X Y : Type 0} (f : X → List Y) (p : X → Bool) (xs : List X)
    → ((x : X) → p x ≡ false → f x ≡ []) → flat_map f (filter p xs) ≡ flat_map f xs
flat_map_kept f p [] nothing = refl
flat_map_kept f p (x ∷ xs) nothing = kept_or_not f p x xs (p x) (nothing x) (flat_map_kept f p xs nothing)

all_sent : (colours : List ColourRow) (whole : Bool) (seen : List ℕ)
    → sent_cluts colours whole seen ≡ flat_map (sent_clut colours whole seen) (range_with_len 0 clut_count)
all_sent colours whole seen =
    flat_map_kept (sent_clut colours whole seen) (λ clut. list_any (λ row. row.clut == clut) colours)
    (range_with_len 0 clut_count) (not_sent colours whole seen)

-- the CLUTs that a set up to the horizon sends stay the same
pub cluts_stay : (horizon : ℕ) (old more : List ColourRow) (whole : Bool) (seen : List ℕ)
    → AddedAbove horizon more → All (λ tick. tick ≤ horizon) seen
    → sent_cluts (old ++ more) whole seen ≡ sent_cluts old whole seen
cluts_stay horizon old more whole seen above early =
    all_sent (old ++ more) whole seen
    ∙ ap (λ (send : ℕ → List SentClut). flat_map send (range_with_len 0 clut_count))
    (λ i clut. sent_stays horizon old more whole seen clut above early i)
    ∙ sym (all_sent old whole seen)
