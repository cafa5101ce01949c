-- Which CLUTs a set sends, and the latest rows of their entries from instant to instant.
use Rattle.std.proofs.Common.{◌≡◌, ℕ, ◌==◌, ◌<◌, ◌≤◌, nat_le, Bool, true, false, ◌&&◌, cond, List, [], ◌∷◌, length, filter, get_or, Option, Some, None, refl, sym, subst, arith}
use Rattle.std.specs.Prelude.{All}
use Rattle.std.specs.List.{Contains}
use Rattle.std.specs.Option.{option_to_list}
use Rattle.std.proofs.lemmas.Bool.Decides.{nat_tests}
use Rattle.std.proofs.lemmas.List.Elements.{All-cons, All-filter, All-contains_itself}
use Rattle.std.proofs.lemmas.List.Folds.{list_any_at}
use Rattle.sub_base.specs.Depth.{bits_of, code_count}
use Rattle.cue_records.specs.declared.row_values.ColourRow.{ColourRow}
use Rattle.page_epoch.proofs.ListLaws.{All-none, All-pieces}
use Rattle.page_epoch.proofs.RowLaws.{entry_of, latest_in, own_within}
use Rattle.page_epoch.specs.Live.{places_below}
use Rattle.page_epoch.specs.SentCluts.{no_row, row_at, all_entries, rows_of_clut, is_of_entry, rows_of_entry, later_place, latest_place, by_tick, row_by, defined_rows, is_changed}
use Rattle.page_epoch.specs.declared.clut_rows.Entry.{Entry}
use Rattle.shown_plan.proofs.Pictures.ColourRows.{latest_is_own, is_entry}
use Rattle.shown_plan.proofs.Segments.Lists.{all_at, kept_one, kept_pass, any_place, place_there, piece_there}
use Rattle.shown_plan.proofs.Pictures.SentColours.{is_an_entry}

-- ---- the latest row

pub latest_none : (colours : List ColourRow) (places : List ℕ) → latest_place colours places ≡ None
    → places ≡ []
unfolding latest_place
latest_none colours [] none = refl
latest_none colours (place ∷ places) none = absurd (cc)

latest_some : (colours : List ColourRow) (place : ℕ) (places : List ℕ) → (found : ℕ)
    × (latest_place colours (place ∷ places) ≡ Some found)
unfolding latest_place
latest_some colours place places = (later_place colours place (latest_place colours places), refl)

-- no row has a later tick than the latest
pub latest_greatest : (colours : List ColourRow) (places : List ℕ) (found : ℕ)
    → latest_place colours places ≡ Some found
    → All (λ place. (row_at colours place).tick ≤ (row_at colours found).tick) places
unfolding latest_place
latest_greatest colours [] found is = All-none _
latest_greatest colours (place ∷ places) found is =
    by (latest_place colours places) refl is (λ other e. latest_greatest colours places other e)
  where
    later : ℕ → ℕ → Type 0
    later top at = (row_at colours at).tick ≤ (row_at colours top).tick

    either : (b : Bool) (other : ℕ) → nat_le (row_at colours place).tick (row_at colours other).tick ≡ b
        → Some (cond b other place) ≡ Some found → All (later other) places
        → All (later found) (place ∷ places)
    either true other e is all =
        (let same : other
        ≡ found = cc in subst (λ (top : ℕ). All (later top) (place ∷ places)) same
        (All-cons (later other) place places (grind (arith, nat_tests)) all))
    either false other e is all =
        (let same : place ≡ found = cc in subst (λ (top : ℕ). All (later top) (place ∷ places)) same
        (All-cons (later place) place places (omega arith)
        (λ k d within. (let low = all k d within in grind (arith, nat_tests)))))

    by : (rest : Option ℕ) → latest_place colours places ≡ rest
        → Some (later_place colours place rest) ≡ Some found
        → ((other : ℕ) → latest_place colours places ≡ Some other → All (later other) places)
        → All (later found) (place ∷ places)
    by None e is again =
        (let same : place ≡ found = cc in let empty = latest_none colours places e in
        subst (λ (top : ℕ). All (later top) (place ∷ places)) same
        (All-cons (later place) place places (omega arith) (subst (All (later place)) (sym empty) (All-none _))))
    by (Some other) e is again =
        either (nat_le (row_at colours place).tick (row_at colours other).tick) other refl is (again other e)

-- ---- the rows of a CLUT by a tick

-- what the instants of an epoch up to one tell of a CLUT's rows: each row by then has its tick among them, and a number
-- that its depth has
pub record AreSeenRows (colours : List ColourRow) (clut tick : ℕ) (earlier : List ℕ) : Type 0 where
  pub seen : All
      (λ place. (row_at colours place).tick ≤ tick → Contains (tick ∷ earlier) (row_at colours place).tick)
      (rows_of_clut colours clut)
  pub entries : All (λ place. (row_at colours place).entry < code_count (row_at colours place).depth)
      (rows_of_clut colours clut)
  pub before : All (λ time. time ≤ tick) (tick ∷ earlier)

-- ---- changes

-- a row of a CLUT at a tick changes it there
pub row_changes : (colours : List ColourRow) (clut tick place : ℕ) → Contains (rows_of_clut colours clut) place
    → (row_at colours place).tick ≡ tick → is_changed colours clut tick ≡ true
row_changes colours clut tick place there at =
    let own : ((row_at colours place).clut == clut) ≡ true =
    all_at (λ place. ((row_at colours place).clut == clut) ≡ true) (rows_of_clut colours clut) place
    (kept_pass (λ place. (row_at colours place).clut == clut) (places_below (length colours))) there in
    let within : place < length colours =
    all_at (λ place. place < length colours) (rows_of_clut colours clut) place (own_within colours clut) there in
    list_any_at (λ (row : ColourRow). (row.clut == clut) && (row.tick == tick)) colours place no_row within
    (let now : ((row_at colours place).tick == tick) ≡ true = grind (arith, nat_tests) in rw (own, now) refl)

-- and a CLUT that changes at a tick has a row there
pub changed_row : (colours : List ColourRow) (clut tick : ℕ) → is_changed colours clut tick ≡ true
    → (place : ℕ) × Contains (rows_of_clut colours clut) place × ((row_at colours place).tick ≡ tick)
changed_row colours clut tick changed =
    let at = any_place (λ (row : ColourRow). (row.clut == clut) && (row.tick == tick)) colours no_row changed in (
      at.0,
      kept_one (λ place. (row_at colours place).clut == clut) (places_below (length colours)) at.0
          (place_there (length colours) at.0 at.1)
          (first_of ((row_at colours at.0).clut == clut) ((row_at colours at.0).tick == tick) at.2),
      second_of at.0 ((row_at colours at.0).clut == clut) at.2,
    )
  where
    first_of : (a b : Bool) → (a && b) ≡ true → a ≡ true
    first_of true b e = refl
    first_of false b e = absurd (cc)

    second_of : (place : ℕ) (a : Bool) → (a && ((row_at colours place).tick == tick)) ≡ true
        → (row_at colours place).tick ≡ tick
    second_of place true e = grind (arith, nat_tests)
    second_of place false e = absurd (cc)

-- a row that is defined is one of the CLUT, by the tick
abbrev IsOwnBy : List ColourRow → ℕ → ℕ → ℕ → Type 0
IsOwnBy colours clut tick place = Contains (rows_of_clut colours clut) place × ((row_at colours place).tick ≤ tick)

pub defined_own : (colours : List ColourRow) (clut tick : ℕ)
    → All (IsOwnBy colours clut tick) (defined_rows colours clut tick)
defined_own colours clut tick =
    All-pieces (IsOwnBy colours clut tick) (λ (entry : Entry). row_by colours tick (rows_of_entry colours clut entry))
    all_entries (λ k d within. of_entry (get_or all_entries k d))
  where
    of_entry : (entry : Entry)
        → All (IsOwnBy colours clut tick) (row_by colours tick (rows_of_entry colours clut entry))
    of_entry entry =
        latest_in (IsOwnBy colours clut tick) colours (by_tick colours tick (rows_of_entry colours clut entry))
        (λ k d within. (
          All-filter (λ place. nat_le (row_at colours place).tick tick) (Contains (rows_of_clut colours clut))
              (rows_of_entry colours clut entry)
              (All-filter (λ place. is_of_entry entry (row_at colours place)) (Contains (rows_of_clut colours clut))
              (rows_of_clut colours clut) (All-contains_itself (rows_of_clut colours clut))) k d within,
          (let low = kept_pass (λ place. nat_le (row_at colours place).tick tick) (rows_of_entry colours clut entry) k
              d within in grind (arith, nat_tests)),
        ))

-- a row of the CLUT by a tick is followed by a latest row of its entry
pub row_defined : (colours : List ColourRow) (clut tick : ℕ) (earlier : List ℕ) (place : ℕ)
    → AreSeenRows colours clut tick earlier → Contains (rows_of_clut colours clut) place
    → (row_at colours place).tick ≤ tick
    → (found : ℕ) × Contains (defined_rows colours clut tick) found
    × ((row_at colours place).tick ≤ (row_at colours found).tick)
    × (is_of_entry (entry_of (row_at colours place).depth (row_at colours place).entry) (row_at colours found)
    ≡ true)
row_defined colours clut tick earlier place rows there by_then =
    let row = row_at colours place in
    let entry = entry_of row.depth row.entry in
    let mine : is_of_entry entry row ≡ true =
    (let a : (bits_of row.depth == bits_of row.depth)
    ≡ true = grind (arith, nat_tests) in let b : (row.entry == row.entry)
    ≡ true = grind (arith, nat_tests) in rw (a, b) refl) in
    let low : nat_le row.tick tick ≡ true = grind (arith, nat_tests) in
    let listed =
    kept_one (λ place. nat_le (row_at colours place).tick tick) (rows_of_entry colours clut entry) place
    (kept_one (λ place. is_of_entry entry (row_at colours place)) (rows_of_clut colours clut) place there mine) low
    in
    let latest = found_latest (by_tick colours tick (rows_of_entry colours clut entry)) place listed in
    let known =
    all_at (λ place. (row_at colours place).entry < code_count (row_at colours place).depth)
    (rows_of_clut colours clut) place rows.entries there in
    let at = any_place (is_entry entry) all_entries entry (is_an_entry row.depth row.entry known) in (
      latest.0,
      piece_there (λ (other : Entry). row_by colours tick (rows_of_entry colours clut other)) all_entries
          (get_or all_entries at.0 entry) latest.0 (All-contains_itself all_entries at.0 entry at.1)
          (subst (λ (places : List ℕ). Contains (row_by colours tick places) latest.0)
          (sym (same_rows entry (get_or all_entries at.0 entry) at.2))
          (subst (λ (found : Option ℕ). Contains (option_to_list found) latest.0) (sym latest.1)
          (0, omega arith, refl))),
      all_at (λ place. (row_at colours place).tick ≤ (row_at colours latest.0).tick)
          (by_tick colours tick (rows_of_entry colours clut entry)) place
          (latest_greatest colours (by_tick colours tick (rows_of_entry colours clut entry)) latest.0 latest.1) listed,
      latest_is_own colours clut tick entry latest.0 latest.1,
    )
  where
    found_latest : (places : List ℕ) (place : ℕ) → Contains places place → (found : ℕ)
        × (latest_place colours places ≡ Some found)
    found_latest [] place there = absurd (omega (arith, there.1))
    found_latest (first ∷ places) place there = latest_some colours first places

    same_rows : (entry other : Entry) → is_entry entry other ≡ true
        → rows_of_entry colours clut other ≡ rows_of_entry colours clut entry
    same_rows entry other e =
        (let bits : bits_of other.depth
        ≡ bits_of entry.depth = grind (arith, nat_tests) in let number : other.number
        ≡ entry.number = grind (arith, nat_tests) in
        λ i. filter
        (λ place. (bits_of (row_at colours place).depth == bits i) && ((row_at colours place).entry == number i))
        (rows_of_clut colours clut))
