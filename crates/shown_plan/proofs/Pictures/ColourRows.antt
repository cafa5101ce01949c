-- The colour of an entry of a CLUT: what the rows that a set sends give it, and what is authored.
use Rattle.std.proofs.Common.{◌≡◌, ◌∙◌, ℕ, ◌==◌, nat_le, Bool, true, false, ◌&&◌, ◌||◌, cond, List, [], ◌∷◌, length, map, filter, get_or, Option, Some, None, unwrap_or, refl, sym, ap, subst, arith}
use Rattle.std.specs.Prelude.{All}
use Rattle.std.specs.List.{flat_map, list_any}
use Rattle.std.specs.Option.{option_or, option_map, option_to_list}
use Rattle.std.proofs.lemmas.Bool.Decides.{nat_tests}
use Rattle.std.proofs.lemmas.List.Elements.{All-head, All-tail, All-cons, All-filter}
use Rattle.sub_base.specs.Colour.{default_of}
use Rattle.sub_base.specs.Depth.{bits_of}
use Rattle.sub_base.specs.Lists.{last_given}
use Rattle.sub_base.specs.declared.colour.Colour.{Colour}
use Rattle.sub_base.specs.declared.depth.Depth.{Depth}
use Rattle.cue_list.specs.Authored.{sets_entry, later_row, latest_row, colour_or_default, authored_colour}
use Rattle.cue_records.specs.declared.row_values.ColourRow.{ColourRow}
use Rattle.page_epoch.proofs.ListLaws.{All-none, map_kept, places_back}
use Rattle.page_epoch.proofs.RowLaws.{entry_of}
use Rattle.page_epoch.specs.Live.{places_below}
use Rattle.page_epoch.specs.SentCluts.{no_row, row_at, rows_of_clut, is_of_entry, rows_of_entry, later_place, latest_place, by_tick, row_by}
use Rattle.page_epoch.specs.declared.clut_rows.Entry.{Entry}
use Rattle.decoder_model.proofs.Searches.{option_or-none, last_given-append}

-- ---- authored colours by places

-- the latest row that sets an entry by a tick, by its place
abbrev pub latest_of : List ColourRow → ℕ → Entry → ℕ → Option ℕ
latest_of colours clut entry tick = latest_place colours (by_tick colours tick (rows_of_entry colours clut entry))

latest_rows : (colours : List ColourRow) (places : List ℕ)
    → latest_row (map (row_at colours) places) ≡ option_map (row_at colours) (latest_place colours places)
unfolding latest_row latest_place
latest_rows colours [] = refl
latest_rows colours (place ∷ places) =
    ap (λ found. Some (later_row (row_at colours place) found)) (latest_rows colours places)
    ∙ ap (λ row. Some row) (later (latest_place colours places))
  where
    later : (found : Option ℕ)
        → later_row (row_at colours place) (option_map (row_at colours) found)
        ≡ row_at colours (later_place colours place found)
    later None = refl
    later (Some other) = by (nat_le (row_at colours place).tick (row_at colours other).tick)
      where
        by : (b : Bool) → cond b (row_at colours other) (row_at colours place) ≡ row_at colours (cond b other place)
        by true = refl
        by false = refl

kept_thrice : (p q r : ℕ → Bool) (xs : List ℕ)
    → filter r (filter q (filter p xs)) ≡ filter (λ x. p x && (q x && r x)) xs
kept_thrice p q r [] = refl
kept_thrice p q r (x ∷ xs) = by (p x) (q x) (r x) refl refl refl (kept_thrice p q r xs)
  where
    by : (a b c : Bool) → p x ≡ a → q x ≡ b → r x ≡ c
        → filter r (filter q (filter p xs)) ≡ filter (λ x. p x && (q x && r x)) xs
        → filter r (filter q (filter p (x ∷ xs))) ≡ filter (λ x. p x && (q x && r x)) (x ∷ xs)
    by false b c ea eb ec again = rw ea again
    by true false c ea eb ec again = rw (ea, eb) again
    by true true false ea eb ec again = rw (ea, eb, ec) again
    by true true true ea eb ec again = rw (ea, eb, ec) (ap (λ rest. x ∷ rest) again)

rows_by_place : (colours : List ColourRow) (clut tick : ℕ) (depth : Depth) (number : ℕ)
    → filter (sets_entry clut depth number tick) colours
    ≡ map (row_at colours) (by_tick colours tick (rows_of_entry colours clut (entry_of depth number)))
rows_by_place colours clut tick depth number =
    sym (ap (map (row_at colours))
    (kept_thrice (λ place. (row_at colours place).clut == clut)
    (λ place. is_of_entry (entry_of depth number) (row_at colours place))
    (λ place. nat_le (row_at colours place).tick tick) (places_below (length colours)))
    ∙ map_kept (row_at colours) (λ (row : ColourRow). row) (row_at colours)
    (λ place. ((row_at colours place).clut == clut)
    && (is_of_entry (entry_of depth number) (row_at colours place) && nat_le (row_at colours place).tick tick))
    (sets_entry clut depth number tick) (places_below (length colours))
    (λ k d within. (same (row_at colours (get_or (places_below (length colours)) k d)), refl))
    ∙ kept_self (filter (sets_entry clut depth number tick) (map (row_at colours) (places_below (length colours))))
    ∙ ap (filter (sets_entry clut depth number tick)) (places_back colours no_row))
  where
    kept_self : (all : List ColourRow) → map (λ (row : ColourRow). row) all ≡ all
    kept_self [] = refl
    kept_self (row ∷ all) = ap (λ rest. row ∷ rest) (kept_self all)

    same : (row : ColourRow)
        → ((row.clut == clut) && (is_of_entry (entry_of depth number) row && nat_le row.tick tick))
        ≡ sets_entry clut depth number tick row
    same row = by (row.clut == clut) (bits_of row.depth == bits_of depth) (row.entry == number) (nat_le row.tick tick)
      where
        by : (a b c d : Bool) → (a && ((b && c) && d)) ≡ (a && b && c && d)
        by false b c d = refl
        by true false c d = refl
        by true true false d = refl
        by true true true d = refl

-- the colour of the row at a place
abbrev pub colour_at : List ColourRow → ℕ → Colour
colour_at colours place = (row_at colours place).colour

-- the authored colour of an entry is that of its latest row, or the default one
pub authored_by_place : (colours : List ColourRow) (clut tick : ℕ) (depth : Depth) (number : ℕ)
    → authored_colour colours clut depth number tick
    ≡ unwrap_or (option_map (colour_at colours) (latest_of colours clut (entry_of depth number) tick))
    (default_of depth number)
authored_by_place colours clut tick depth number =
    ap (λ rows. colour_or_default depth number (latest_row rows)) (rows_by_place colours clut tick depth number)
    ∙ ap (colour_or_default depth number)
    (latest_rows colours (by_tick colours tick (rows_of_entry colours clut (entry_of depth number))))
    ∙ by (latest_of colours clut (entry_of depth number) tick)
  where
    by : (found : Option ℕ)
        → colour_or_default depth number (option_map (row_at colours) found)
        ≡ unwrap_or (option_map (colour_at colours) found) (default_of depth number)
    by None = refl
    by (Some place) = refl

-- ---- what rows give an entry

-- what the row at a place gives an entry of a depth, where it passes a test
abbrev pub given_by : List ColourRow → (ℕ → Bool) → Entry → ℕ → Option Colour
given_by colours test entry place =
    cond (test place && is_of_entry entry (row_at colours place)) (Some (colour_at colours place)) None

-- what the latest row gives
abbrev pub given_latest : List ColourRow → (ℕ → Bool) → Option ℕ → Option Colour
given_latest colours test None = None
given_latest colours test (Some place) = cond (test place) (Some (colour_at colours place)) None

-- two entries are one
abbrev pub is_entry : Entry → Entry → Bool
is_entry entry other = (bits_of other.depth == bits_of entry.depth) && (other.number == entry.number)

pub latest_kept : (colours : List ColourRow) (P : ℕ → Type 0) (places : List ℕ) (place : ℕ) → All P places
    → latest_place colours places ≡ Some place → P place
unfolding latest_place
latest_kept colours P [] place all is = absurd (cc)
latest_kept colours P (first ∷ places) place all is =
    by (latest_place colours places) refl is
    (λ other there. latest_kept colours P places other (All-tail P first places all) there)
  where
    either : (b : Bool) (other : ℕ) → P other → Some (cond b other first) ≡ Some place → P place
    either true other p is = (let same : other ≡ place = cc in subst P same p)
    either false other p is = (let same : first ≡ place = cc in subst P same (All-head P first places all))

    by : (found : Option ℕ) → latest_place colours places ≡ found
        → Some (later_place colours first found) ≡ Some place
        → ((other : ℕ) → latest_place colours places ≡ Some other → P other) → P place
    by None e is again = (let same : first ≡ place = cc in subst P same (All-head P first places all))
    by (Some other) e is again =
        either (nat_le (row_at colours first).tick (row_at colours other).tick) other (again other e) is

-- the rows that give an entry its colour are of that entry
pub latest_is_own : (colours : List ColourRow) (clut tick : ℕ) (entry : Entry) (place : ℕ)
    → latest_of colours clut entry tick ≡ Some place → is_of_entry entry (row_at colours place) ≡ true
latest_is_own colours clut tick entry place is =
    latest_kept colours (λ place. is_of_entry entry (row_at colours place) ≡ true)
    (by_tick colours tick (rows_of_entry colours clut entry)) place
    (All-filter (λ place. nat_le (row_at colours place).tick tick)
    (λ place. is_of_entry entry (row_at colours place) ≡ true) (rows_of_entry colours clut entry)
    (kept_own (rows_of_clut colours clut))) is
  where
    kept_own : (places : List ℕ)
        → All (λ place. is_of_entry entry (row_at colours place) ≡ true)
        (filter (λ place. is_of_entry entry (row_at colours place)) places)
    kept_own [] = All-none _
    kept_own (first ∷ places) = by (is_of_entry entry (row_at colours first)) refl (kept_own places)
      where
        by : (b : Bool) → is_of_entry entry (row_at colours first) ≡ b
            → All (λ place. is_of_entry entry (row_at colours place) ≡ true)
            (filter (λ place. is_of_entry entry (row_at colours place)) places)
            → All (λ place. is_of_entry entry (row_at colours place) ≡ true)
            (cond b (first ∷ filter (λ place. is_of_entry entry (row_at colours place)) places)
            (filter (λ place. is_of_entry entry (row_at colours place)) places))
        by true e again = All-cons (λ place. is_of_entry entry (row_at colours place) ≡ true) first _ e again
        by false e again = again

-- what the row of an entry gives another entry, or itself
given_entry : (colours : List ColourRow) (clut tick : ℕ) (test : ℕ → Bool) (entry other : Entry)
    → last_given (given_by colours test entry) (row_by colours tick (rows_of_entry colours clut other))
    ≡ cond (is_entry entry other) (given_latest colours test (latest_of colours clut entry tick)) None
given_entry colours clut tick test entry other = by (is_entry entry other) refl
  where
    alike : is_entry entry other ≡ true → (row : ColourRow) → is_of_entry other row ≡ is_of_entry entry row
    alike e row = (let both = same_numbers e in λ i. (bits_of row.depth == both.0 i) && (row.entry == both.1 i))
      where
        same_numbers : is_entry entry other ≡ true → (bits_of other.depth ≡ bits_of entry.depth)
            × (other.number ≡ entry.number)
        same_numbers e = (grind (arith, nat_tests), grind (arith, nat_tests))

    unlike : is_entry entry other ≡ false → (row : ColourRow) → is_of_entry other row ≡ true
        → is_of_entry entry row ≡ false
    unlike e row own = grind (arith, nat_tests)

    one : (found : Option ℕ)
        → ((place : ℕ) → found ≡ Some place → is_of_entry entry (row_at colours place) ≡ true)
        → last_given (given_by colours test entry) (option_to_list found) ≡ given_latest colours test found
    one None own = refl
    one (Some place) own = (let mine = own place refl in by_test (test place) refl mine)
      where
        by_test : (b : Bool) → test place ≡ b → is_of_entry entry (row_at colours place) ≡ true
            → option_or None (given_by colours test entry place)
            ≡ cond (test place) (Some (colour_at colours place)) None
        by_test true e mine = rw (e, mine) refl
        by_test false e mine = rw e refl

    none : (found : Option ℕ)
        → ((place : ℕ) → found ≡ Some place → is_of_entry entry (row_at colours place) ≡ false)
        → last_given (given_by colours test entry) (option_to_list found) ≡ None
    none None other = refl
    none (Some place) other = (let not_mine = other place refl in by_test (test place) refl not_mine)
      where
        by_test : (b : Bool) → test place ≡ b → is_of_entry entry (row_at colours place) ≡ false
            → option_or None (given_by colours test entry place) ≡ None
        by_test true e mine = rw (e, mine) refl
        by_test false e mine = rw e refl

    same_rows : is_entry entry other ≡ true → rows_of_entry colours clut other ≡ rows_of_entry colours clut entry
    same_rows e = (λ i. filter (λ place. alike e (row_at colours place) i) (rows_of_clut colours clut))

    by : (b : Bool) → is_entry entry other ≡ b
        → last_given (given_by colours test entry) (row_by colours tick (rows_of_entry colours clut other))
        ≡ cond b (given_latest colours test (latest_of colours clut entry tick)) None
    by true e =
        ap (λ rows. last_given (given_by colours test entry) (row_by colours tick rows)) (same_rows e)
        ∙ one (latest_of colours clut entry tick) (λ place is. latest_is_own colours clut tick entry place is)
    by false e =
        none (latest_of colours clut other tick)
        (λ place is. unlike e (row_at colours place) (latest_is_own colours clut tick other place is))

pub given_all_entries : (colours : List ColourRow) (clut tick : ℕ) (test : ℕ → Bool) (entry : Entry)
    (entries : List Entry)
    → last_given (given_by colours test entry)
    (flat_map (λ other. row_by colours tick (rows_of_entry colours clut other)) entries)
    ≡ cond (list_any (is_entry entry) entries) (given_latest colours test (latest_of colours clut entry tick)) None
given_all_entries colours clut tick test entry [] = refl
given_all_entries colours clut tick test entry (other ∷ entries) =
    last_given-append (given_by colours test entry) (row_by colours tick (rows_of_entry colours clut other))
    (flat_map (λ other. row_by colours tick (rows_of_entry colours clut other)) entries)
    ∙ (λ i. option_or (given_all_entries colours clut tick test entry entries i)
    (given_entry colours clut tick test entry other i))
    ∙ by (list_any (is_entry entry) entries) (is_entry entry other)
    (given_latest colours test (latest_of colours clut entry tick))
  where
    by : (a b : Bool) (v : Option Colour) → option_or (cond a v None) (cond b v None) ≡ cond (b || a) v None
    by false b v = either b
      where
        either : (b : Bool) → cond b v None ≡ cond (b || false) v None
        either true = refl
        either false = refl
    by true false v = option_or-none v
    by true true None = refl
    by true true (Some c) = refl
