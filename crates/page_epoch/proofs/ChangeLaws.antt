-- The last change of a CLUT by a tick tells what counts at that tick.
use Rattle.std.proofs.Common.{◌≡◌, ◌≢◌, ◌∙◌, ◌⊎◌, inl, inr, ℕ, zero, suc, ◌+◌, ◌-◌, ◌==◌, ◌<◌, ◌≤◌, nat_le, Bool, true, false, ◌&&◌, ◌||◌, cond, List, [], ◌∷◌, ◌++◌, map, filter, take, length, get_or, All, eqb, refl, sym, ap, subst, arith}
use Rattle.std.specs.List.{list_any, range_with_len, Contains, dedup}
use Rattle.std.specs.List.Sorted.{IsNonDecreasingBy, IsPartitionPoint, IsStrictlyIncreasing, IsPermutation, IsSorted}
use Rattle.std.specs.Ordering.{nat_cmp}
use Rattle.std.proofs.lemmas.Bool.Decides.{nat_tests}
use Rattle.std.proofs.lemmas.List.{map-id, length-map, get_or-map, take_all}
use Rattle.std.proofs.lemmas.List.Elements.{All-weaker, All-map, Contains-get_or}
use Rattle.std.proofs.lemmas.List.Kept.{Contains-dedup_nat, Contains-from_dedup}
use Rattle.std.proofs.lemmas.List.Sorted.{Contains-permutation, IsPermutation-sym}
use Rattle.std.proofs.lemmas.Map.Keys.{IsStrictlyIncreasing-dedup}
use Rattle.std.proofs.lemmas.List.Folds.{list_any-append, list_any_more, list_any_none, list_any_at}
use Rattle.std.proofs.lemmas.List.FromFn.{map-range_with_len_more}
use Rattle.cue_records.specs.declared.row_values.ColourRow.{ColourRow}
use Rattle.page_epoch.specs.declared.clut_changes.Change.{Change}
use Rattle.page_epoch.specs.declared.clut_changes.ClutChanges.{ClutChanges}
use Rattle.page_epoch.specs.SentCluts.{no_row, row_at, all_entries, rows_of_clut, defined_rows, is_changed, clut_with, rows_from}
use Rattle.page_epoch.specs.Private.Changes.{AreInOrder, change_at, AreTicksOf, AreChanges}
use Rattle.page_epoch.proofs.EventLaws.{contains_mapped}
use Rattle.page_epoch.proofs.InstantLaws.{in_order}
use Rattle.page_epoch.proofs.WalkLaws.{rows_back}
use Rattle.page_epoch.proofs.RowLaws.{defined_same, defined_none, defined_in}

-- ---- the changes of a CLUT

pub ticks_from : (colours : List ColourRow) (places given sorted ticks : List ℕ)
    → given ≡ map (λ place. (row_at colours place).tick) places → IsPermutation given sorted
    → IsSorted nat_cmp sorted → ticks ≡ dedup eqb sorted →
    AreTicksOf colours places ticks
ticks_from colours places given sorted ticks is moved ordered kept =
    let tick = λ (place : ℕ). (row_at colours place).tick in
    let Rises : List ℕ → Type 0 = λ xs. IsStrictlyIncreasing xs in
    record {
      rise = subst Rises (sym kept) (IsStrictlyIncreasing-dedup sorted ordered);
      from = λ k d h.
          let x = get_or ticks k d in
          subst (λ (xs : List ℕ). Contains xs x) is
          (Contains-permutation sorted given x (IsPermutation-sym given sorted moved)
          (Contains-from_dedup eqb sorted x
          (subst (λ (xs : List ℕ). Contains xs x) kept (Contains-get_or ticks k d h))));
      all = λ k d h.
          let x = tick (get_or places k d) in
          subst (λ (xs : List ℕ). Contains xs x) (sym kept)
          (Contains-dedup_nat sorted x
          (Contains-permutation given sorted x moved
          (subst (λ (xs : List ℕ). Contains xs x) (sym is)
          (contains_mapped tick places (get_or places k d) (Contains-get_or places k d h)))));
    }

ticks_back : (colours : List ColourRow) (rows ticks : List ℕ)
    → map (λ (change : Change). change.tick) (map (change_at colours all_entries rows) ticks) ≡ ticks
ticks_back colours rows [] = refl
ticks_back colours rows (tick ∷ ticks) = ap (λ xs. tick ∷ xs) (ticks_back colours rows ticks)

pub changes_from : (colours : List ColourRow) (clut : ℕ) (own rows ticks : List ℕ) (changes : List Change)
    → own ≡ rows_of_clut colours clut → AreInOrder colours own rows →
    AreTicksOf colours own ticks → changes ≡ map (change_at colours all_entries rows) ticks
    → AreChanges colours (record { clut = clut; changes = changes })
changes_from colours clut own rows ticks changes o order are c =
    let Ticks : List ℕ → List ℕ → Type 0 = λ xs ys. AreTicksOf colours xs ys in
    let Rows : List Change → Type 0 =
    λ xs. All (λ (change : Change). change.rows ≡ defined_rows colours clut change.tick) xs in
    let Order : List ℕ → Type 0 = λ xs. AreInOrder colours xs rows in
    record {
      ticks =
          subst (Ticks (rows_of_clut colours clut))
          (sym (ap (map (λ (change : Change). change.tick)) c ∙ ticks_back colours rows ticks))
          (subst (λ (xs : List ℕ). Ticks xs ticks) o are);
      rows =
          subst Rows (sym c)
          (All-map (λ (change : Change). change.rows ≡ defined_rows colours clut change.tick)
          (change_at colours all_entries rows) ticks
          (λ k d h. rows_back colours clut (get_or ticks k d) rows (subst Order o order)));
    }

-- ---- changes and rows

or_false : (b : Bool) → (b || false) ≡ b
or_false true = refl
or_false false = refl

places_more : (n : ℕ) → range_with_len 0 (n + 1) ≡ range_with_len 0 n ++ n ∷ []
places_more n =
    sym (map-id (range_with_len 0 (n + 1))) ∙ map-range_with_len_more (λ (x : ℕ). x) 0 n n (omega arith)
    ∙ ap (λ xs. xs ++ n ∷ []) (map-id (range_with_len 0 n))

any_by_place : {X : Type 0} (p : X → Bool) (xs : List X) (d : X) (n : ℕ) → n ≤ length xs
    → list_any p (take n xs) ≡ list_any (λ k. p (get_or xs k d)) (range_with_len 0 n)
any_by_place p xs d zero h = refl
any_by_place p xs d (suc n) h =
    let q = λ (k : ℕ). p (get_or xs k d) in
    let more : suc n ≡ n + 1 = omega arith in
    ap (λ k. list_any p (take k xs)) more ∙ list_any_more p xs n d (omega arith)
    ∙ ap (λ b. b || q n) (any_by_place p xs d n (omega arith))
    ∙ sym (ap (λ k. list_any q (range_with_len 0 k)) more ∙ ap (list_any q) (places_more n)
    ∙ list_any-append q (range_with_len 0 n) (n ∷ [])
    ∙ ap (λ b. list_any q (range_with_len 0 n) || b) (or_false (q n)))

any_kept : (a b : ℕ → Bool) (xs : List ℕ) → list_any (λ x. a x && b x) xs ≡ list_any b (filter a xs)
any_kept a b [] = refl
any_kept a b (x ∷ xs) = kept_by (a x) (b x) x b (list_any (λ x. a x && b x) xs) (filter a xs) refl (any_kept a b xs)
  where
    kept_by : (t u : Bool) (x : ℕ) (b : ℕ → Bool) (rest : Bool) (kept : List ℕ) → b x ≡ u
        → rest ≡ list_any b kept → ((t && u) || rest) ≡ list_any b (cond t (x ∷ kept) kept)
    kept_by true u x b rest kept e r = ap (λ v. v || rest) (sym e) ∙ ap (λ v. b x || v) r
    kept_by false u x b rest kept e r = r

-- a CLUT changes where one of its rows has that tick
changed_rows : (colours : List ColourRow) (clut tick : ℕ)
    → is_changed colours clut tick
    ≡ list_any (λ place. (row_at colours place).tick == tick) (rows_of_clut colours clut)
changed_rows colours clut tick =
    let p = λ (row : ColourRow). (row.clut == clut) && (row.tick == tick) in
    sym (ap (list_any p) (take_all (length colours) colours (omega arith)))
    ∙ any_by_place p colours no_row (length colours) (omega arith)
    ∙ any_kept (λ place. (row_at colours place).clut == clut) (λ place. (row_at colours place).tick == tick)
    (range_with_len 0 (length colours))

-- ---- the last change by a tick

pub changes_rise : (colours : List ColourRow) (clut : ClutChanges) → AreChanges colours clut
    → IsNonDecreasingBy (λ (change : Change). change.tick) clut.changes
changes_rise colours clut are i j d low short =
    let ticks = map (λ (change : Change). change.tick) clut.changes in
    let long = length-map clut.changes (λ (change : Change). change.tick) in
    let less = in_order ticks i j are.ticks.rise low (omega arith) in
    let first = get_or-map (λ (change : Change). change.tick) clut.changes i d 0 (omega arith) in
    let second = get_or-map (λ (change : Change). change.tick) clut.changes j d 0 short in
    omega arith

-- how many changes have come by a tick
abbrev pub HaveCome : ClutChanges → ℕ → ℕ → Type 0
HaveCome clut tick n =
    IsPartitionPoint (λ (change : Change). nat_le change.tick tick ≡ true)
    (λ (change : Change). nat_le change.tick tick ≡ false) clut.changes n

pub come_by : (colours : List ColourRow) (clut : ClutChanges) (tick : ℕ) (changes : List Change) (n : ℕ)
    → changes ≡ clut.changes → AreChanges colours clut →
    (IsNonDecreasingBy (λ (change : Change). change.tick) changes
    → IsPartitionPoint (λ (change : Change). nat_le change.tick tick ≡ true)
    (λ (change : Change). nat_le change.tick tick ≡ false) changes n) → HaveCome clut tick n
come_by colours clut tick changes n e are point =
    let Rises : List Change → Type 0 = λ xs. IsNonDecreasingBy (λ (change : Change). change.tick) xs in
    let Come : List Change
    → Type 0 = λ xs. IsPartitionPoint (λ (change : Change). nat_le change.tick tick ≡ true)
    (λ (change : Change). nat_le change.tick tick ≡ false) xs n in
    subst Come e (point (subst Rises (sym e) (changes_rise colours clut are)))

change_there : (clut : ClutChanges) (tick j : ℕ) (d : Change)
    → j < length (map (λ (change : Change). change.tick) clut.changes)
    → get_or (map (λ (change : Change). change.tick) clut.changes) j tick ≡ tick
    → (get_or clut.changes j d).tick ≡ tick
change_there clut tick j d h e =
    let long = length-map clut.changes (λ (change : Change). change.tick) in
    sym (get_or-map (λ (change : Change). change.tick) clut.changes j d tick (omega arith)) ∙ e

later_by : (colours : List ColourRow) (clut : ClutChanges) (tick own : ℕ) (d : Change) → HaveCome clut tick 0
    → Contains (map (λ (change : Change). change.tick) clut.changes) own → nat_le own tick ≡ false
later_by colours clut tick own d come (j, h, e) =
    let long = length-map clut.changes (λ (change : Change). change.tick) in
    subst (λ (t : ℕ). nat_le t tick ≡ false) (change_there clut own j d h e)
    (come.1 j d (omega arith) (omega arith))

none_yet : (colours : List ColourRow) (clut : ClutChanges) (tick : ℕ) → AreChanges colours clut
    → HaveCome clut tick 0
    → All (λ place. nat_le (row_at colours place).tick tick ≡ false) (rows_of_clut colours clut.clut)
none_yet colours clut tick are come =
    let d : Change = record { tick = 0; rows = [] } in
    All-weaker (λ place. Contains (map (λ (change : Change). change.tick) clut.changes) (row_at colours place).tick)
    (λ place. nat_le (row_at colours place).tick tick ≡ false)
    (λ place there. later_by colours clut tick (row_at colours place).tick d come there)
    (rows_of_clut colours clut.clut) are.ticks.all

-- before the first change nothing counts, and nothing changes
pub defined_before : (colours : List ColourRow) (clut : ClutChanges) (tick : ℕ) → AreChanges colours clut
    → HaveCome clut tick 0 → defined_rows colours clut.clut tick ≡ []
defined_before colours clut tick are come = defined_none colours clut.clut tick (none_yet colours clut tick are come)

pub none_sent : (colours : List ColourRow) (whole : Bool) (clut version tick : ℕ)
    → clut_with clut version (rows_from colours whole tick []) ≡ []
none_sent colours true clut version tick = refl
none_sent colours false clut version tick = refl

later_other : (own tick : ℕ) → nat_le own tick ≡ false → (own == tick) ≡ false
later_other own tick h = grind (arith, nat_tests)

pub unchanged_before : (colours : List ColourRow) (clut : ClutChanges) (tick : ℕ) → AreChanges colours clut
    → HaveCome clut tick 0 → is_changed colours clut.clut tick ≡ false
unchanged_before colours clut tick are come =
    changed_rows colours clut.clut tick
    ∙ list_any_none (λ place. (row_at colours place).tick == tick) (rows_of_clut colours clut.clut)
    (All-weaker (λ place. nat_le (row_at colours place).tick tick ≡ false)
    (λ place. ((row_at colours place).tick == tick) ≡ false)
    (λ place h. later_other (row_at colours place).tick tick h) (rows_of_clut colours clut.clut)
    (none_yet colours clut tick are come))

-- a row of the CLUT has come by the last change, or comes after the tick
Beside : ℕ → ℕ → ℕ → Type 0
Beside last tick own = (own ≤ last) ⊎ (tick < own)

beside_at : (colours : List ColourRow) (clut : ClutChanges) (tick n j own : ℕ) (d : Change)
    → AreChanges colours clut → HaveCome clut tick n → 0 < n → n ≤ length clut.changes
    → j < length clut.changes → (get_or clut.changes j d).tick ≡ own → (j < n) ⊎ (n ≤ j) →
    Beside (get_or clut.changes (n - 1) d).tick tick own
unfolding Beside
beside_at colours clut tick n j own d are come some few h e (inl low) =
    inl (let less = changes_rise colours clut are j (n - 1) d (omega arith) (omega arith) in omega arith)
beside_at colours clut tick n j own d are come some few h e (inr high) =
    inr (let later = come.1 j d high h in grind (arith, nat_tests))

beside_by : (colours : List ColourRow) (clut : ClutChanges) (tick n own : ℕ) (d : Change)
    → AreChanges colours clut → HaveCome clut tick n → 0 < n → n ≤ length clut.changes
    → Contains (map (λ (change : Change). change.tick) clut.changes) own →
    Beside (get_or clut.changes (n - 1) d).tick tick own
beside_by colours clut tick n own d are come some few (j, h, e) =
    let long = length-map clut.changes (λ (change : Change). change.tick) in
    beside_at colours clut tick n j own d are come some few (omega arith) (change_there clut own j d h e) (grind arith)

-- a change is the last one by a tick
pub record IsLast (colours : List ColourRow) (clut tick : ℕ) (change : Change) : Type 0 where
  pub come : change.tick ≤ tick
  pub rows : change.rows ≡ defined_rows colours clut change.tick
  pub from : Contains (map (λ place. (row_at colours place).tick) (rows_of_clut colours clut)) change.tick
  pub beside : All (λ place. ((row_at colours place).tick ≤ change.tick) ⊎ (tick < (row_at colours place).tick))
      (rows_of_clut colours clut)

pub last_by : (colours : List ColourRow) (clut : ClutChanges) (tick n : ℕ) (change : Change)
    → AreChanges colours clut → HaveCome clut tick n → 0 < n → n ≤ length clut.changes
    → change ≡ get_or clut.changes (n - 1) change →
    IsLast colours clut.clut tick change
unfolding Beside
last_by colours clut tick n change are come some few is =
    let long = length-map clut.changes (λ (change : Change). change.tick) in
    let From : Change → Type 0 = λ x. x.tick ≤ tick in
    let Rows : Change → Type 0 = λ x. x.rows ≡ defined_rows colours clut.clut x.tick in
    let Own : ℕ → Type 0 =
    λ t. Contains (map (λ place. (row_at colours place).tick) (rows_of_clut colours clut.clut)) t in
    let All_beside : Change
    → Type 0 = λ x. All
    (λ place. ((row_at colours place).tick ≤ x.tick) ⊎ (tick < (row_at colours place).tick))
    (rows_of_clut colours clut.clut) in
    record {
      come =
          subst From (sym is) (let low = come.0 (n - 1) change (omega arith) (omega arith) in grind (arith, nat_tests));
      rows = subst Rows (sym is) (are.rows (n - 1) change (omega arith));
      from =
          subst Own
          (get_or-map (λ (change : Change). change.tick) clut.changes (n - 1) change 0 (omega arith)
          ∙ ap (λ (x : Change). x.tick) (sym is)) (are.ticks.from (n - 1) 0 (omega arith));
      beside = subst All_beside (sym is)
          (All-weaker
          (λ place. Contains (map (λ (change : Change). change.tick) clut.changes) (row_at colours place).tick)
          (λ place. ((row_at colours place).tick ≤ (get_or clut.changes (n - 1) change).tick)
          ⊎ (tick < (row_at colours place).tick))
          (λ place there. beside_by colours clut tick n (row_at colours place).tick change are come some few there)
          (rows_of_clut colours clut.clut) are.ticks.all);
    }

pub last_from : (colours : List ColourRow) (clut : ClutChanges) (tick : ℕ) (changes : List Change) (n : ℕ)
    (change : Change) → changes ≡ clut.changes → AreChanges colours clut →
    (IsNonDecreasingBy (λ (change : Change). change.tick) changes
    → IsPartitionPoint (λ (change : Change). nat_le change.tick tick ≡ true)
    (λ (change : Change). nat_le change.tick tick ≡ false) changes n) →
    n ≤ length changes → n ≢ 0 → change ≡ get_or changes (n - 1) change
    → IsLast colours clut.clut tick change
last_from colours clut tick changes n change e are point few some is =
    let long = ap length e in
    last_by colours clut tick n change are (come_by colours clut tick changes n e are point) (grind arith) (omega arith)
    (is ∙ ap (λ (xs : List Change). get_or xs (n - 1) change) e)

same_test : (own last tick : ℕ) → last ≤ tick → (own ≤ last) ⊎ (tick < own)
    → nat_le own tick ≡ nat_le own last
same_test own last tick low (inl h) = grind (arith, nat_tests)
same_test own last tick low (inr h) = grind (arith, nat_tests)

-- the rows that count are those of the last change
pub defined_at : (colours : List ColourRow) (clut tick : ℕ) (change : Change) → IsLast colours clut tick change
    → change.rows ≡ defined_rows colours clut tick
defined_at colours clut tick change last =
    last.rows ∙ sym (defined_same colours clut tick change.tick
    (All-weaker (λ place. ((row_at colours place).tick ≤ change.tick) ⊎ (tick < (row_at colours place).tick))
    (λ place. nat_le (row_at colours place).tick tick ≡ nat_le (row_at colours place).tick change.tick)
    (λ place beside. same_test (row_at colours place).tick change.tick tick last.come beside)
    (rows_of_clut colours clut) last.beside))

other_test : (own last tick : ℕ) → last ≤ tick → (last == tick) ≡ false → (own ≤ last)
    ⊎ (tick < own) → (own == tick) ≡ false
other_test own last tick low t (inl h) = grind (arith, nat_tests)
other_test own last tick low t (inr h) = grind (arith, nat_tests)

others : (colours : List ColourRow) (clut tick : ℕ) (change : Change) → IsLast colours clut tick change
    → (change.tick == tick) ≡ false
    → All (λ place. ((row_at colours place).tick == tick) ≡ false) (rows_of_clut colours clut)
others colours clut tick change last t =
    All-weaker (λ place. ((row_at colours place).tick ≤ change.tick) ⊎ (tick < (row_at colours place).tick))
    (λ place. ((row_at colours place).tick == tick) ≡ false)
    (λ place beside. other_test (row_at colours place).tick change.tick tick last.come t beside)
    (rows_of_clut colours clut) last.beside

pub others_defined : (colours : List ColourRow) (clut tick : ℕ) (change : Change)
    → IsLast colours clut tick change → (change.tick == tick) ≡ false
    → All (λ place. ((row_at colours place).tick == tick) ≡ false) change.rows
others_defined colours clut tick change last t =
    subst (λ (xs : List ℕ). All (λ place. ((row_at colours place).tick == tick) ≡ false) xs) (sym last.rows)
    (defined_in (λ place. ((row_at colours place).tick == tick) ≡ false) colours clut change.tick
    (others colours clut tick change last t))

any_own : (colours : List ColourRow) (places : List ℕ) (last tick : ℕ) → (last == tick) ≡ true
    → Contains (map (λ place. (row_at colours place).tick) places) last
    → list_any (λ place. (row_at colours place).tick == tick) places ≡ true
any_own colours places last tick t (j, h, e) =
    let long = length-map places (λ place. (row_at colours place).tick) in
    let there = sym (get_or-map (λ place. (row_at colours place).tick) places j 0 last (omega arith)) ∙ e in
    list_any_at (λ place. (row_at colours place).tick == tick) places j 0 (omega arith) (grind (arith, nat_tests))

changed_by : (b : Bool) (colours : List ColourRow) (clut tick : ℕ) (change : Change) → (change.tick == tick) ≡ b
    → IsLast colours clut tick change → is_changed colours clut tick ≡ b
changed_by true colours clut tick change t last =
    changed_rows colours clut tick ∙ any_own colours (rows_of_clut colours clut) change.tick tick t last.from
changed_by false colours clut tick change t last =
    changed_rows colours clut tick
    ∙ list_any_none (λ place. (row_at colours place).tick == tick) (rows_of_clut colours clut)
    (others colours clut tick change last t)

-- the CLUT changes where its last change has that tick
pub changed_at : (colours : List ColourRow) (clut tick : ℕ) (change : Change) → IsLast colours clut tick change
    → (change.tick == tick) ≡ is_changed colours clut tick
changed_at colours clut tick change last = sym (changed_by (change.tick == tick) colours clut tick change refl last)
