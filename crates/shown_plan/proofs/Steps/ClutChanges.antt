-- Whether a set sends a CLUT, and the version of a CLUT, by the colour rows of an epoch.
use Rattle.std.proofs.Common.{◌≡◌, ◌≢◌, ◌∙◌, ◌⊎◌, inl, inr, ℕ, zero, suc, ◌-◌, ◌%◌, ◌==◌, ◌<◌, ◌≤◌, nat_le, Bool, true, false, cond, List, [], ◌∷◌, get_or, Option, Some, None, refl, sym, ap, subst, arith}
use Rattle.std.specs.Prelude.{All}
use Rattle.std.specs.List.{Contains, count_by}
use Rattle.std.specs.Option.{option_or, option_map}
use Rattle.std.proofs.lemmas.Bool.Decides.{nat_tests}
use Rattle.std.proofs.lemmas.List.Elements.{All-filter, All-contains_itself}
use Rattle.cue_records.specs.declared.row_values.ColourRow.{ColourRow}
use Rattle.page_epoch.proofs.CountLaws.{count_cons, count_none}
use Rattle.page_epoch.proofs.ListLaws.{filter_agree, filter_none}
use Rattle.page_epoch.specs.EpochStates.{version_of_count, changed_version}
use Rattle.page_epoch.specs.SentCluts.{row_at, rows_of_clut, is_of_entry, rows_of_entry, latest_place, by_tick, defined_rows, is_changed, clut_version, rows_from}
use Rattle.page_epoch.specs.declared.clut_rows.Entry.{Entry}
use Rattle.shown_plan.proofs.Steps.ClutRows.{AreSeenRows, latest_none, latest_greatest, row_changes, changed_row, defined_own, row_defined}
use Rattle.shown_plan.proofs.Pictures.ColourRows.{latest_of, colour_at, given_latest, latest_kept}
use Rattle.shown_plan.proofs.Segments.Lists.{all_at, kept_one, kept_pass}
use Rattle.shown_plan.proofs.Pictures.SentColours.{is_sent_row}

-- ---- what is sent

-- a CLUT that changes is sent
pub changes_send : (colours : List ColourRow) (whole : Bool) (clut tick : ℕ) (earlier : List ℕ)
    → AreSeenRows colours clut tick earlier → is_changed colours clut tick ≡ true
    → (place : ℕ) × Contains (rows_from colours whole tick (defined_rows colours clut tick)) place
changes_send colours whole clut tick earlier rows changed =
    let row = changed_row colours clut tick changed in
    let found = row_defined colours clut tick earlier row.0 rows row.1 (omega (arith, row.2)) in
    let own =
    all_at (λ place. Contains (rows_of_clut colours clut) place × ((row_at colours place).tick ≤ tick))
    (defined_rows colours clut tick) found.0 (defined_own colours clut tick) found.1 in
    (found.0, by whole found.0 found.1 (omega (arith, row.2, found.2, own.1)))
  where
    by : (whole : Bool) (place : ℕ) → Contains (defined_rows colours clut tick) place
        → (row_at colours place).tick ≡ tick
        → Contains (rows_from colours whole tick (defined_rows colours clut tick)) place
    by true place there at = there
    by false place there at =
        kept_one (λ place. (row_at colours place).tick == tick) (defined_rows colours clut tick) place there
        (grind (arith, nat_tests))

-- a normal set sends no CLUT that does not change
pub still_not_sent : (colours : List ColourRow) (clut tick : ℕ) → is_changed colours clut tick ≡ false
    → rows_from colours false tick (defined_rows colours clut tick) ≡ []
still_not_sent colours clut tick still =
    filter_none (λ place. (row_at colours place).tick == tick) (defined_rows colours clut tick)
    (λ k d within. by (get_or (defined_rows colours clut tick) k d)
    ((row_at colours (get_or (defined_rows colours clut tick) k d)).tick == tick) refl
    (defined_own colours clut tick k d within).0)
  where
    by : (place : ℕ) (b : Bool) → ((row_at colours place).tick == tick) ≡ b
        → Contains (rows_of_clut colours clut) place → ((row_at colours place).tick == tick) ≡ false
    by place false e there = e
    by place true e there =
        (let at : (row_at colours place).tick ≡ tick = grind (arith, nat_tests) in let no : true
        ≡ false = sym (row_changes colours clut tick place there at) ∙ still in absurd (cc))

-- ---- versions

counted : {X : Type 0} (p : X → Bool) (xs : List X) (x : X) → Contains xs x → p x ≡ true → 1 ≤ count_by p xs
counted p [] x there pass = absurd (omega (arith, there.1))
counted {X} p (first ∷ xs) x (zero, within, is) pass =
    (let same : first ≡ x = is in let one : cond {A = ℕ} (p first) 1 0
    ≡ 1 = ap (λ b. cond {A = ℕ} b 1 0) (ap p same ∙ pass) in omega (arith, count_cons p first xs, one))
counted p (first ∷ xs) x (suc k, within, is) pass =
    omega (arith, count_cons p first xs, counted p xs x (k, omega (arith, within), is) pass)

-- a CLUT that changed has the version that is sent
pub version_known : (colours : List ColourRow) (clut time : ℕ) (seen : List ℕ) → Contains seen time
    → is_changed colours clut time ≡ true
    → changed_version colours seen clut ≡ Some (clut_version colours clut seen)
version_known colours clut time seen there changed =
    let some = counted (is_changed colours clut) seen time there changed in
    let test : (count_by (is_changed colours clut) seen == 0) ≡ false = grind (arith, nat_tests) in
    ap (λ b. cond b None (Some ((count_by (is_changed colours clut) seen - 1) % 16))) test

-- one that has rows by a tick has changed
pub defined_known : (colours : List ColourRow) (clut tick place : ℕ) (earlier : List ℕ)
    → AreSeenRows colours clut tick earlier → Contains (defined_rows colours clut tick) place
    → changed_version colours (tick ∷ earlier) clut ≡ Some (clut_version colours clut (tick ∷ earlier))
defined_known colours clut tick place earlier rows there =
    let own =
    all_at (λ place. Contains (rows_of_clut colours clut) place × ((row_at colours place).tick ≤ tick))
    (defined_rows colours clut tick) place (defined_own colours clut tick) there in
    version_known colours clut (row_at colours place).tick (tick ∷ earlier)
    (all_at (λ place. (row_at colours place).tick ≤ tick → Contains (tick ∷ earlier) (row_at colours place).tick)
    (rows_of_clut colours clut) place rows.seen own.0 own.1)
    (row_changes colours clut (row_at colours place).tick place own.0 refl)

-- and one that has none has not
pub undefined_unknown : (colours : List ColourRow) (clut tick : ℕ) (earlier : List ℕ)
    → AreSeenRows colours clut tick earlier → defined_rows colours clut tick ≡ []
    → changed_version colours (tick ∷ earlier) clut ≡ None
undefined_unknown colours clut tick earlier rows none =
    ap version_of_count
    (count_none (is_changed colours clut) (tick ∷ earlier)
    (λ k d within. by (get_or (tick ∷ earlier) k d) (is_changed colours clut (get_or (tick ∷ earlier) k d))
    refl (rows.before k d within)))
  where
    by : (time : ℕ) (b : Bool) → is_changed colours clut time ≡ b → time ≤ tick
        → is_changed colours clut time ≡ false
    by time false e by_then = e
    by time true e by_then =
        (let row = changed_row colours clut time e in
        let found = row_defined colours clut tick earlier row.0 rows row.1 (omega (arith, row.2, by_then)) in
        let there : Contains {X = ℕ} [] found.0 = subst (λ (places : List ℕ). Contains places found.0) none found.1
        in
        absurd (omega (arith, there.1)))

-- ---- the latest rows, one instant on

-- between two instants no row comes
abbrev pub AreBetween : List ColourRow → ℕ → ℕ → ℕ → Type 0
AreBetween colours clut before tick =
    All (λ place. (row_at colours place).tick ≤ tick → ((row_at colours place).tick ≡ tick)
    ⊎ ((row_at colours place).tick ≤ before)) (rows_of_clut colours clut)

-- an instant that follows another one, as a CLUT sees it: no row of it came between them, and all that came are seen
pub record IsNextFor (colours : List ColourRow) (clut tick before : ℕ) (more : List ℕ) : Type 0 where
  pub rise : before < tick
  pub between : AreBetween colours clut before tick
  pub rows : AreSeenRows colours clut tick (before ∷ more)

-- where no row of an entry comes at a tick, its latest row stays
latest_still : (colours : List ColourRow) (clut before tick : ℕ) (entry : Entry) → before < tick
    → AreBetween colours clut before tick
    → All (λ place. (row_at colours place).tick ≢ tick) (rows_of_entry colours clut entry)
    → latest_of colours clut entry tick ≡ latest_of colours clut entry before
latest_still colours clut before tick entry rise between none =
    ap (latest_place colours)
    (filter_agree (λ place. nat_le (row_at colours place).tick tick)
    (λ place. nat_le (row_at colours place).tick before) (rows_of_entry colours clut entry)
    (λ k d within. same (get_or (rows_of_entry colours clut entry) k d) (none k d within)
    (All-filter (λ place. is_of_entry entry (row_at colours place))
    (λ place. (row_at colours place).tick ≤ tick → ((row_at colours place).tick ≡ tick)
    ⊎ ((row_at colours place).tick ≤ before)) (rows_of_clut colours clut) between k d within)))
  where
    same : (place : ℕ) → (row_at colours place).tick ≢ tick
        → ((row_at colours place).tick ≤ tick → ((row_at colours place).tick ≡ tick)
        ⊎ ((row_at colours place).tick ≤ before))
        → nat_le (row_at colours place).tick tick ≡ nat_le (row_at colours place).tick before
    same place other side =
        by (nat_le (row_at colours place).tick tick) (nat_le (row_at colours place).tick before) refl refl
      where
        late : (row_at colours place).tick ≤ tick → before < (row_at colours place).tick → ⊥
        late low high = elim (side low) [ inl at ↦ other at | inr early ↦ absurd (omega arith) ]

        by : (a b : Bool) → nat_le (row_at colours place).tick tick ≡ a
            → nat_le (row_at colours place).tick before ≡ b → a ≡ b
        by true true ea eb = refl
        by false false ea eb = refl
        by true false ea eb = absurd (late (grind (arith, nat_tests)) (grind (arith, nat_tests)))
        by false true ea eb =
            absurd (let low : (row_at colours place).tick ≤ before = grind (arith, nat_tests) in let high : tick
            < (row_at colours place).tick = grind (arith, nat_tests) in omega arith)

-- a CLUT that does not change keeps all latest rows
pub latest_unchanged : (colours : List ColourRow) (clut before tick : ℕ) (entry : Entry) → before < tick
    → AreBetween colours clut before tick → is_changed colours clut tick ≡ false
    → latest_of colours clut entry tick ≡ latest_of colours clut entry before
latest_unchanged colours clut before tick entry rise between still =
    latest_still colours clut before tick entry rise between
    (λ k d within
    at. (let there = own_entry k d within in let no : true
    ≡ false = sym (row_changes colours clut tick (get_or (rows_of_entry colours clut entry) k d) there at)
    ∙ still in absurd (cc)))
  where
    own_entry : All (Contains (rows_of_clut colours clut)) (rows_of_entry colours clut entry)
    own_entry =
        All-filter (λ place. is_of_entry entry (row_at colours place)) (Contains (rows_of_clut colours clut))
        (rows_of_clut colours clut) (All-contains_itself (rows_of_clut colours clut))

-- what a set gives an entry, upon what it had, is what its latest row gives
pub given_upon : (colours : List ColourRow) (whole : Bool) (clut before tick : ℕ) (entry : Entry) → before < tick
    → AreBetween colours clut before tick
    → option_or (given_latest colours (is_sent_row colours whole tick) (latest_of colours clut entry tick))
    (option_map (colour_at colours) (latest_of colours clut entry before))
    ≡ option_map (colour_at colours) (latest_of colours clut entry tick)
given_upon colours whole clut before tick entry rise between = by whole (latest_of colours clut entry tick) refl
  where
    none_at : (found : Option ℕ) → latest_of colours clut entry tick ≡ found
        → ((place : ℕ) → found ≡ Some place → (row_at colours place).tick ≢ tick)
        → All (λ place. (row_at colours place).tick ≢ tick) (rows_of_entry colours clut entry)
    none_at found is other k d within at =
        (let low : nat_le (row_at colours (get_or (rows_of_entry colours clut entry) k d)).tick tick
        ≡ true = grind (arith, nat_tests) in
        let listed =
        kept_one (λ place. nat_le (row_at colours place).tick tick) (rows_of_entry colours clut entry)
        (get_or (rows_of_entry colours clut entry) k d)
        (All-contains_itself (rows_of_entry colours clut entry) k d within) low in
        latest found is other (get_or (rows_of_entry colours clut entry) k d) listed at)
      where
        latest : (found : Option ℕ) → latest_of colours clut entry tick ≡ found
            → ((place : ℕ) → found ≡ Some place → (row_at colours place).tick ≢ tick) → (place : ℕ)
            → Contains (by_tick colours tick (rows_of_entry colours clut entry)) place
            → (row_at colours place).tick ≡ tick → ⊥
        latest None is other place listed at =
            (let there : Contains {X = ℕ} [] place = subst (λ (places : List ℕ). Contains places place)
            (latest_none colours (by_tick colours tick (rows_of_entry colours clut entry)) is) listed in absurd
            (omega (arith, there.1)))
        latest (Some top) is other place listed at =
            (let high = all_at (λ place. (row_at colours place).tick ≤ (row_at colours top).tick)
            (by_tick colours tick (rows_of_entry colours clut entry)) place
            (latest_greatest colours (by_tick colours tick (rows_of_entry colours clut entry)) top is) listed in
            let low : (row_at colours top).tick ≤ tick =
            latest_kept colours (λ place. (row_at colours place).tick ≤ tick)
            (by_tick colours tick (rows_of_entry colours clut entry)) top
            (λ k d within. (let short : nat_le
            (row_at colours (get_or (by_tick colours tick (rows_of_entry colours clut entry)) k d)).tick tick
            ≡ true = kept_pass (λ place. nat_le (row_at colours place).tick tick)
            (rows_of_entry colours clut entry) k d within in grind (arith, nat_tests))) is in
            other top refl (omega (arith, high, low, at)))

    stays : (found : Option ℕ) → latest_of colours clut entry tick ≡ found
        → ((place : ℕ) → found ≡ Some place → (row_at colours place).tick ≢ tick)
        → latest_of colours clut entry before ≡ found
    stays found is other =
        sym (latest_still colours clut before tick entry rise between (none_at found is other)) ∙ is

    by : (whole : Bool) (found : Option ℕ) → latest_of colours clut entry tick ≡ found
        → option_or (given_latest colours (is_sent_row colours whole tick) (latest_of colours clut entry tick))
        (option_map (colour_at colours) (latest_of colours clut entry before))
        ≡ option_map (colour_at colours) (latest_of colours clut entry tick)
    by whole None is = rw (is, stays None is (λ place e. absurd (cc))) refl
    by true (Some place) is = rw is refl
    by false (Some place) is = sent ((row_at colours place).tick == tick) refl
      where
        sent : (b : Bool) → ((row_at colours place).tick == tick) ≡ b
            → option_or (given_latest colours (is_sent_row colours false tick) (latest_of colours clut entry tick))
            (option_map (colour_at colours) (latest_of colours clut entry before))
            ≡ option_map (colour_at colours) (latest_of colours clut entry tick)
        sent true e = rw (is, e) refl
        sent false e =
            (let same = stays (Some place) is
            (λ other found
            at. (let this : place ≡ other = cc in let here : (row_at colours place).tick
            ≡ tick = ap (λ (p : ℕ). (row_at colours p).tick) this ∙ at in absurd (grind (arith, nat_tests))))
            in rw (is, e, same) refl)
