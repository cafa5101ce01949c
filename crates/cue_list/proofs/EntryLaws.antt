-- Laws of the colours of a CLUT's entries, row by row.
use Rattle.std.proofs.Common.{◌≡◌, ◌∙◌, ◌⊎◌, inl, inr, refl, sym, ap, subst, ℕ, ◌+◌, ◌<◌, ◌≤◌, nat_le, ◌==◌, Bool, true, false, ◌&&◌, if◌then◌else◌, List, [], ◌∷◌, ◌++◌, length, get_or, take, drop, filter, Option, Some, None, append-nil, length-append, arith}
use Rattle.std.proofs.lemmas.List.{take-append-drop}
use Rattle.std.proofs.lemmas.Bool.Decides.{nat_tests}
use Rattle.indexed_picture.proofs.PaintingLaws.{lt_or_le}
use Rattle.std.proofs.lemmas.List.Elements.{filter-append, filter_more}
use Rattle.sub_base.specs.Colour.{default_of}
use Rattle.sub_base.specs.Depth.{bits_of}
use Rattle.sub_base.specs.declared.colour.Colour.{Colour}
use Rattle.sub_base.specs.declared.depth.Depth.{Depth}
use Rattle.cue_records.specs.declared.row_values.ColourRow.{ColourRow}
use Rattle.cue_list.specs.Authored.{sets_entry, later_row, latest_row, colour_or_default}
use Rattle.cue_list.specs.Planes.{sets_clut, tick_or_zero, IsEntryAfter}

-- a row and one more row behind it: the later of both, and of equal ticks the last
abbrev renewed : Option ColourRow → ColourRow → ColourRow
renewed None row = row
renewed (Some before) row = if nat_le before.tick row.tick then row else before

-- of three rows the latest, in either order of looking
renewed-later : (first before row : ColourRow)
    → later_row first (Some (renewed (Some before) row)) ≡ renewed (Some (later_row first (Some before))) row
renewed-later first before row = grind (arith, nat_tests)

-- the latest of rows, and of these and one more
pub latest_row-more : (rows : List ColourRow) (row : ColourRow)
    → latest_row (rows ++ row ∷ []) ≡ Some (renewed (latest_row rows) row)
unfolding latest_row
latest_row-more [] row = refl
latest_row-more (first ∷ rows) row =
    ap (λ later. Some (later_row first later)) (latest_row-more rows row)
    ∙ ap Some (joined first row (latest_row rows))
  where
    joined : (first row : ColourRow) (latest : Option ColourRow)
        → later_row first (Some (renewed latest row)) ≡ renewed (Some (later_row first latest)) row
    joined first row None = refl
    joined first row (Some before) = renewed-later first before row

-- a row that is passed over
pub filter-passed : {X : Type 0} (p : X → Bool) (xs : List X) (i : ℕ) (d : X) → i < length xs
    → p (get_or xs i d) ≡ false → filter p (take (i + 1) xs) ≡ filter p (take i xs)
filter-passed p xs i d inside fails =
    filter_more p xs i d inside ∙ ap (λ (l : List _). filter p (take i xs) ++ l) (rw fails refl)
    ∙ append-nil (filter p (take i xs))

-- a row that is taken
pub filter-taken : {X : Type 0} (p : X → Bool) (xs : List X) (i : ℕ) (d : X) → i < length xs
    → p (get_or xs i d) ≡ true → filter p (take (i + 1) xs) ≡ filter p (take i xs) ++ get_or xs i d ∷ []
filter-taken p xs i d inside passes =
    filter_more p xs i d inside ∙ ap (λ (l : List _). filter p (take i xs) ++ l) (rw passes refl)

-- ---- entries

-- a row sets an entry where it sets the CLUT and names the entry
sets_entry-is : (clut : ℕ) (depth : Depth) (entry tick : ℕ) (row : ColourRow)
    → sets_entry clut depth entry tick row ≡ sets_clut clut depth tick row && (row.entry == entry)
sets_entry-is clut depth entry tick row =
    regroup (row.clut == clut) (bits_of row.depth == bits_of depth) (row.entry == entry) (nat_le row.tick tick)
  where
    regroup : (a b c d : Bool) → a && b && c && d ≡ (a && b && d) && c
    regroup false b c d = refl
    regroup true false c d = refl
    regroup true true false false = refl
    regroup true true false true = refl
    regroup true true true false = refl
    regroup true true true true = refl

-- the later of both, by how their ticks stand
renewed-late : (latest : Option ColourRow) (row : ColourRow) → tick_or_zero latest ≤ row.tick
    → renewed latest row ≡ row
renewed-late None row late = refl
renewed-late (Some before) row late = grind (arith, nat_tests)

renewed-early : (latest : Option ColourRow) (row : ColourRow) → row.tick < tick_or_zero latest
    → Some (renewed latest row) ≡ latest
renewed-early None row early = absurd (omega arith)
renewed-early (Some before) row early = ap Some (kept before row early)
  where
    kept : (before row : ColourRow) → row.tick < before.tick → renewed (Some before) row ≡ before
    kept before row early = grind (arith, nat_tests)

module _ (clut : ℕ) (depth : Depth) (tick entry : ℕ) (rows : List ColourRow) (i : ℕ) (other : ColourRow)
    (inside : i < length rows)
    (colour : Colour) (since : ℕ) (before : IsEntryAfter clut depth tick entry (take i rows) colour since) where
  -- after a row that does not set the entry
  pub IsEntryAfter-passed : sets_entry clut depth entry tick (get_or rows i other) ≡ false
      → IsEntryAfter clut depth tick entry (take (i + 1) rows) colour since
  IsEntryAfter-passed fails =
      let P : List ColourRow → Type 0 = λ set. colour ≡ colour_or_default depth entry (latest_row set) in
      let Q : List ColourRow → Type 0 = λ set. since ≡ tick_or_zero (latest_row set) in
      let same = sym (filter-passed (sets_entry clut depth entry tick) rows i other inside fails) in
      record { colour_is = subst P same before.colour_is; since_is = subst Q same before.since_is }

  latest : sets_entry clut depth entry tick (get_or rows i other) ≡ true →
      latest_row (filter (sets_entry clut depth entry tick) (take (i + 1) rows))
      ≡ Some (renewed (latest_row (filter (sets_entry clut depth entry tick) (take i rows))) (get_or rows i other))
  latest passes =
      ap latest_row (filter-taken (sets_entry clut depth entry tick) rows i other inside passes)
      ∙ latest_row-more (filter (sets_entry clut depth entry tick) (take i rows)) (get_or rows i other)

  -- after one that sets it and is not earlier
  pub IsEntryAfter-put : sets_entry clut depth entry tick (get_or rows i other) ≡ true
      → since ≤ (get_or rows i other).tick →
      IsEntryAfter clut depth tick entry (take (i + 1) rows) (get_or rows i other).colour (get_or rows i other).tick
  IsEntryAfter-put passes late =
      let now =
      latest passes
      ∙ ap Some
      (renewed-late (latest_row (filter (sets_entry clut depth entry tick) (take i rows))) (get_or rows i other)
      (omega (arith, before.since_is))) in
      let P : Option ColourRow → Type 0 =
      λ row. (get_or rows i other).colour ≡ colour_or_default depth entry row in
      let Q : Option ColourRow → Type 0 = λ row. (get_or rows i other).tick ≡ tick_or_zero row in
      record { colour_is = subst P (sym now) refl; since_is = subst Q (sym now) refl }

  -- after one that sets it and is earlier
  pub IsEntryAfter-kept : sets_entry clut depth entry tick (get_or rows i other) ≡ true
      → (get_or rows i other).tick < since →
      IsEntryAfter clut depth tick entry (take (i + 1) rows) colour since
  IsEntryAfter-kept passes early =
      let now =
      latest passes
      ∙ renewed-early (latest_row (filter (sets_entry clut depth entry tick) (take i rows))) (get_or rows i other)
      (omega (arith, before.since_is)) in
      let P : Option ColourRow → Type 0 = λ row. colour ≡ colour_or_default depth entry row in
      let Q : Option ColourRow → Type 0 = λ row. since ≡ tick_or_zero row in
      record { colour_is = subst P (sym now) before.colour_is; since_is = subst Q (sym now) before.since_is }

-- before the first row an entry has its default colour
pub IsEntryAfter-none : (clut : ℕ) (depth : Depth) (tick entry : ℕ) (colour : Colour) (since : ℕ)
    → colour ≡ default_of depth entry → since ≡ 0 → IsEntryAfter clut depth tick entry [] colour since
unfolding latest_row
IsEntryAfter-none clut depth tick entry colour since colour_is since_is =
    record { colour_is = colour_is; since_is = since_is }

-- a list has an item that passes
pub filter-some : {X : Type 0} (p : X → Bool) (xs : List X) (i : ℕ) (d : X) → i < length xs
    → p (get_or xs i d) ≡ true → filter p xs ≡ [] → ⊥
filter-some p xs i d inside passes none =
    let more = filter-taken p xs i d inside passes in
    let whole : filter p (take (i + 1) xs) ++ filter p (drop (i + 1) xs) ≡ filter p xs =
    sym (filter-append p (take (i + 1) xs) (drop (i + 1) xs)) ∙ ap (filter p) (take-append-drop (i + 1) xs) in
    let lengths = ap length (whole ∙ none) in
    let longer = ap length more in
    omega (
      arith,
      lengths,
      longer,
      length-append (filter p (take (i + 1) xs))
          (filter p (drop (i + 1) xs)),
      length-append (filter p (take i xs)) (get_or xs i d ∷ []),
    )

-- a row of another CLUT, depth or time sets no entry; of two entries a row sets one
both-no : (a b : Bool) → a ≡ false → a && b ≡ false
both-no a b fails = rw fails refl

both-other : (a b : Bool) → b ≡ false → a && b ≡ false
both-other false b fails = refl
both-other true b fails = fails

both-yes : (a b : Bool) → a ≡ true → b ≡ true → a && b ≡ true
both-yes a b passes also = rw passes also

pub sets_entry-no : (clut : ℕ) (depth : Depth) (entry tick : ℕ) (row : ColourRow)
    → sets_clut clut depth tick row ≡ false → sets_entry clut depth entry tick row ≡ false
sets_entry-no clut depth entry tick row fails =
    sets_entry-is clut depth entry tick row ∙ both-no (sets_clut clut depth tick row) (row.entry == entry) fails

pub sets_entry-other : (clut : ℕ) (depth : Depth) (entry tick : ℕ) (row : ColourRow)
    → (row.entry ≡ entry → ⊥) → sets_entry clut depth entry tick row ≡ false
sets_entry-other clut depth entry tick row other =
    sets_entry-is clut depth entry tick row
    ∙ both-other (sets_clut clut depth tick row) (row.entry == entry) (grind (arith, nat_tests))

pub sets_entry-yes : (clut : ℕ) (depth : Depth) (entry tick : ℕ) (row : ColourRow)
    → sets_clut clut depth tick row ≡ true → row.entry ≡ entry → sets_entry clut depth entry tick row ≡ true
sets_entry-yes clut depth entry tick row passes same =
    sets_entry-is clut depth entry tick row
    ∙ both-yes (sets_clut clut depth tick row) (row.entry == entry) passes (grind (arith, nat_tests))

this_or_other : (a b : ℕ) → (a ≡ b) ⊎ (a ≡ b → ⊥)
this_or_other a b = grind arith

-- what an entry has after one more row, by what became of it
module _ (clut : ℕ) (depth : Depth) (tick entry : ℕ) (rows : List ColourRow) (i : ℕ) (other : ColourRow)
    (inside : i < length rows)
    (colour new_colour : Colour) (since new_since : ℕ)
    (before : IsEntryAfter clut depth tick entry (take i rows) colour since) where
  as_before : IsEntryAfter clut depth tick entry (take (i + 1) rows) colour since → (new_colour ≡ colour)
      × (new_since ≡ since) →
      IsEntryAfter clut depth tick entry (take (i + 1) rows) new_colour new_since
  as_before after same = record { colour_is = same.0 ∙ after.colour_is; since_is = same.1 ∙ after.since_is }

  pub IsEntryAfter-passed_row : sets_clut clut depth tick (get_or rows i other) ≡ false → (new_colour ≡ colour)
      × (new_since ≡ since) →
      IsEntryAfter clut depth tick entry (take (i + 1) rows) new_colour new_since
  IsEntryAfter-passed_row fails same =
      as_before
      (IsEntryAfter-passed clut depth tick entry rows i other inside colour since before
      (sets_entry-no clut depth entry tick (get_or rows i other) fails)) same

  pub IsEntryAfter-row : sets_clut clut depth tick (get_or rows i other) ≡ true →
      (((get_or rows i other).entry ≡ entry → ⊥) → (new_colour ≡ colour) × (new_since ≡ since)) →
      ((get_or rows i other).entry ≡ entry → since ≤ (get_or rows i other).tick
      → (new_colour ≡ (get_or rows i other).colour) × (new_since ≡ (get_or rows i other).tick)) →
      ((get_or rows i other).entry ≡ entry → (get_or rows i other).tick < since → (new_colour ≡ colour)
      × (new_since ≡ since)) →
      IsEntryAfter clut depth tick entry (take (i + 1) rows) new_colour new_since
  IsEntryAfter-row passes same put kept =
      elim (this_or_other (get_or rows i other).entry entry) [
        | inr another ↦
            as_before
            (IsEntryAfter-passed clut depth tick entry rows i other inside colour since before
            (sets_entry-other clut depth entry tick (get_or rows i other) another)) (same another)
        | inl this ↦
            let sets = sets_entry-yes clut depth entry tick (get_or rows i other) passes this in
            elim (lt_or_le (get_or rows i other).tick since) [
              | inl early ↦ as_before
                  (IsEntryAfter-kept clut depth tick entry rows i other inside colour since before sets early)
                  (kept this early)
              | inr late ↦
                  let after =
                  IsEntryAfter-put clut depth tick entry rows i other inside colour since before sets late in
                  record {
                    colour_is = (put this late).0 ∙ after.colour_is;
                    since_is = (put this late).1
                        ∙ after.since_is;
                  }
            ]
      ]
