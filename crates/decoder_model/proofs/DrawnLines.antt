-- What a field that draws rows of pixels writes to a region: each pixel of a row in its place, and nothing elsewhere in
-- the columns before the row and in other rows.
use Rattle.std.proofs.Common.{◌≡◌, ◌≢◌, ◌∙◌, ℕ, zero, suc, ◌+◌, ◌-◌, ◌*◌, ◌<◌, ◌≤◌, Bool, true, false, not, ◌&&◌, cond, eqb, List, [], ◌∷◌, ◌++◌, length, get_or, Option, Some, None, ◌⊎◌, inl, inr, refl, sym, ap, subst, arith, length-append}
use Rattle.std.specs.Prelude.{replicate}
use Rattle.std.specs.List.{AllByRecursion}
use Rattle.std.specs.Option.{option_or}
use Rattle.std.proofs.Math.ListN.{get_or-append}
use Rattle.std.proofs.lemmas.Bool.{cases_lt}
use Rattle.std.proofs.lemmas.Bool.Decides.{nat_tests}
use Rattle.std.proofs.lemmas.List.{get_or-append_right, get_or-replicate, length-replicate}
use Rattle.stream_syntax.specs.FieldBlocks.{DrawsLine, DrawsRows}
use Rattle.stream_syntax.specs.declared.pixel_run.Run.{Run}
use Rattle.stream_syntax.specs.declared.region.Listing.{Listing}
use Rattle.decoder_model.specs.Pixels.{is_covered, is_changed, code_by_run, code_by_field}
use Rattle.decoder_model.proofs.Searches.{option_or-none, last_given-append}

-- what a pixel that is drawn leaves: its code, but for code 1 of an object that is seen through
abbrev pub left_by : Bool → ℕ → Option ℕ
left_by see_through code = cond (not (see_through && eqb code 1)) (Some code) None

-- the row of a region to which a line of a field belongs
abbrev pub row_at : Listing → ℕ → ℕ → ℕ
row_at listing first_row line = listing.y + 2 * line + first_row

covered : (listing : Listing) (first_row x y : ℕ) (run : Run) → y ≡ row_at listing first_row run.line
    → listing.x + run.x ≤ x → x < listing.x + run.x + run.length → is_covered listing first_row x y run ≡ true
covered listing first_row x y run a b c = grind (arith, nat_tests)

not_covered : (listing : Listing) (first_row x y : ℕ) (run : Run) → x < listing.x + run.x
    → is_covered listing first_row x y run ≡ false
not_covered listing first_row x y run a = grind (arith, nat_tests)

passed : (listing : Listing) (first_row x y : ℕ) (run : Run) → listing.x + run.x + run.length ≤ x
    → is_covered listing first_row x y run ≡ false
passed listing first_row x y run a = grind (arith, nat_tests)

other_row : (listing : Listing) (first_row x y : ℕ) (run : Run) → y ≢ row_at listing first_row run.line
    → is_covered listing first_row x y run ≡ false
other_row listing first_row x y run a = grind (arith, nat_tests)

nothing_by : (see_through : Bool) (listing : Listing) (first_row x y : ℕ) (run : Run)
    → is_covered listing first_row x y run ≡ false → code_by_run see_through listing first_row x y run ≡ None
nothing_by see_through listing first_row x y run e =
    ap (λ b. cond (b && is_changed see_through run) (Some run.code) None) e

left_by_run : (see_through : Bool) (listing : Listing) (first_row x y : ℕ) (run : Run)
    → is_covered listing first_row x y run ≡ true → run.read ≡ run.code
    → code_by_run see_through listing first_row x y run ≡ left_by see_through run.code
left_by_run see_through listing first_row x y run e same =
    ap (λ b. cond (b && is_changed see_through run) (Some run.code) None) e
    ∙ ap (λ read. cond (not (see_through && eqb read 1)) (Some run.code) None) same

-- ---- a line

-- nothing stands before a line's first column
before_line : (see_through : Bool) (listing : Listing) (first_row x y line column : ℕ) (runs : List Run)
    (pixels : List ℕ) → DrawsLine line column runs pixels → x < listing.x + column
    → code_by_field see_through listing first_row x y runs ≡ None
before_line see_through listing first_row x y line column [] pixels d h = refl
before_line see_through listing first_row x y line column (run ∷ runs) pixels d h =
    let here : x < listing.x + run.x = omega (arith, d.1) in
    let rest : x < listing.x + (column + run.length) = omega arith in
    ap (λ found. option_or found (code_by_run see_through listing first_row x y run))
    (before_line see_through listing first_row x y line (column + run.length) runs d.3 d.5 rest)
    ∙ nothing_by see_through listing first_row x y run (not_covered listing first_row x y run here)

-- a line writes nothing to another row
beside_line : (see_through : Bool) (listing : Listing) (first_row x y line column : ℕ) (runs : List Run)
    (pixels : List ℕ) → DrawsLine line column runs pixels → y ≢ row_at listing first_row line
    → code_by_field see_through listing first_row x y runs ≡ None
beside_line see_through listing first_row x y line column [] pixels d h = refl
beside_line see_through listing first_row x y line column (run ∷ runs) pixels d h =
    let here : y ≢ row_at listing first_row run.line =
    subst (λ (n : ℕ). y ≢ row_at listing first_row n) (sym d.0) h in
    ap (λ found. option_or found (code_by_run see_through listing first_row x y run))
    (beside_line see_through listing first_row x y line (column + run.length) runs d.3 d.5 h)
    ∙ nothing_by see_through listing first_row x y run (other_row listing first_row x y run here)

-- each pixel of a line is written to its place
in_line : (see_through : Bool) (listing : Listing) (first_row x y line column i : ℕ) (runs : List Run)
    (pixels : List ℕ) → DrawsLine line column runs pixels → y ≡ row_at listing first_row line
    → x ≡ listing.x + column + i → i < length pixels
    → code_by_field see_through listing first_row x y runs ≡ left_by see_through (get_or pixels i 0)
in_line see_through listing first_row x y line column i [] pixels d row place inside =
    absurd (omega (arith, ap length d))
in_line see_through listing first_row x y line column i (run ∷ runs) pixels d row place inside =
    by (λ j at within. in_line see_through listing first_row x y line (column + run.length) j runs d.3 d.5 row at
    within) (cases_lt i run.length)
  where
    here : y ≡ row_at listing first_row run.line
    here = subst (λ (n : ℕ). y ≡ row_at listing first_row n) (sym d.0) row

    all : length pixels ≡ run.length + length d.3
    all =
        ap length d.4 ∙ length-append (replicate run.length run.code) d.3
        ∙ ap (λ n. n + length d.3) (length-replicate run.length run.code)

    Onward : Type 0
    Onward = (j : ℕ) → x ≡ listing.x + (column + run.length) + j → j < length d.3
        → code_by_field see_through listing first_row x y runs ≡ left_by see_through (get_or d.3 j 0)

    by : Onward → (i < run.length) ⊎ (run.length ≤ i)
        → code_by_field see_through listing first_row x y (run ∷ runs) ≡ left_by see_through (get_or pixels i 0)
    by onward (inl within) =
        let column_is = d.1 in
        let before : x < listing.x + (column + run.length) = omega arith in
        let least : listing.x + run.x ≤ x = omega (arith, column_is) in
        let most : x < listing.x + run.x + run.length = omega (arith, column_is) in
        let pixel : get_or pixels i 0 ≡ run.code =
        ap (λ (row : List ℕ). get_or row i 0) d.4
        ∙ get_or-append (replicate run.length run.code) d.3 0 i
        (rw (length-replicate run.length run.code) within) ∙ get_or-replicate run.length i run.code 0 within in
        ap (λ found. option_or found (code_by_run see_through listing first_row x y run))
        (before_line see_through listing first_row x y line (column + run.length) runs d.3 d.5 before)
        ∙ left_by_run see_through listing first_row x y run (covered listing first_row x y run here least most) d.2
        ∙ ap (left_by see_through) (sym pixel)
    by onward (inr past) =
        let column_is = d.1 in
        let after : listing.x + run.x + run.length ≤ x = omega (arith, column_is) in
        let place_is : x ≡ listing.x + (column + run.length) + (i - run.length) = omega arith in
        let inside_is : i - run.length < length d.3 = omega (arith, all) in
        let pixel : get_or pixels i 0 ≡ get_or d.3 (i - run.length) 0 =
        ap (λ (row : List ℕ). get_or row i 0) d.4
        ∙ get_or-append_right (replicate run.length run.code) d.3 run.length i 0
        (length-replicate run.length run.code) past in
        ap (λ found. option_or (code_by_field see_through listing first_row x y runs) found)
        (nothing_by see_through listing first_row x y run (passed listing first_row x y run after))
        ∙ option_or-none (code_by_field see_through listing first_row x y runs)
        ∙ onward (i - run.length) place_is inside_is
        ∙ ap (left_by see_through) (sym pixel)

-- ---- the rows of a field

-- what a field writes is what its lines write
along : (see_through : Bool) (listing : Listing) (first_row x y : ℕ) (runs front rest : List Run)
    → runs ≡ front ++ rest
    → code_by_field see_through listing first_row x y runs
    ≡ option_or (code_by_field see_through listing first_row x y rest)
    (code_by_field see_through listing first_row x y front)
along see_through listing first_row x y runs front rest e =
    ap (code_by_field see_through listing first_row x y) e
    ∙ last_given-append (code_by_run see_through listing first_row x y) front rest

-- nothing is written to a row of which the field has no line
pub beside_rows : (see_through : Bool) (listing : Listing) (first_row x y line : ℕ) (runs : List Run)
    (rows : List (List ℕ)) → DrawsRows line runs rows
    → ((k : ℕ) → k < length rows → y ≢ row_at listing first_row (line + k))
    → code_by_field see_through listing first_row x y runs ≡ None
beside_rows see_through listing first_row x y line runs [] d h = ap (code_by_field see_through listing first_row x y) d
beside_rows see_through listing first_row x y line runs (row ∷ rows) d h =
    let here : y ≢ row_at listing first_row line =
    λ e. h 0 (omega arith) (e ∙ ap (row_at listing first_row) (omega arith)) in
    let more : (k : ℕ) → k < length rows → y ≢ row_at listing first_row (line + 1 + k) =
    λ k inside e. h (k + 1) (omega arith) (e ∙ ap (row_at listing first_row) (omega arith)) in
    along see_through listing first_row x y runs d.0 d.1 d.2
    ∙ ap (λ found. option_or found (code_by_field see_through listing first_row x y d.0))
    (beside_rows see_through listing first_row x y (line + 1) d.1 rows d.4 more)
    ∙ beside_line see_through listing first_row x y line 0 d.0 row d.3 here

-- each pixel of each row is written to its place
pub in_rows : (see_through : Bool) (listing : Listing) (first_row x y line k i : ℕ) (runs : List Run)
    (rows : List (List ℕ)) → DrawsRows line runs rows
    → k < length rows → y ≡ row_at listing first_row (line + k) → x ≡ listing.x + i
    → i < length (get_or rows k [])
    → code_by_field see_through listing first_row x y runs ≡ left_by see_through (get_or (get_or rows k []) i 0)
in_rows see_through listing first_row x y line k i runs [] d row_in row place inside = absurd (omega arith)
in_rows see_through listing first_row x y line zero i runs (row_codes ∷ rows) d row_in row place inside =
    let same : y ≡ row_at listing first_row line = row ∙ ap (row_at listing first_row) (omega arith) in
    let later : (k : ℕ) → k < length rows → y ≢ row_at listing first_row (line + 1 + k) =
    λ k within e. omega (arith, e, same) in
    along see_through listing first_row x y runs d.0 d.1 d.2
    ∙ ap (λ found. option_or found (code_by_field see_through listing first_row x y d.0))
    (beside_rows see_through listing first_row x y (line + 1) d.1 rows d.4 later)
    ∙ in_line see_through listing first_row x y line 0 i d.0 row_codes d.3 same (omega arith) inside
in_rows see_through listing first_row x y line (suc k) i runs (row_codes ∷ rows) d row_in row place inside =
    let next : y ≡ row_at listing first_row (line + 1 + k) = row ∙ ap (row_at listing first_row) (omega arith) in
    let other : y ≢ row_at listing first_row line = λ e. omega (arith, e, next) in
    along see_through listing first_row x y runs d.0 d.1 d.2
    ∙ ap (λ found. option_or (code_by_field see_through listing first_row x y d.1) found)
    (beside_line see_through listing first_row x y line 0 d.0 row_codes d.3 other)
    ∙ option_or-none (code_by_field see_through listing first_row x y d.1)
    ∙ in_rows see_through listing first_row x y (line + 1) k i d.1 rows d.4 (omega arith) next place inside

-- ---- outside

-- nothing stands behind a line's last column
pub after_line : (see_through : Bool) (listing : Listing) (first_row x y line column : ℕ) (runs : List Run)
    (pixels : List ℕ) → DrawsLine line column runs pixels → listing.x + column + length pixels ≤ x
    → code_by_field see_through listing first_row x y runs ≡ None
after_line see_through listing first_row x y line column [] pixels d h = refl
after_line see_through listing first_row x y line column (run ∷ runs) pixels d h =
    let all : length pixels ≡ run.length + length d.3 =
    ap length d.4 ∙ length-append (replicate run.length run.code) d.3
    ∙ ap (λ n. n + length d.3) (length-replicate run.length run.code) in
    let column_is = d.1 in
    let here : listing.x + run.x + run.length ≤ x = omega (arith, column_is) in
    let rest : listing.x + (column + run.length) + length d.3 ≤ x = omega arith in
    ap (λ found. option_or found (code_by_run see_through listing first_row x y run))
    (after_line see_through listing first_row x y line (column + run.length) runs d.3 d.5 rest)
    ∙ nothing_by see_through listing first_row x y run (passed listing first_row x y run here)

outside_line : (see_through : Bool) (listing : Listing) (first_row x y line : ℕ) (runs : List Run)
    (pixels : List ℕ) → DrawsLine line 0 runs pixels → (x < listing.x) ⊎ (listing.x + length pixels ≤ x)
    → code_by_field see_through listing first_row x y runs ≡ None
outside_line see_through listing first_row x y line runs pixels d (inl before) =
    before_line see_through listing first_row x y line 0 runs pixels d (omega arith)
outside_line see_through listing first_row x y line runs pixels d (inr after) =
    after_line see_through listing first_row x y line 0 runs pixels d (omega arith)

-- nothing is written to columns beside rows of a width
pub beside_columns : (see_through : Bool) (listing : Listing) (first_row x y line width : ℕ) (runs : List Run)
    (rows : List (List ℕ)) → DrawsRows line runs rows → AllByRecursion (λ row. length row ≡ width) rows
    → (x < listing.x) ⊎ (listing.x + width ≤ x) → code_by_field see_through listing first_row x y runs ≡ None
beside_columns see_through listing first_row x y line width runs [] d wide side =
    ap (code_by_field see_through listing first_row x y) d
beside_columns see_through listing first_row x y line width runs (row ∷ rows) d wide side =
    along see_through listing first_row x y runs d.0 d.1 d.2
    ∙ ap (λ found. option_or found (code_by_field see_through listing first_row x y d.0))
    (beside_columns see_through listing first_row x y (line + 1) width d.1 rows d.4 wide.1 side)
    ∙ outside_line see_through listing first_row x y line d.0 row d.3
    (subst (λ (w : ℕ). (x < listing.x) ⊎ (listing.x + w ≤ x)) (sym wide.0) side)
