-- The fields of the generated pictures have short blocks.
use Rattle.std.proofs.Common.{◌≡◌, ◌∙◌, ℕ, zero, suc, ◌+◌, ◌*◌, ◌<◌, ◌≤◌, ◌⊎◌, inl, inr, arith, List, [], ◌∷◌, ◌++◌, length, map, get_or, take, drop, refl, sym, ap, subst}
use Rattle.std.specs.Prelude.{flat_map, All}
use Rattle.std.specs.List.{range_with_len}
use Rattle.std.proofs.Math.Seq.{take-append_seam, drop-append_seam}
use Rattle.std.proofs.lemmas.Bool.{cases_lt}
use Rattle.std.proofs.lemmas.List.{drop-drop}
use Rattle.std.proofs.lemmas.List.Elements.{All-head, All-tail, All-map}
use Rattle.std.proofs.lemmas.List.FromFn.{length-range_with_len, get_or-range_with_len}
use Rattle.sub_base.specs.Picture.{HasEqualFields, row_of, top_field, bottom_field}
use Rattle.sub_base.specs.declared.depth.Depth.TheVariants.{Four}
use Rattle.stream_syntax.specs.PixelCodes.{IsRowSize}
use Rattle.stream_syntax.specs.FieldBlocks.{AreRowSizes, IsFieldSize, AreFieldSizes}
use Rattle.sub_base.proofs.PictureLaws.{length-every_second_row}
use Rattle.generated_script.specs.Generated.{generated_row, generated_picture}
use Rattle.generated_script_laws.proofs.GeneratedRows.{row_short}

-- of rows of one width that stand one after another, the row at a place is the one of that number
row_there : (row : ℕ → List ℕ) (width : ℕ) → ((y : ℕ) → length (row y) ≡ width)
    → (from count place : ℕ)
    → place < count →
    take width (drop (place * width) (flat_map row (range_with_len from count))) ≡ row (from + place)
row_there row width wide from zero place h = absurd (omega arith)
row_there row width wide from (suc count) zero h =
    let none : 0 * width ≡ 0 = omega arith in
    let first : from + 0 ≡ from = omega arith in
    let rest = flat_map row (range_with_len (from + 1) count) in
    ap (λ (n : ℕ). take width (drop n (row from ++ rest))) none
    ∙ ap (λ (n : ℕ). take n (row from ++ rest)) (sym (wide from))
    ∙ take-append_seam (row from) rest
    ∙ ap row (sym first)
row_there row width wide from (suc count) (suc place) h =
    let rest = flat_map row (range_with_len (from + 1) count) in
    let past : suc place * width ≡ width + place * width = grind arith in
    let on : from + 1 + place ≡ from + suc place = omega arith in
    ap (λ (n : ℕ). take width (drop n (row from ++ rest))) past
    ∙ ap (take width) (sym (drop-drop (place * width) width (row from ++ rest)))
    ∙ ap (λ (n : ℕ). take width (drop (place * width) (drop n (row from ++ rest)))) (sym (wide from))
    ∙ ap (λ (xs : List ℕ). take width (drop (place * width) xs)) (drop-append_seam (row from) rest)
    ∙ row_there row width wide (from + 1) count place (omega arith)
    ∙ ap row on

-- a row of the picture of cue k
abbrev IsRowOfCue : ℕ → List ℕ → Type 0
IsRowOfCue k row = (y : ℕ) × (row ≡ generated_row k y)

-- it is 64 pixels wide
wide_row : (k y : ℕ) → length (generated_row k y) ≡ 64
wide_row k y = refl

-- row y of the picture is the generated one
own_row : (k y : ℕ) → y < 32 → row_of (generated_picture k) y ≡ generated_row k y
own_row k y h = row_there (generated_row k) 64 (wide_row k) 0 32 y h
    ∙ ap (generated_row k) (let e : 0 + y ≡ y = omega arith in e)

-- such rows have at most 19 bytes each
rows_short : (k : ℕ) (rows : List (List ℕ)) (sum : ℕ) → All (IsRowOfCue k) rows → AreRowSizes Four rows sum
    → sum ≤ 19 * length rows
rows_short k [] sum all p = omega (arith, p)
rows_short k (row ∷ rows) sum all p =
    let here = All-head (IsRowOfCue k) row rows all in
    let one = row_short k here.0 p.0 (subst (λ (r : List ℕ). IsRowSize Four r p.0) here.1 p.2) in
    omega (arith, one, p.4, rows_short k rows p.1 (All-tail (IsRowOfCue k) row rows all) p.3)

-- and so has the block of a field of them
field_short : (k : ℕ) (rows : List (List ℕ)) (size : ℕ) → 0 < length rows → All (IsRowOfCue k) rows
    → IsFieldSize Four Four rows size → size ≤ 19 * length rows
field_short k [] size some all p = absurd (omega arith)
field_short k (row ∷ rows) size some all p = omega (arith, p.2, rows_short k (row ∷ rows) p.0 all p.1)

-- each row of a field is a row of the picture
own_rows : (k first count : ℕ) → first + 2 * count ≤ 33
    → All (IsRowOfCue k) (map (λ j. row_of (generated_picture k) (first + 2 * j)) (range_with_len 0 count))
own_rows k first count h =
    All-map (IsRowOfCue k) (λ j. row_of (generated_picture k) (first + 2 * j)) (range_with_len 0 count)
    (λ n d below.
    let place = get_or (range_with_len 0 count) n d in
    let at = get_or-range_with_len 0 count n d (omega (arith, below, length-range_with_len 0 count)) in
    (first + 2 * place, own_row k (first + 2 * place) (omega (arith, at, h, below, length-range_with_len 0 count))))

-- the block of the top field has at most 304 bytes
top_short : (k size : ℕ) → IsFieldSize Four Four (top_field (generated_picture k)) size → size ≤ 304
top_short k size p =
    let count = length-every_second_row (generated_picture k) 0 in
    omega (
      arith,
      count,
      field_short k (top_field (generated_picture k)) size (omega (arith, count))
          (own_rows k 0 16 (omega arith)) p,
    )

-- and so has that of the bottom field
bottom_short : (k size : ℕ) → IsFieldSize Four Four (bottom_field (generated_picture k)) size → size ≤ 304
bottom_short k size p =
    let count = length-every_second_row (generated_picture k) 1 in
    omega (
      arith,
      count,
      field_short k (bottom_field (generated_picture k)) size (omega (arith, count))
          (own_rows k 1 16 (omega arith)) p,
    )

-- the blocks of both fields have at most 304 bytes each; where the fields are equal, the bottom one has none
pub fields_short : (k top bottom : ℕ) → AreFieldSizes (generated_picture k) Four top bottom
    → (top ≤ 304) × (bottom ≤ 304)
fields_short k top bottom p = (top_short k top p.top_size, by (cases_lt 304 bottom))
  where
    by : (304 < bottom) ⊎ (bottom ≤ 304) → bottom ≤ 304
    by (inr few) = few
    by (inl many) =
        let other : HasEqualFields (generated_picture k) → ⊥ = λ same. omega (arith, p.shared same, many) in
        absurd (omega (arith, many, bottom_short k bottom (p.own other)))
