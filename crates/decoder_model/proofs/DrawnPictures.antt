-- What an object whose fields draw a picture writes to a region: each pixel of the picture in its place.
use Rattle.std.proofs.Common.{◌∷◌, ◌≤◌, ◌≡◌, ◌∙◌, ℕ, ◌+◌, ◌*◌, ◌/◌, ◌<◌, Bool, ◌⊎◌, inl, inr, List, [], length, get_or, Option, None, sym, ap, subst, arith}
use Rattle.std.specs.List.{AllByRecursion}
use Rattle.std.proofs.lemmas.List.Elements.{recursion_from_All}
use Rattle.std.specs.Option.{option_or}
use Rattle.sub_base.specs.Picture.{Picture, IsPicture, row_of, code_at, top_field, bottom_field, every_second_row, IsRow}
use Rattle.sub_base.specs.declared.depth.Depth.{Depth}
use Rattle.sub_base.proofs.PictureLaws.{length-every_second_row, get_or-every_second_row, IsRow-row_of, get_or-row_of, All-every_second_row}
use Rattle.stream_syntax.specs.FieldBlocks.{DrawsRows}
use Rattle.stream_syntax.specs.PixelBlocks.{Part, runs_after}
use Rattle.stream_syntax.specs.declared.region.Listing.{Listing}
use Rattle.decoder_model.specs.Pixels.{bottom_parts, code_by_field, code_by_listing}
use Rattle.decoder_model.proofs.DrawnLines.{left_by, row_at, in_rows, beside_rows, beside_columns}
use Rattle.decoder_model.proofs.Searches.{option_or-none}

-- the sub-blocks of an object's two fields draw a picture in a region of a depth
pub record FieldsDraw (depth : Depth) (top bottom : List Part) (picture : Picture) : Type 0 where
  pub top_rows : DrawsRows 0 (runs_after depth [] top) (top_field picture)
  pub bottom_rows : DrawsRows 0 (runs_after depth [] (bottom_parts top bottom)) (bottom_field picture)

-- a row of a field is as wide as the picture
width_of_row : (picture : Picture) → IsPicture picture → (y : ℕ) → y < picture.height
    → length (row_of picture y) ≡ picture.width
width_of_row picture is_picture y inside = (IsRow-row_of picture is_picture y inside).whole

even_or_odd : (y : ℕ) → (y ≡ 2 * (y / 2)) ⊎ (y ≡ 1 + 2 * (y / 2))
even_or_odd y = grind arith

-- a pixel of a row of a field: the field's rows are every second one from a first one on
in_field : (see_through : Bool) (listing : Listing) (first_row k x i : ℕ) (depth : Depth) (parts : List Part)
    (picture : Picture) (rows : List (List ℕ)) → IsPicture picture
    → DrawsRows 0 (runs_after depth [] parts) rows → k < length rows
    → get_or rows k [] ≡ row_of picture (first_row + 2 * k) → first_row + 2 * k < picture.height
    → x ≡ listing.x + i → i < picture.width → (y : ℕ) → y ≡ listing.y + (first_row + 2 * k)
    → code_by_field see_through listing first_row x y (runs_after depth [] parts)
    ≡ left_by see_through (code_at picture i (first_row + 2 * k))
in_field see_through listing first_row k x i depth parts picture rows is_picture drawn within row_is inside column
    narrow y at =
    let wide : i < length (get_or rows k []) =
    subst (λ (row : List ℕ). i < length row) (sym row_is)
    (omega (arith, width_of_row picture is_picture (first_row + 2 * k) inside)) in
    let place : y ≡ row_at listing first_row (0 + k) = omega arith in
    in_rows see_through listing first_row x y 0 k i (runs_after depth [] parts) rows drawn within place column wide
    ∙ ap (λ (row : List ℕ). left_by see_through (get_or row i 0)) row_is
    ∙ ap (left_by see_through) (get_or-row_of picture i (first_row + 2 * k) 0 narrow)

-- each pixel of the picture is written to its place from the listing's corner on
pub in_picture : (see_through : Bool) (listing : Listing) (depth : Depth) (top bottom : List Part) (picture : Picture)
    → IsPicture picture → FieldsDraw depth top bottom picture
    → (i j x y : ℕ) → i < picture.width → j < picture.height → x ≡ listing.x + i → y ≡ listing.y + j
    → code_by_listing depth see_through top bottom x y listing ≡ left_by see_through (code_at picture i j)
in_picture see_through listing depth top bottom picture is_picture draws i j x y narrow low column row =
    by (even_or_odd j)
  where
    by_field : ℕ → List Part → Option ℕ
    by_field first_row parts = code_by_field see_through listing first_row x y (runs_after depth [] parts)

    by : (j ≡ 2 * (j / 2)) ⊎ (j ≡ 1 + 2 * (j / 2))
        → code_by_listing depth see_through top bottom x y listing ≡ left_by see_through (code_at picture i j)
    by (inl even) =
        let k = j / 2 in
        let same : 0 + 2 * k ≡ j = omega arith in
        let inside : 0 + 2 * k < picture.height = omega arith in
        let within : k < length (top_field picture) = omega (arith, length-every_second_row picture 0) in
        let none : code_by_field see_through listing 1 x y (runs_after depth [] (bottom_parts top bottom)) ≡ None
        = beside_rows see_through listing 1 x y 0 (runs_after depth [] (bottom_parts top bottom)) (bottom_field picture)
        draws.bottom_rows (λ m below e. omega (arith, e, row, even)) in
        ap (λ found. option_or found (code_by_field see_through listing 0 x y (runs_after depth [] top))) none
        ∙ in_field see_through listing 0 k x i depth top picture (top_field picture) is_picture draws.top_rows within
        (get_or-every_second_row picture 0 k [] inside) inside column narrow y (omega arith)
        ∙ ap (λ n. left_by see_through (code_at picture i n)) same
    by (inr odd) =
        let k = j / 2 in
        let same : 1 + 2 * k ≡ j = omega arith in
        let inside : 1 + 2 * k < picture.height = omega arith in
        let within : k < length (bottom_field picture) = omega (arith, length-every_second_row picture 1) in
        let none : code_by_field see_through listing 0 x y (runs_after depth [] top) ≡ None
        = beside_rows see_through listing 0 x y 0 (runs_after depth [] top) (top_field picture) draws.top_rows
        (λ m below e. omega (arith, e, row, odd)) in
        ap (λ found. option_or
        (code_by_field see_through listing 1 x y (runs_after depth [] (bottom_parts top bottom))) found) none
        ∙ option_or-none (code_by_field see_through listing 1 x y (runs_after depth [] (bottom_parts top bottom)))
        ∙ in_field see_through listing 1 k x i depth (bottom_parts top bottom) picture (bottom_field picture)
        is_picture draws.bottom_rows within (get_or-every_second_row picture 1 k [] inside) inside column narrow y
        (omega arith)
        ∙ ap (λ n. left_by see_through (code_at picture i n)) same

-- ---- outside

field_wide : (picture : Picture) → IsPicture picture → (first : ℕ)
    → AllByRecursion (λ row. length row ≡ picture.width) (every_second_row picture first)
field_wide picture is_picture first =
    by (every_second_row picture first)
    (recursion_from_All (IsRow picture) (every_second_row picture first)
    (All-every_second_row picture is_picture first))
  where
    by : (rows : List (List ℕ)) → AllByRecursion (IsRow picture) rows
        → AllByRecursion (λ row. length row ≡ picture.width) rows
    by [] h = tt
    by (row ∷ rows) h = (h.0.whole, by rows h.1)

-- a place outside a picture that stands at a listing
pub data IsOutside (picture : Picture) (listing : Listing) (x y : ℕ) : Type 0 where
  left_of : x < listing.x → IsOutside picture listing x y
  right_of : listing.x + picture.width ≤ x → IsOutside picture listing x y
  above : y < listing.y → IsOutside picture listing x y
  below : listing.y + picture.height ≤ y → IsOutside picture listing x y

both_none : (depth : Depth) (see_through : Bool) (top bottom : List Part) (listing : Listing) (x y : ℕ)
    → code_by_field see_through listing 1 x y (runs_after depth [] (bottom_parts top bottom)) ≡ None
    → code_by_field see_through listing 0 x y (runs_after depth [] top) ≡ None
    → code_by_listing depth see_through top bottom x y listing ≡ None
both_none depth see_through top bottom listing x y second first =
    ap (λ found. option_or found (code_by_field see_through listing 0 x y (runs_after depth [] top))) second ∙ first

-- nothing is written outside the picture
pub outside_picture : (see_through : Bool) (listing : Listing) (depth : Depth) (top bottom : List Part)
    (picture : Picture) → IsPicture picture → FieldsDraw depth top bottom picture → (x y : ℕ)
    → IsOutside picture listing x y
    → code_by_listing depth see_through top bottom x y listing ≡ None
outside_picture see_through listing depth top bottom picture is_picture draws x y (left_of h) =
    both_none depth see_through top bottom listing x y
    (beside_columns see_through listing 1 x y 0 picture.width (runs_after depth [] (bottom_parts top bottom))
    (bottom_field picture) draws.bottom_rows (field_wide picture is_picture 1) (inl h))
    (beside_columns see_through listing 0 x y 0 picture.width (runs_after depth [] top) (top_field picture)
    draws.top_rows (field_wide picture is_picture 0) (inl h))
outside_picture see_through listing depth top bottom picture is_picture draws x y (right_of h) =
    both_none depth see_through top bottom listing x y
    (beside_columns see_through listing 1 x y 0 picture.width (runs_after depth [] (bottom_parts top bottom))
    (bottom_field picture) draws.bottom_rows (field_wide picture is_picture 1) (inr h))
    (beside_columns see_through listing 0 x y 0 picture.width (runs_after depth [] top) (top_field picture)
    draws.top_rows (field_wide picture is_picture 0) (inr h))
outside_picture see_through listing depth top bottom picture is_picture draws x y (above h) =
    both_none depth see_through top bottom listing x y
    (beside_rows see_through listing 1 x y 0 (runs_after depth [] (bottom_parts top bottom)) (bottom_field picture)
    draws.bottom_rows (λ k within e. omega (arith, e)))
    (beside_rows see_through listing 0 x y 0 (runs_after depth [] top) (top_field picture) draws.top_rows
    (λ k within e. omega (arith, e)))
outside_picture see_through listing depth top bottom picture is_picture draws x y (below h) =
    both_none depth see_through top bottom listing x y
    (beside_rows see_through listing 1 x y 0 (runs_after depth [] (bottom_parts top bottom)) (bottom_field picture)
    draws.bottom_rows (λ k within e. omega (arith, e, length-every_second_row picture 1)))
    (beside_rows see_through listing 0 x y 0 (runs_after depth [] top) (top_field picture) draws.top_rows
    (λ k within e. omega (arith, e, length-every_second_row picture 0)))
