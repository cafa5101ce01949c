-- Pictures in colours, by rows: where each place has the colour of the code there, the colours are those of the codes;
-- and where each place is clear, all are.
use Rattle.std.proofs.Common.{◌≡◌, ◌∙◌, ℕ, zero, suc, ◌+◌, ◌<◌, List, [], ◌∷◌, ◌++◌, length, map, get_or, refl, sym, ap, subst, arith, All}
use Rattle.std.specs.List.{flat_map, range_with_len, concat}
use Rattle.std.proofs.lemmas.List.{map-append}
use Rattle.std.proofs.lemmas.List.Elements.{All-append, All-map}
use Rattle.sub_base.specs.Colour.{clear}
use Rattle.sub_base.specs.Picture.{Picture, IsPicture, code_at}
use Rattle.sub_base.specs.Picture as pictures
use Rattle.sub_base.specs.declared.colour.Colour.{Colour}
use Rattle.sub_base.proofs.PictureLaws.{IsRow-row_of, get_or-row_of, concat-rows_of}

-- what a function gives along a list's places is what another one gives of its items
along_places : {X : Type 0} (f : ℕ → X) (g : ℕ → X) (xs : List ℕ) (from : ℕ)
    → ((i : ℕ) → i < length xs → f (from + i) ≡ g (get_or xs i 0))
    → map f (range_with_len from (length xs)) ≡ map g xs
along_places f g [] from h = refl
along_places {X} f g (x ∷ xs) from h =
    ap {B = List X} (λ first. first ∷ map f (range_with_len (from + 1) (length xs)))
    (ap f (omega arith) ∙ h 0 (omega arith))
    ∙ ap {B = List X} (λ rest. g x ∷ rest)
    (along_places f g xs (from + 1) (λ i within. ap f (omega arith) ∙ h (suc i) (omega arith)))

-- rows that are the same one by one
pub same_rows : (f g : ℕ → List Colour) (from count : ℕ)
    → ((i : ℕ) → i < count → f (from + i) ≡ g (from + i))
    → flat_map f (range_with_len from count) ≡ flat_map g (range_with_len from count)
same_rows f g from zero h = refl
same_rows f g from (suc count) h =
    ap (λ first. first ++ flat_map f (range_with_len (from + 1) count))
    (ap f (omega arith) ∙ h 0 (omega arith) ∙ ap g (omega arith))
    ∙ ap (λ rest. g from ++ rest)
    (same_rows f g (from + 1) count
    (λ i within. ap f (omega arith) ∙ h (suc i) (omega arith) ∙ ap g (omega arith)))

-- rows of items that a function changes one by one
rows_changed : (g : ℕ → Colour) (row : ℕ → List ℕ) (ys : List ℕ)
    → flat_map (λ y. map g (row y)) ys ≡ map g (concat (map row ys))
rows_changed g row [] = refl
rows_changed g row (y ∷ ys) =
    ap (λ rest. map g (row y) ++ rest) (rows_changed g row ys) ∙ sym (map-append g (row y) (concat (map row ys)))

-- where each place of a row has the colour of the code there, so has the row
row_colours : (picture : Picture) → IsPicture picture
    → (colour_of : ℕ → Colour) (colour_there : ℕ → ℕ → Colour)
    → ((x y : ℕ) → x < picture.width → y < picture.height
    → colour_there x y ≡ colour_of (code_at picture x y))
    → (y : ℕ) → y < picture.height
    → map (λ x. colour_there x y) (range_with_len 0 picture.width) ≡ map colour_of (pictures.row_of picture y)
row_colours picture is_picture colour_of colour_there h y low =
    let wide : length (pictures.row_of picture y) ≡ picture.width = (IsRow-row_of picture is_picture y low).whole in
    subst (λ (width : ℕ). map (λ x. colour_there x y) (range_with_len 0 width)
    ≡ map colour_of (pictures.row_of picture y)) wide
    (along_places (λ x. colour_there x y) colour_of (pictures.row_of picture y) 0
    (λ i within.
    let narrow : i < picture.width = omega arith in
    ap (λ x. colour_there x y) (omega arith) ∙ h i y narrow low
    ∙ ap colour_of (sym (get_or-row_of picture i y 0 narrow))))

-- where each place has the colour of the code there, so have all
pub picture_colours : (picture : Picture) → IsPicture picture
    → (colour_of : ℕ → Colour) (colour_there : ℕ → ℕ → Colour)
    → ((x y : ℕ) → x < picture.width → y < picture.height
    → colour_there x y ≡ colour_of (code_at picture x y))
    → flat_map (λ y. map (λ x. colour_there x y) (range_with_len 0 picture.width))
    (range_with_len 0 picture.height) ≡ map colour_of picture.codes
picture_colours picture is_picture colour_of colour_there h =
    same_rows (λ y. map (λ x. colour_there x y) (range_with_len 0 picture.width))
    (λ y. map colour_of (pictures.row_of picture y)) 0 picture.height
    (λ i low. row_colours picture is_picture colour_of colour_there h (0 + i) (omega arith))
    ∙ rows_changed colour_of (pictures.row_of picture) (range_with_len 0 picture.height)
    ∙ ap (map colour_of) (concat-rows_of picture is_picture)

-- where each place is clear, so are all
pub all_clear : (colour_there : ℕ → ℕ → Colour) → ((x y : ℕ) → colour_there x y ≡ clear)
    → (xs ys : List ℕ) → All (λ colour. colour ≡ clear) (flat_map (λ y. map (λ x. colour_there x y) xs) ys)
all_clear colour_there h xs [] = λ k d within. absurd (omega arith)
all_clear colour_there h xs (y ∷ ys) =
    All-append (λ colour. colour ≡ clear) (map (λ x. colour_there x y) xs)
    (flat_map (λ y. map (λ x. colour_there x y) xs) ys)
    (All-map (λ colour. colour ≡ clear) (λ x. colour_there x y) xs (λ k d within. h (get_or xs k d) y))
    (all_clear colour_there h xs ys)
