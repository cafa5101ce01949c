use Rattle.std.proofs.Common.{zero, suc, ◌≡◌, ◌∙◌, refl, sym, ap, subst, ℕ, ◌+◌, ◌-◌, ◌*◌, ◌/◌, ◌<◌, ◌≤◌, List, [], ◌∷◌, ◌++◌, length, map, take, drop, get_or, append-nil, mul_comm, All, length-drop, take_all, arith}
use Rattle.std.specs.List.{range_with_len, concat}
use Rattle.std.proofs.Math.Seq.{take-add}
use Rattle.std.proofs.lemmas.List.{get_or-take, get_or-drop, length-take-le}
use Rattle.std.proofs.lemmas.List.Elements.{All-take, All-drop, All-from_get_or}
use Rattle.std.proofs.lemmas.List.Folds.{concat-append}
use Rattle.std.proofs.lemmas.List.FromFn.{length-map-range_with_len, get_or-map-range_with_len, map-range_with_len_more}
use Rattle.sub_base.specs.Depth.{code_count}
use Rattle.sub_base.specs.Picture.{Picture, IsPicture, IsRow, row_of, rows_of, every_second_row}

-- rows counted from one step later
map-row_of-later : (picture : Picture) (first from n : ℕ) →
    map (λ k. row_of picture (first + 2 * k)) (range_with_len (from + 1) n)
    ≡ map (λ k. row_of picture (first + 2 + 2 * k)) (range_with_len from n)
map-row_of-later picture first from zero = refl
map-row_of-later picture first from (suc n) =
    let same : first + 2 * (from + 1) ≡ first + 2 + 2 * from = omega arith in
    ap {B = List (List ℕ)}
    (λ y. row_of picture y ∷ map (λ k. row_of picture (first + 2 * k)) (range_with_len (from + 1 + 1) n)) same
    ∙ ap {B = List (List ℕ)} (λ rows. row_of picture (first + 2 + 2 * from) ∷ rows)
    (map-row_of-later picture first (from + 1) n)

-- every second row from y on begins with row y, where there is one
pub every_second_row-cons : (picture : Picture) (y : ℕ) → y < picture.height →
    every_second_row picture y ≡ row_of picture y ∷ every_second_row picture (y + 2)
every_second_row-cons picture y inside =
    let count : (picture.height + 1 - y) / 2 ≡ suc ((picture.height + 1 - (y + 2)) / 2) = omega arith in
    let at : y + 2 * 0 ≡ y = omega arith in
    ap {B = List (List ℕ)} (λ n. map (λ k. row_of picture (y + 2 * k)) (range_with_len 0 n)) count
    ∙ ap {B = List (List ℕ)}
    (λ first. row_of picture first
    ∷ map (λ k. row_of picture (y + 2 * k)) (range_with_len 1 ((picture.height + 1 - (y + 2)) / 2))) at
    ∙ ap {B = List (List ℕ)} (λ rows. row_of picture y ∷ rows)
    (map-row_of-later picture y 0 ((picture.height + 1 - (y + 2)) / 2))

-- and there is none below the last row
pub every_second_row-nil : (picture : Picture) (y : ℕ) → picture.height ≤ y → every_second_row picture y ≡ []
every_second_row-nil picture y below =
    let count : (picture.height + 1 - y) / 2 ≡ 0 = omega arith in
    ap {B = List (List ℕ)} (λ n. map (λ k. row_of picture (y + 2 * k)) (range_with_len 0 n)) count

-- how many rows a field has
pub length-every_second_row : (picture : Picture) (first : ℕ)
    → length (every_second_row picture first) ≡ (picture.height + 1 - first) / 2
length-every_second_row picture first =
    length-map-range_with_len (λ k. row_of picture (first + 2 * k)) 0 ((picture.height + 1 - first) / 2)

-- row k of a field
pub get_or-every_second_row : (picture : Picture) (first k : ℕ) (other : List ℕ)
    → first + 2 * k < picture.height →
    get_or (every_second_row picture first) k other ≡ row_of picture (first + 2 * k)
get_or-every_second_row picture first k other inside =
    get_or-map-range_with_len (λ k. row_of picture (first + 2 * k)) 0 ((picture.height + 1 - first) / 2) k k other
    (omega arith) (omega arith)

-- a row ends within the codes
row-within : (picture : Picture) (y : ℕ) → y < picture.height
    → y * picture.width + picture.width ≤ picture.height * picture.width
row-within picture y inside =
    let k = picture.height - (y + 1) in
    let split : picture.height ≡ y + 1 + k = omega arith in
    subst (λ (height : ℕ). y * picture.width + picture.width ≤ height * picture.width) (sym split) (grind arith)

-- row y is a row of the picture
pub IsRow-row_of : (picture : Picture) → IsPicture picture → (y : ℕ) → y < picture.height
    → IsRow picture (row_of picture y)
IsRow-row_of picture is_picture y inside =
    let full = is_picture.full in
    let within : y * picture.width + picture.width ≤ length picture.codes =
    rw (full, mul_comm picture.width picture.height) (row-within picture y inside) in
    record {
      whole =
          length-take-le picture.width (drop (y * picture.width) picture.codes)
          (omega (arith, length-drop (y * picture.width) picture.codes));
      each = All-take (λ code. code < code_count picture.depth) picture.width (drop (y * picture.width) picture.codes)
          (All-drop (λ code. code < code_count picture.depth) (y * picture.width) picture.codes is_picture.each);
    }

-- each row of a field is a row of the picture
pub All-every_second_row : (picture : Picture) → IsPicture picture → (first : ℕ)
    → All (IsRow picture) (every_second_row picture first)
All-every_second_row picture is_picture first =
    All-from_get_or (IsRow picture) (every_second_row picture first) []
    (λ k below.
    let inside : first + 2 * k < picture.height = omega (arith, length-every_second_row picture first) in
    rw (get_or-every_second_row picture first k [] inside) (IsRow-row_of picture is_picture (first + 2 * k) inside))

-- the first rows joined are the first codes
concat-first_rows : (picture : Picture) (n : ℕ)
    → concat (map (row_of picture) (range_with_len 0 n)) ≡ take (n * picture.width) picture.codes
concat-first_rows picture zero = let none : 0 * picture.width ≡ 0 = omega arith in rw none refl
concat-first_rows picture (suc n) =
    let more : (n + 1) * picture.width ≡ n * picture.width + picture.width = grind arith in
    let one : n + 1 ≡ suc n = omega arith in
    let first = map (row_of picture) (range_with_len 0 n) in
    let P : ℕ → Type 0 =
    λ m. concat (map (row_of picture) (range_with_len 0 m)) ≡ take (m * picture.width) picture.codes in
    subst P one
    (ap concat (map-range_with_len_more (row_of picture) 0 n n (omega arith))
    ∙ concat-append first (row_of picture n ∷ [])
    ∙ ap (λ (codes : List ℕ). codes ++ (row_of picture n ++ [])) (concat-first_rows picture n)
    ∙ ap (λ (row : List ℕ). take (n * picture.width) picture.codes ++ row) (append-nil (row_of picture n))
    ∙ sym (take-add (n * picture.width) picture.width picture.codes)
    ∙ ap (λ (m : ℕ). take m picture.codes) (sym more))

-- all rows joined are the codes
pub concat-rows_of : (picture : Picture) → IsPicture picture → concat (rows_of picture) ≡ picture.codes
concat-rows_of picture is_picture =
    concat-first_rows picture picture.height
    ∙ take_all (picture.height * picture.width) picture.codes
    (omega (arith, is_picture.full, mul_comm picture.width picture.height))

-- the code at column x of row y
pub get_or-row_of : (picture : Picture) (x y other : ℕ) → x < picture.width
    → get_or (row_of picture y) x other ≡ get_or picture.codes (y * picture.width + x) other
get_or-row_of picture x y other inside =
    get_or-take picture.width (drop (y * picture.width) picture.codes) x other inside
    ∙ get_or-drop (y * picture.width) picture.codes x other
