-- A plane given by its rows.
use Rattle.std.proofs.Common.{◌≡◌, ◌∙◌, refl, sym, ap, subst, zero, suc, ℕ, ◌+◌, ◌*◌, ◌/◌, ◌%◌, ◌<◌, List, ◌++◌, length, get_or, map, mul_comm, div-add-mod', div-lt_iff_lt-mul, arith}
use Rattle.std.specs.List.{flat_map, range_with_len}
use Rattle.std.proofs.lemmas.List.{length-append, get_or_append_left, get_or-append-add, ext_get_or}
use Rattle.std.proofs.lemmas.List.FromFn.{length-map-range_with_len, get_or-map-range_with_len}

-- a row is not empty where there is a place
wide_enough : (p width height : ℕ) → p < height * width → 0 < width
wide_enough p zero height within = absurd (omega arith)
wide_enough p (suc width) height within = omega arith

module _ {X : Type 0} (f : ℕ → ℕ → X) (width : ℕ) where
  -- the places of a row
  abbrev row_from : ℕ → List X
  row_from y = map (λ x. f x y) (range_with_len 0 width)

  length-row_from : (y : ℕ) → length (row_from y) ≡ width
  length-row_from y = length-map-range_with_len (λ x. f x y) 0 width

  length-rows : (first n : ℕ) → length (flat_map row_from (range_with_len first n)) ≡ n * width
  length-rows first zero = let none : 0 * width ≡ 0 = omega arith in rw none refl
  length-rows first (suc n) =
      let more : (suc n) * width ≡ width + n * width = grind arith in
      length-append (row_from first) (flat_map row_from (range_with_len (first + 1) n))
      ∙ ap (λ (k : ℕ). k + length (flat_map row_from (range_with_len (first + 1) n))) (length-row_from first)
      ∙ ap (λ (k : ℕ). width + k) (length-rows (first + 1) n) ∙ sym more

  get_or-rows : (first n x y : ℕ) (d : X) → x < width → y < n
      → get_or (flat_map row_from (range_with_len first n)) (y * width + x) d ≡ f x (first + y)
  get_or-rows first zero x y d across down = absurd (omega arith)
  get_or-rows first (suc n) x zero d across down =
      let here : 0 * width + x ≡ x = omega arith in
      let row : first + 0 ≡ first = omega arith in
      ap (λ (k : ℕ). get_or (row_from first ++ flat_map row_from (range_with_len (first + 1) n)) k d) here
      ∙ get_or_append_left (row_from first) (flat_map row_from (range_with_len (first + 1) n)) d x
      (omega (arith, length-row_from first))
      ∙ get_or-map-range_with_len (λ x. f x first) 0 width x x d across (omega arith) ∙ ap (f x) (sym row)
  get_or-rows first (suc n) x (suc y) d across down =
      let past : (suc y) * width + x ≡ length (row_from first) + (y * width + x) =
      grind (arith, length-row_from first) in
      let row : first + 1 + y ≡ first + suc y = omega arith in
      ap (λ (k : ℕ). get_or (row_from first ++ flat_map row_from (range_with_len (first + 1) n)) k d) past
      ∙ get_or-append-add (row_from first) (flat_map row_from (range_with_len (first + 1) n)) (y * width + x) d
      ∙ get_or-rows (first + 1) n x y d across (omega arith) ∙ ap (f x) row

  -- a plane is the one of these rows where it has their length, and each place is that of its row
  pub plane_is : (height : ℕ) (d : X) (plane : List X) → length plane ≡ width * height →
      ((x y : ℕ) → x < width → y < height → get_or plane (y * width + x) d ≡ f x y) →
      plane ≡ flat_map (λ y. map (λ x. f x y) (range_with_len 0 width)) (range_with_len 0 height)
  plane_is height d plane full each =
      ext_get_or d plane (flat_map row_from (range_with_len 0 height))
      (full ∙ mul_comm width height ∙ sym (length-rows 0 height))
      (λ p inside.
      let within : p < height * width = omega (arith, full, mul_comm width height) in
      let wide : 0 < width = wide_enough p width height within in
      let place : p / width * width + p % width ≡ p = div-add-mod' p width in
      let across : p % width < width = omega arith in
      let down : p / width < height = (div-lt_iff_lt-mul wide).1 within in
      let Q : ℕ → Type 0 = λ q. get_or plane q d ≡ get_or (flat_map row_from (range_with_len 0 height)) q d in
      subst Q place
      (each (p % width) (p / width) across down
      ∙ ap (f (p % width)) (let at : p / width ≡ 0 + p / width = omega arith in at)
      ∙ sym (get_or-rows 0 height (p % width) (p / width) d across down)))
