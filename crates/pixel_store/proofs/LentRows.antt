-- A row whose bytes alone were lent, and came back changed.
use Rattle.std.proofs.Common.{◌≡◌, ◌≢◌, ◌∙◌, refl, sym, ap, subst, inl, inr, ℕ, suc, ◌+◌, ◌-◌, ◌/◌, ◌%◌, ◌<◌, ◌≤◌, ◌⊎◌, List, length, get_or, take, drop, length-take, length-drop, arith}
use Rattle.std.proofs.lemmas.Bool.{cases_order}
use Rattle.std.proofs.lemmas.List.{get_or-take, get_or-drop, get_or-append_right}
use Rattle.std.proofs.lemmas.Nat.{row_fits_turned}
use Rattle.std.proofs.lemmas.Slice.{take-put_mid_below, take-put_mid, drop-put_mid}
use borrow.Rule.Slice.PartMut.{mid_of, put_mid}
use Rattle.string_painting.specs.Codes.{codes_in_byte, code_in, packed_code}
use Rattle.string_painting.specs.Painting.{code_after, LaysPixels}
use Rattle.pixel_store.specs.declared.extent.Extent.{Extent}
use Rattle.pixel_store.specs.Private.Extents.{stride_of, room_of, row_start, pixel, Fits}
use Rattle.pixel_store.specs.Private.Painting.{KeepsRows, LaysRow}
use Rattle.pixel_store.proofs.Rows.{row_inside, column-below, wide_enough, other_row}

-- nothing changed
pub KeepsRows-none : (extent : Extent) (y : ℕ) (xs : List ℕ) → KeepsRows extent y xs xs
KeepsRows-none extent y xs = record {
  others = λ x row column below differs. refl;
  beside = λ x row right column below. refl;
  untouched = λ i where_it_is. refl;
}

-- `ys` now stand in the place of `k` bytes from `a` on
module _ (a k : ℕ) (xs ys : List ℕ) (inside : a + k ≤ length xs) (long : length ys ≡ k) where
  lent_before : (i : ℕ) → i < a → get_or (put_mid a k xs ys) i 0 ≡ get_or xs i 0
  lent_before i h =
      sym (get_or-take (suc i) (put_mid a k xs ys) i 0 (omega arith))
      ∙ ap (λ (l : List ℕ). get_or l i 0) (take-put_mid_below a k xs ys (suc i) h (omega arith))
      ∙ get_or-take (suc i) xs i 0 (omega arith)

  lent_behind : (i : ℕ) → a + k ≤ i → get_or (put_mid a k xs ys) i 0 ≡ get_or xs i 0
  lent_behind i h =
      let on : i + 0 ≡ i = omega arith in
      ap (λ (n : ℕ). get_or (put_mid a k xs ys) n 0) (sym on) ∙ sym (get_or-drop i (put_mid a k xs ys) 0 0)
      ∙ ap (λ (l : List ℕ). get_or l 0 0) (drop-put_mid a k xs ys i h (omega arith) long)
      ∙ get_or-drop i xs 0 0 ∙ ap (λ (n : ℕ). get_or xs n 0) on

  lent_inside : (j : ℕ) → j < k → get_or (put_mid a k xs ys) (a + j) 0 ≡ get_or ys j 0
  lent_inside j h =
      let first : length (take a xs) ≡ a = omega (arith, length-take a xs, inside) in
      let on : a + j - a ≡ j = omega arith in
      sym (get_or-take (a + k) (put_mid a k xs ys) (a + j) 0 (omega arith))
      ∙ ap (λ (l : List ℕ). get_or l (a + j) 0)
      (take-put_mid a k xs ys (a + k) (omega (arith, long)) (omega (arith, inside)))
      ∙ get_or-append_right (take a xs) ys a (a + j) 0 first (omega arith)
      ∙ ap (λ (n : ℕ). get_or ys n 0) on

  lent_old : (j : ℕ) → j < k → get_or xs (a + j) 0 ≡ get_or (mid_of a k xs) j 0
  lent_old j h = sym (get_or-take k (drop a xs) j 0 h ∙ get_or-drop a xs j 0)

-- they are those of row y
module _ (a k : ℕ) (xs ys : List ℕ) (extent : Extent) (y : ℕ) (fits : Fits xs extent) (low : y < extent.height)
    (a_is : a ≡ row_start extent y) (k_is : k ≡ stride_of extent)
    (same : length ys ≡ length (mid_of a k xs)) where
  ends : a + k ≤ length xs
  ends = omega (arith, a_is, k_is, row_inside xs extent y fits low)

  long : length ys ≡ k
  long = same ∙ omega (arith, length-take k (drop a xs), length-drop a xs, ends)

  here : (x : ℕ) → row_start extent y + x / codes_in_byte extent.depth ≡ a + x / codes_in_byte extent.depth
  here x = ap (λ (n : ℕ). n + x / codes_in_byte extent.depth) (sym a_is)

  in_row : (x : ℕ) → x < room_of extent → x / codes_in_byte extent.depth < k
  in_row x column = omega (arith, k_is, column-below extent x column)

  pub pixel_now : (x : ℕ) → x < room_of extent → pixel (put_mid a k xs ys) extent x y ≡ packed_code extent.depth ys x
  pixel_now x column =
      ap (code_in extent.depth (x % codes_in_byte extent.depth))
      (ap (λ (i : ℕ). get_or (put_mid a k xs ys) i 0) (here x)
      ∙ lent_inside a k xs ys ends long (x / codes_in_byte extent.depth) (in_row x column))

  pub pixel_before : (x : ℕ) → x < room_of extent
      → pixel xs extent x y ≡ packed_code extent.depth (mid_of a k xs) x
  pixel_before x column =
      ap (code_in extent.depth (x % codes_in_byte extent.depth))
      (ap (λ (i : ℕ). get_or xs i 0) (here x)
      ∙ lent_old a k xs ys ends long (x / codes_in_byte extent.depth) (in_row x column))

  -- nothing but columns of the region in that row has changed
  pub lent_keeps : ((x : ℕ) → extent.width ≤ x
      → packed_code extent.depth ys x ≡ packed_code extent.depth (mid_of a k xs) x)
      → KeepsRows extent y xs (put_mid a k xs ys)
  lent_keeps beside = record {
    others = others;
    beside = λ x row right column below. elim (cases_order row y) [
      | inl e ↦ subst (λ (n : ℕ). pixel (put_mid a k xs ys) extent x n ≡ pixel xs extent x n) (sym e)
          (pixel_now x column ∙ beside x right ∙ sym (pixel_before x column))
      | inr differ ↦ other_row extent y x row xs (put_mid a k xs ys) untouched column differ
    ];
    untouched = λ i where_it_is. untouched i (elim where_it_is [
      | inl l ↦ inl (omega (arith, l))
      | inr r ↦ inr
          (omega (arith, r, row_fits_turned y (stride_of extent) (stride_of extent) extent.height low (omega arith)))
    ]);
  } where
    untouched : (i : ℕ) → (i < row_start extent y) ⊎ (row_start extent y + stride_of extent ≤ i)
        → get_or (put_mid a k xs ys) i 0 ≡ get_or xs i 0
    untouched i where_it_is = elim where_it_is [
      | inl l ↦ lent_before a k xs ys ends long i (omega (arith, l, a_is))
      | inr r ↦ lent_behind a k xs ys ends long i (omega (arith, r, a_is, k_is))
    ]

    others : (x row : ℕ) → x < room_of extent → row < extent.height → row ≢ y
        → pixel (put_mid a k xs ys) extent x row ≡ pixel xs extent x row
    others x row column below differs = elim (cases_order row y) [
      | inl e ↦ absurd (differs e)
      | inr differ ↦ other_row extent y x row xs (put_mid a k xs ys) untouched column differ
    ]

  -- pixels that were laid over the bytes that were lent are laid over the row
  pub lent_laid : (over : ℕ → ℕ → ℕ) (start : ℕ) (pixels : List ℕ)
      → LaysPixels extent.depth over extent.width start pixels (mid_of a k xs) ys
      → LaysRow extent y over start pixels xs (put_mid a k xs ys)
  lent_laid over start pixels lays x column below =
      let inside : x < room_of extent = omega (arith, column, wide_enough extent) in
      pixel_now x inside ∙ lays.within x column
      ∙ ap (code_after over start pixels x) (sym (pixel_before x inside))
