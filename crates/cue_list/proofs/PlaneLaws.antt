-- Laws of painting rows on a plane of colours.
use Rattle.std.proofs.Common.{Bool, ◌≡◌, ◌∙◌, sym, ap, subst, inl, inr, ℕ, ◌+◌, ◌*◌, ◌<◌, ◌≤◌, ◌⊎◌, List, length, get_or, arith}
use Rattle.indexed_picture.proofs.PaintingLaws.{beside, row_before, lt_or_le}
use Rattle.sub_base.specs.Colour.{clear}
use Rattle.sub_base.specs.Picture.{Picture, IsPicture, code_at, row_of}
use Rattle.sub_base.specs.declared.colour.Colour.{Colour}
use Rattle.sub_base.proofs.PictureLaws.{IsRow-row_of, get_or-row_of}
use Rattle.cue_records.specs.declared.region.Region.{Region}
use Rattle.cue_list.specs.Planes.{plane_at, colour_over, SetsRow, SetsAll, PaintsRows, FillsRows}

-- one more row of a region got the colour
module _ (colour : Colour) (region : Region) (width height n : ℕ) (old plane new : List Colour)
    (within : region.x + region.width ≤ width) (rows : FillsRows colour region width height n old plane)
    (sets : SetsAll colour ((region.y + n) * width + region.x) region.width plane new) where
  filled_then : (column row : ℕ) → column < region.width → row < n + 1
      → plane_at new width (region.x + column) (region.y + row) ≡ colour
  filled_then column row across below =
      elim (lt_or_le row n) [
        | inl earlier ↦
            let place : (region.y + row) * width + (region.x + column) < (region.y + n) * width + region.x =
            omega (arith, row_before width (region.y + row) (region.y + n) (omega arith)) in
            sets.outside ((region.y + row) * width + (region.x + column)) (inl place)
            ∙ rows.covered column row across earlier
        | inr not_earlier ↦
            let this : row ≡ n = omega arith in
            let place : (region.y + n) * width + (region.x + column) ≡ (region.y + n) * width + region.x + column =
            omega arith in
            let P : ℕ → Type 0 = λ k. get_or new ((region.y + k) * width + (region.x + column)) clear ≡ colour in
            subst P (sym this) (ap (λ (p : ℕ). get_or new p clear) place ∙ sets.covered column across)
      ]

  around_then : (column row : ℕ) → column < width → row < height →
      (column < region.x) ⊎ (region.x + region.width ≤ column) ⊎ (row < region.y)
      ⊎ (region.y + (n + 1) ≤ row) →
      plane_at new width column row ≡ plane_at old width column row
  around_then column row inside high where_it_lies =
      let now : (column < region.x) ⊎ (region.x + region.width ≤ column) ⊎ (row < region.y + n)
      ⊎ (region.y + n + 1 ≤ row) = grind (arith, where_it_lies) in
      let before : (column < region.x) ⊎ (region.x + region.width ≤ column) ⊎ (row < region.y)
      ⊎ (region.y + n ≤ row) = grind (arith, where_it_lies) in
      sets.outside (row * width + column)
      (beside width region.x region.width (region.y + n) column row within inside now)
      ∙ rows.outside column row inside high before

  pub FillsRows-more : FillsRows colour region width height (n + 1) old new
  FillsRows-more = record { covered = filled_then; outside = around_then }

-- one more row of a picture painted
module _ (entries : List Colour) (picture : Picture) (left top : ℕ) (see_through : Bool) (width n : ℕ)
    (old plane new : List Colour)
    (within : left + picture.width ≤ width) (is_picture : IsPicture picture) (more : n < picture.height)
    (rows : (height : ℕ) → PaintsRows entries picture left top see_through width height n old plane)
    (codes : List ℕ) (is_row : codes ≡ row_of picture n)
    (sets : SetsRow entries codes ((top + n) * width + left) see_through plane new) where
  length_codes : length codes ≡ picture.width
  length_codes = ap length is_row ∙ (IsRow-row_of picture is_picture n more).whole

  -- the next row is as it was
  untouched : (column : ℕ) → column < picture.width
      → plane_at plane width (left + column) (top + n) ≡ plane_at old width (left + column) (top + n)
  untouched column across =
      (rows (top + n + 1)).outside (left + column) (top + n) (omega arith) (omega arith) (inr (inr (inr (omega arith))))

  painted_then : (column row : ℕ) → column < picture.width → row < n + 1 →
      plane_at new width (left + column) (top + row)
      ≡ colour_over entries see_through (code_at picture column row)
      (plane_at old width (left + column) (top + row))
  painted_then column row across below =
      elim (lt_or_le row n) [
        | inl earlier ↦
            let place : (top + row) * width + (left + column) < (top + n) * width + left =
            omega (arith, row_before width (top + row) (top + n) (omega arith)) in
            sets.outside ((top + row) * width + (left + column)) (inl place)
            ∙ (rows 0).covered column row across earlier
        | inr not_earlier ↦
            let this : row ≡ n = omega arith in
            let place : (top + n) * width + (left + column) ≡ (top + n) * width + left + column = omega arith in
            let P : ℕ
            → Type 0 = λ k. get_or new ((top + k) * width + (left + column)) clear
            ≡ colour_over entries see_through (code_at picture column k)
            (plane_at old width (left + column) (top + k)) in
            let code : get_or codes column 0 ≡ code_at picture column n =
            ap (λ (l : List ℕ). get_or l column 0) is_row ∙ get_or-row_of picture column n 0 across in
            subst P (sym this)
            (ap (λ (p : ℕ). get_or new p clear) place
            ∙ sets.covered column (omega (arith, length_codes))
            ∙ ap (λ (k : ℕ). colour_over entries see_through k
            (get_or plane ((top + n) * width + left + column) clear)) code
            ∙ ap (λ (p : ℕ). colour_over entries see_through (code_at picture column n) (get_or plane p clear))
            (sym place)
            ∙ ap (λ (colour : Colour). colour_over entries see_through (code_at picture column n) colour)
            (untouched column across))
      ]

  left_then : (height column row : ℕ) → column < width → row < height →
      (column < left) ⊎ (left + picture.width ≤ column) ⊎ (row < top) ⊎ (top + (n + 1) ≤ row) →
      plane_at new width column row ≡ plane_at old width column row
  left_then height column row inside high where_it_lies =
      let now : (column < left) ⊎ (left + picture.width ≤ column) ⊎ (row < top + n) ⊎ (top + n + 1 ≤ row) =
      grind (arith, where_it_lies) in
      let before : (column < left) ⊎ (left + picture.width ≤ column) ⊎ (row < top) ⊎ (top + n ≤ row) =
      grind (arith, where_it_lies) in
      let apart : (row * width + column < (top + n) * width + left)
      ⊎ ((top + n) * width + left + length codes ≤ row * width + column) =
      rw length_codes (beside width left picture.width (top + n) column row within inside now) in
      sets.outside (row * width + column) apart ∙ (rows height).outside column row inside high before

  pub PaintsRows-more : (height : ℕ) → PaintsRows entries picture left top see_through width height (n + 1) old new
  PaintsRows-more height = record { covered = painted_then; outside = left_then height }
