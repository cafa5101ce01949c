use Rattle.std.proofs.Common.{◌≡◌, ◌∙◌, refl, sym, ap, subst, inl, inr, ℕ, ◌+◌, ◌-◌, ◌*◌, ◌<◌, ◌≤◌, ◌⊎◌, Bool, true, false, ◌&&◌, ◌==◌, if◌then◌else◌, List, length, get_or, All, mul_comm, arith}
use Rattle.std.proofs.lemmas.List.Elements.{All-get_or, All-from_get_or}
use Rattle.sub_base.specs.declared.depth.Depth.{Depth}
use Rattle.sub_base.specs.Depth.{code_count}
use Rattle.sub_base.specs.Picture.{Picture, IsPicture, code_at, row_of, picture_of}
use Rattle.sub_base.proofs.PictureLaws.{IsRow-row_of, get_or-row_of}
use Rattle.indexed_picture.specs.Painting.{LiesWithin, code_over, IsPainted, PaintsRow}

-- the first n rows of `over` were painted
pub record RowsPainted (under over : Picture) (x y : ℕ) (see_through : Bool) (n : ℕ) (new : Picture) : Type 0 where
  pub width : new.width ≡ under.width
  pub height : new.height ≡ under.height
  pub depth : new.depth ≡ under.depth
  pub is_picture : IsPicture new
  pub covered : (column row : ℕ) → column < over.width → row < n →
      code_at new (x + column) (y + row)
      ≡ code_over see_through (code_at under (x + column) (y + row)) (code_at over column row)
  pub outside : (column row : ℕ) → column < under.width → row < under.height →
      (column < x) ⊎ (x + over.width ≤ column) ⊎ (row < y) ⊎ (y + n ≤ row) →
      code_at new column row ≡ code_at under column row

pub RowsPainted-none : (under over : Picture) (x y : ℕ) (see_through : Bool) → IsPicture under
    → RowsPainted under over x y see_through 0 under
RowsPainted-none under over x y see_through is_picture = record {
  width = refl;
  height = refl;
  depth = refl;
  is_picture = is_picture;
  covered = λ column row _ below. absurd (omega arith);
  outside = λ column row _ _ _. refl;
}

pub IsPainted-from_rows : (under over : Picture) (x y : ℕ) (see_through : Bool) (new : Picture) →
    RowsPainted under over x y see_through over.height new → IsPainted under over x y see_through new
IsPainted-from_rows under over x y see_through new rows = record {
  width = rows.width;
  height = rows.height;
  depth = rows.depth;
  covered = rows.covered;
  outside = rows.outside;
}

-- an earlier row ends before a later one begins
pub row_before : (width row later : ℕ) → row < later → row * width + width ≤ later * width
row_before width row later before =
    let gap = later - (row + 1) in
    let split : row + 1 + gap ≡ later = omega arith in
    subst (λ (n : ℕ). row * width + width ≤ n * width) split (grind arith)

pub lt_or_le : (a b : ℕ) → (a < b) ⊎ (b ≤ a)
lt_or_le a b = grind arith

-- a place that is not in the part of a row lies before it or after it
pub beside : (width x across y column row : ℕ) → x + across ≤ width → column < width →
    (column < x) ⊎ (x + across ≤ column) ⊎ (row < y) ⊎ (y + 1 ≤ row) →
    (row * width + column < y * width + x) ⊎ (y * width + x + across ≤ row * width + column)
beside width x across y column row fits inside where_it_lies =
    elim (lt_or_le row y) [
      | inl above ↦ inl (omega (arith, row_before width row y above))
      | inr not_above ↦ elim (lt_or_le y row) [
        | inl below ↦ inr (omega (arith, row_before width y row below))
        | inr not_below ↦
            let same : row ≡ y = omega arith in
            let at : row * width ≡ y * width = ap (λ (n : ℕ). n * width) same in
            elim where_it_lies [
              | inl left ↦ inl (omega arith)
              | inr others ↦ elim others [
                | inl right ↦ inr (omega arith)
                | inr none ↦ elim none [ inl above ↦ absurd (omega arith) | inr below ↦ absurd (omega arith) ]
              ]
            ]
      ]
    ]

cond-below : (test : Bool) (m a b : ℕ) → a < m → b < m → (if test then a else b) < m
cond-below test m a b below_a below_b =
    elim test as (λ t. (if t then a else b) < m) [ true ↦ below_a | false ↦ below_b ]

-- one more row painted, on the codes of a picture of these sides
module _ (under over : Picture) (x y : ℕ) (see_through : Bool) (fits : LiesWithin over under x y)
    (is_over : IsPicture over)
    (n : ℕ) (more : n < over.height) (width height : ℕ) (depth : Depth) (codes new_codes row : List ℕ)
    (rows : RowsPainted under over x y see_through n (picture_of width height depth codes))
    (is_row : row ≡ row_of over n)
    (same_length : length new_codes ≡ length codes)
    (paints : PaintsRow row ((y + n) * width + x) see_through codes new_codes) where
  length_row : length row ≡ over.width
  length_row = ap length is_row ∙ (IsRow-row_of over is_over n more).whole

  within : x + over.width ≤ width
  within = omega (arith, rows.width, fits.across)

  covered_then : (column r : ℕ) → column < over.width → r < n + 1 →
      get_or new_codes ((y + r) * width + (x + column)) 0
      ≡ code_over see_through (code_at under (x + column) (y + r)) (code_at over column r)
  covered_then column r across below =
      elim (lt_or_le r n) [
        | inl earlier ↦
            let place : (y + r) * width + (x + column) < (y + n) * width + x =
            omega (arith, within, row_before width (y + r) (y + n) (omega arith)) in
            paints.outside ((y + r) * width + (x + column)) (inl place) ∙ rows.covered column r across earlier
        | inr not_earlier ↦
            let this : r ≡ n = omega arith in
            let place : (y + n) * width + (x + column) ≡ (y + n) * width + x + column = omega arith in
            let beneath : get_or codes ((y + n) * width + x + column) 0 ≡ code_at under (x + column) (y + n) =
            ap (λ (p : ℕ). get_or codes p 0) (sym place)
            ∙ rows.outside (x + column) (y + n) (omega (arith, fits.across)) (omega (arith, fits.down))
            (inr (inr (inr (omega arith)))) in
            let above : get_or row column 0 ≡ code_at over column n =
            ap (λ (l : List ℕ). get_or l column 0) is_row ∙ get_or-row_of over column n 0 across in
            let P : ℕ
            → Type 0 = λ k. get_or new_codes ((y + k) * width + (x + column)) 0
            ≡ code_over see_through (code_at under (x + column) (y + k)) (code_at over column k) in
            subst P (sym this)
            (ap (λ (p : ℕ). get_or new_codes p 0) place
            ∙ paints.covered column (omega (arith, length_row))
            ∙ ap (λ (code : ℕ). code_over see_through code (get_or row column 0)) beneath
            ∙ ap (λ (code : ℕ). code_over see_through (code_at under (x + column) (y + n)) code) above)
      ]

  outside_then : (column r : ℕ) → column < under.width → r < under.height →
      (column < x) ⊎ (x + over.width ≤ column) ⊎ (r < y) ⊎ (y + (n + 1) ≤ r) →
      get_or new_codes (r * width + column) 0 ≡ code_at under column r
  outside_then column r inside high where_it_lies =
      let now : (column < x) ⊎ (x + over.width ≤ column) ⊎ (r < y + n) ⊎ (y + n + 1 ≤ r) =
      grind (arith, where_it_lies) in
      let beside_all : (column < x) ⊎ (x + over.width ≤ column) ⊎ (r < y) ⊎ (y + n ≤ r) =
      grind (arith, where_it_lies) in
      let apart : (r * width + column < (y + n) * width + x)
      ⊎ ((y + n) * width + x + length row ≤ r * width + column) =
      rw length_row (beside width x over.width (y + n) column r within (omega (arith, rows.width)) now) in
      paints.outside (r * width + column) apart ∙ rows.outside column r inside high beside_all

  each_then : All (λ code. code < code_count depth) new_codes
  each_then = All-from_get_or (λ code. code < code_count depth) new_codes 0
      (λ p inside.
      let old : get_or codes p 0 < code_count depth =
      All-get_or (λ code. code < code_count depth) codes p 0 (omega (arith, same_length)) rows.is_picture.each in
      elim (lt_or_le p ((y + n) * width + x)) [
        | inl before ↦ rw (paints.outside p (inl before)) old
        | inr not_before ↦ elim (lt_or_le p ((y + n) * width + x + length row)) [
          | inr after ↦ rw (paints.outside p (inr after)) old
          | inl covered ↦
              let k = p - ((y + n) * width + x) in
              let place : (y + n) * width + x + k ≡ p = omega arith in
              let short : k < length row = omega arith in
              let P : ℕ → Type 0 =
              λ q. get_or codes q 0 < code_count depth → get_or new_codes q 0 < code_count depth in
              let code : get_or row k 0 < code_count over.depth =
              All-get_or (λ code. code < code_count over.depth) row k 0 short
              (subst (All (λ code. code < code_count over.depth)) (sym is_row) (IsRow-row_of over is_over n more).each)
              in
              let not_deeper : code_count over.depth ≤ code_count depth =
              subst (λ (d : Depth). code_count over.depth ≤ code_count d) (sym rows.depth) fits.not_deeper in
              subst P place
              (λ beneath. rw (paints.covered k short)
              (cond-below (see_through && get_or row k 0 == 1) (code_count depth) _ _ beneath (omega arith)))
              old
        ]
      ])

  pub RowsPainted-more : RowsPainted under over x y see_through (n + 1) (picture_of width height depth new_codes)
  RowsPainted-more = record {
    width = rows.width;
    height = rows.height;
    depth = rows.depth;
    is_picture = record {
      wide = rows.is_picture.wide;
      high = rows.is_picture.high;
      full = same_length ∙ rows.is_picture.full;
      each = each_then;
    };
    covered = covered_then;
    outside = outside_then;
  }

  -- the row ends within the codes
  pub row_ends : (y + n) * width + x + length row ≤ length codes
  row_ends =
      let last : y + n < height = omega (arith, rows.height, fits.down) in
      omega (
        arith,
        length_row,
        within,
        rows.is_picture.full,
        mul_comm width height,
        row_before width (y + n) height
            last,
      )
