use Rattle.std.proofs.Common.{◌≡◌, ◌≢◌, ◌∙◌, refl, sym, ap, subst, inl, inr, ℕ, ◌+◌, ◌*◌, ◌<◌, ◌≤◌, ◌⊎◌, ℤ, pos, ◌+ℤ◌, ◌-ℤ◌, slice_index_or, true, List, ◌++◌, take, drop, length, get_or, set, get_or-set_same, get_or-set_other, ◌/◌, ◌%◌, replicate, All, mul_comm, div-add-mod', div-lt_iff_lt-mul, arith}
use Rattle.std.proofs.lemmas.Int.{ints}
use Rattle.indexed_picture.proofs.PaintingLaws.{beside, row_before, lt_or_le}
use Rattle.bitmap_font.specs.Font.{GlyphValue, FontValue, is_set}
use Rattle.std.proofs.lemmas.List.{get_or_default, get_or-replicate, take-append-le, take_all}
use Rattle.std.proofs.lemmas.List.Elements.{All-from_get_or}
use Rattle.bitmap_font.specs.Setting.{Drawn, IsInkedBy}
use Rattle.bitmap_font.specs.Drawing.{PaintsWhere, IsInkOfRow, IsInkOfGlyph}

-- nothing was written
pub PaintsWhere-none : (P : ℕ → ℕ → Type 0) (width height ink : ℕ) (codes : List ℕ) →
    ((column row : ℕ) → column < width → row < height → P column row → ⊥)
    → PaintsWhere P width height ink codes codes
PaintsWhere-none P width height ink codes none =
    record { each = λ column row across down. inr (none column row across down, refl) }

-- one after the other
pub PaintsWhere-then : (P Q R : ℕ → ℕ → Type 0) (width height ink : ℕ) (a b c : List ℕ) →
    PaintsWhere P width height ink a b → PaintsWhere Q width height ink b c →
    ((column row : ℕ) → column < width → row < height → P column row ⊎ Q column row → R column row) →
    ((column row : ℕ) → column < width → row < height → R column row → P column row ⊎ Q column row) →
    PaintsWhere R width height ink a c
PaintsWhere-then P Q R width height ink a b c first second into back = record {
  each = λ column row across down.
      elim (second.each column row across down) [
        | inl later ↦ inl (into column row across down (inr later.0), later.1)
        | inr not_later ↦ elim (first.each column row across down) [
          | inl sooner ↦ inl (into column row across down (inl sooner.0), not_later.1 ∙ sooner.1)
          | inr never ↦ inr (
            (λ r. elim (back column row across down r)
                [ inl p ↦ never.0 p | inr q ↦ not_later.0 q ]),
            not_later.1 ∙ never.1,
          )
        ]
      ];
}

-- the same places said otherwise
pub PaintsWhere-same : (P R : ℕ → ℕ → Type 0) (width height ink : ℕ) (a b : List ℕ)
    → PaintsWhere P width height ink a b →
    ((column row : ℕ) → column < width → row < height → P column row → R column row) →
    ((column row : ℕ) → column < width → row < height → R column row → P column row) →
    PaintsWhere R width height ink a b
PaintsWhere-same P R width height ink a b painted into back = record {
  each = λ column row across down.
      elim (painted.each column row across down) [
        | inl inked ↦ inl (into column row across down inked.0, inked.1)
        | inr not_inked ↦ inr ((λ r. not_inked.0 (back column row across down r)), not_inked.1)
      ];
}

-- the place, or beside it
at_or_beside : (x y column row : ℕ) →
    ((column ≡ x) × (row ≡ y)) ⊎ ((column < x) ⊎ (x + 1 ≤ column) ⊎ (row < y) ⊎ (y + 1 ≤ row))
at_or_beside x y column row =
    elim (lt_or_le column x) [
      | inl left ↦ inr (inl left)
      | inr not_left ↦ elim (lt_or_le x column) [
        | inl right ↦ inr (inr (inl (omega arith)))
        | inr not_right ↦ elim (lt_or_le row y) [
          | inl above ↦ inr (inr (inr (inl above)))
          | inr not_above ↦ elim (lt_or_le y row) [
            | inl under ↦ inr (inr (inr (inr (omega arith))))
            | inr not_under ↦ inl (omega arith, omega arith)
          ]
        ]
      ]
    ]

-- one place was written
pub PaintsWhere-place : (width height ink x y : ℕ) (codes : List ℕ) → x < width
    → y * width + x < length codes →
    PaintsWhere (λ column row. (column ≡ x) × (row ≡ y)) width height ink codes (set codes (y * width + x) ink)
PaintsWhere-place width height ink x y codes inside within = record {
  each = λ column row across down.
      elim (at_or_beside x y column row) [
        | inl here ↦
            let place : row * width + column ≡ y * width + x = cc in
            inl (
              here,
              ap (λ (p : ℕ). get_or (set codes (y * width + x) ink) p 0) place
                  ∙ get_or-set_same codes (y * width + x) ink 0 within,
            )
        | inr there ↦
            let other : row * width + column ≢ y * width + x =
            λ e. elim (beside width x 1 y column row (omega arith) across there)
            [ inl before ↦ omega arith | inr after ↦ omega arith ] in
            inr (
              (λ here. other (let place : row * width + column ≡ y * width + x = cc in place)),
              get_or-set_other
                  codes (y * width + x) (row * width + column) ink 0 other,
            )
      ];
}

module _ (glyph : GlyphValue) (glyph_row : ℕ) (left : ℤ) (y n width height ink : ℕ) (a b : List ℕ)
    (before : PaintsWhere (IsInkOfRow glyph glyph_row left y n) width height ink a b) where
  longer : (column row : ℕ) → IsInkOfRow glyph glyph_row left y n column row
      → IsInkOfRow glyph glyph_row left y (n + 1) column row
  longer column row inked = record {
    at_row = inked.at_row;
    glyph_column = inked.glyph_column;
    below = omega (arith, inked.below);
    set = inked.set;
    at_column = inked.at_column;
  }

  -- one more pixel of a row, which is set and lies within the picture
  pub IsInkOfRow-set : (x : ℕ) → is_set glyph n glyph_row ≡ true → x < width → pos x ≡ left +ℤ pos n
      → y * width + x < length b →
      PaintsWhere (IsInkOfRow glyph glyph_row left y (n + 1)) width height ink a (set b (y * width + x) ink)
  IsInkOfRow-set x is_ink inside at within =
      PaintsWhere-then (IsInkOfRow glyph glyph_row left y n) (λ column row. (column ≡ x) × (row ≡ y))
      (IsInkOfRow glyph glyph_row left y (n + 1))
      width height ink a b (set b (y * width + x) ink) before (PaintsWhere-place width height ink x y b inside within)
      (λ column row across down either. elim either [
        | inl inked ↦ longer column row inked
        | inr here ↦
            record {
              at_row = here.1;
              glyph_column = n;
              below = omega arith;
              set = is_ink;
              at_column = ap pos here.0
                  ∙ at;
            }
      ])
      (λ column row across down inked. elim (lt_or_le inked.glyph_column n) [
        | inl sooner ↦ inl
            (record {
              at_row = inked.at_row;
              glyph_column = inked.glyph_column;
              below = sooner;
              set = inked.set;
              at_column = inked.at_column;
            })
        | inr last ↦ inr (omega (arith, ints, inked.at_column, inked.below), inked.at_row)
      ])

  -- one more pixel of a row, which is not set or lies outside
  pub IsInkOfRow-passed : ((column : ℕ) → column < width → is_set glyph n glyph_row ≡ true
      → pos column ≡ left +ℤ pos n → ⊥) →
      PaintsWhere (IsInkOfRow glyph glyph_row left y (n + 1)) width height ink a b
  IsInkOfRow-passed none =
      PaintsWhere-same (IsInkOfRow glyph glyph_row left y n) (IsInkOfRow glyph glyph_row left y (n + 1)) width height
      ink a b before
      (λ column row across down inked. longer column row inked)
      (λ column row across down inked. elim (lt_or_le inked.glyph_column n) [
        | inl sooner ↦
            record {
              at_row = inked.at_row;
              glyph_column = inked.glyph_column;
              below = sooner;
              set = inked.set;
              at_column = inked.at_column;
            }
        | inr last ↦
            let same : inked.glyph_column ≡ n = omega (arith, inked.below) in
            absurd (none column across
            (ap (λ (k : ℕ). is_set glyph k glyph_row) (sym same) ∙ inked.set)
            (inked.at_column ∙ ap (λ (k : ℕ). left +ℤ pos k) same))
      ])

module _ (glyph : GlyphValue) (left top : ℤ) (n width height ink : ℕ) (a b : List ℕ)
    (before : PaintsWhere (IsInkOfGlyph glyph left top n) width height ink a b) where
  higher : (column row : ℕ) → IsInkOfGlyph glyph left top n column row
      → IsInkOfGlyph glyph left top (n + 1) column row
  higher column row inked = record {
    glyph_column = inked.glyph_column;
    glyph_row = inked.glyph_row;
    across = inked.across;
    down = omega (arith, inked.down);
    set = inked.set;
    at_column = inked.at_column;
    at_row = inked.at_row;
  }

  earlier_row : (column row : ℕ) (inked : IsInkOfGlyph glyph left top (n + 1) column row) → inked.glyph_row < n
      → IsInkOfGlyph glyph left top n column row
  earlier_row column row inked sooner = record {
    glyph_column = inked.glyph_column;
    glyph_row = inked.glyph_row;
    across = inked.across;
    down = sooner;
    set = inked.set;
    at_column = inked.at_column;
    at_row = inked.at_row;
  }

  -- one more row of a glyph, which lies within the picture
  pub IsInkOfGlyph-row : (y : ℕ) → pos y ≡ top +ℤ pos n → (c : List ℕ)
      → PaintsWhere (IsInkOfRow glyph n left y glyph.width) width height ink b c →
      PaintsWhere (IsInkOfGlyph glyph left top (n + 1)) width height ink a c
  IsInkOfGlyph-row y at c drawn =
      PaintsWhere-then (IsInkOfGlyph glyph left top n) (IsInkOfRow glyph n left y glyph.width)
      (IsInkOfGlyph glyph left top (n + 1))
      width height ink a b c before drawn
      (λ column row across down either. elim either [
        | inl inked ↦ higher column row inked
        | inr inked ↦ record {
          glyph_column = inked.glyph_column;
          glyph_row = n;
          across = inked.below;
          down = omega arith;
          set = inked.set;
          at_column = inked.at_column;
          at_row = ap pos inked.at_row ∙ at;
        }
      ])
      (λ column row across down inked. elim (lt_or_le inked.glyph_row n) [
        | inl sooner ↦ inl (earlier_row column row inked sooner)
        | inr last ↦
            let same : inked.glyph_row ≡ n = omega (arith, inked.down) in
            inr (record {
              at_row = omega (arith, ints, inked.at_row);
              glyph_column = inked.glyph_column;
              below = inked.across;
              set = ap (λ (k : ℕ). is_set glyph inked.glyph_column k) (sym same) ∙ inked.set;
              at_column = inked.at_column;
            })
      ])

  -- one more row of a glyph, which lies above or below the picture
  pub IsInkOfGlyph-passed : ((row : ℕ) → row < height → pos row ≡ top +ℤ pos n → ⊥) →
      PaintsWhere (IsInkOfGlyph glyph left top (n + 1)) width height ink a b
  IsInkOfGlyph-passed none =
      PaintsWhere-same (IsInkOfGlyph glyph left top n) (IsInkOfGlyph glyph left top (n + 1)) width height ink a b before
      (λ column row across down inked. higher column row inked)
      (λ column row across down inked. elim (lt_or_le inked.glyph_row n) [
        | inl sooner ↦ earlier_row column row inked sooner
        | inr last ↦
            let same : inked.glyph_row ≡ n = omega (arith, inked.down) in
            absurd (none row down (inked.at_row ∙ ap (λ (k : ℕ). top +ℤ pos k) same))
      ])

-- one of the first n glyphs has ink there
abbrev pub IsInkedBefore : FontValue → List Drawn → ℕ → ℕ → ℕ → Type 0
IsInkedBefore font drawn n column row = (k : ℕ) × (glyph : Drawn) × (k < n)
    × (slice_index_or drawn k glyph ≡ glyph) × IsInkedBy font glyph column row

-- one more glyph is drawn
pub IsInkedBefore-glyph : (font : FontValue) (drawn : List Drawn) (n : ℕ) (d : Drawn) → n < length drawn
    → get_or drawn n d ≡ d →
    (left top : ℤ) → left ≡ pos d.pen +ℤ d.glyph.left →
    top ≡ (pos (d.line * font.height) +ℤ (pos font.height +ℤ font.bottom))
    -ℤ (pos d.glyph.height +ℤ d.glyph.bottom) →
    (width height ink : ℕ) (a b c : List ℕ) → PaintsWhere (IsInkedBefore font drawn n) width height ink a b →
    PaintsWhere (IsInkOfGlyph d.glyph left top d.glyph.height) width height ink b c →
    PaintsWhere (IsInkedBefore font drawn (n + 1)) width height ink a c
IsInkedBefore-glyph font drawn n d inside at left top left_is top_is width height ink a b c before painted =
    PaintsWhere-then (IsInkedBefore font drawn n) (IsInkOfGlyph d.glyph left top d.glyph.height)
    (IsInkedBefore font drawn (n + 1)) width height ink a b c before painted
    (λ column row across down either. elim either [
      | inl inked ↦ (inked.0, inked.1, omega (arith, inked.2), inked.3, inked.4)
      | inr inked ↦ (
        n,
        d,
        omega arith,
        at,
        record {
          glyph_column = inked.glyph_column;
          glyph_row = inked.glyph_row;
          across = inked.across;
          down = inked.down;
          set = inked.set;
          at_column = inked.at_column ∙ ap (λ (z : ℤ). z +ℤ pos inked.glyph_column) left_is;
          at_row = inked.at_row ∙ ap (λ (z : ℤ). z +ℤ pos inked.glyph_row) top_is;
        },
      )
    ])
    (λ column row across down inked. elim (lt_or_le inked.0 n) [
      | inl sooner ↦ inl (inked.0, inked.1, sooner, inked.3, inked.4)
      | inr last ↦
          let same : inked.0 ≡ n = omega (arith, inked.2) in
          let this : inked.1 ≡ d =
          sym inked.3 ∙ ap (λ (k : ℕ). get_or drawn k inked.1) same ∙ get_or_default drawn n inked.1 d inside
          ∙ at in
          let by : IsInkedBy font d column row = subst (λ (g : Drawn). IsInkedBy font g column row) this inked.4 in
          inr (record {
            glyph_column = by.glyph_column;
            glyph_row = by.glyph_row;
            across = by.across;
            down = by.down;
            set = by.set;
            at_column = by.at_column ∙ ap (λ (z : ℤ). z +ℤ pos by.glyph_column) (sym left_is);
            at_row = by.at_row ∙ ap (λ (z : ℤ). z +ℤ pos by.glyph_row) (sym top_is);
          })
    ])

div_lt : (p width height : ℕ) → 0 < width → p < height * width → p / width < height
div_lt p width height wide inside = (div-lt_iff_lt-mul wide).1 inside

-- on a picture of one code, with the codes where it was painted
module _ (P : ℕ → ℕ → Type 0) (width height ink paper : ℕ) (old new : List ℕ)
    (painted : PaintsWhere P width height ink old new)
    (blank : old ≡ replicate (width * height) paper) where
  pub each_painted : (column row : ℕ) → column < width → row < height →
      (P column row × (get_or new (row * width + column) 0 ≡ ink))
      ⊎ ((P column row → ⊥) × (get_or new (row * width + column) 0 ≡ paper))
  each_painted column row across down =
      let within : row * width + column < width * height =
      omega (arith, row_before width row height down, mul_comm width height) in
      let beneath : get_or old (row * width + column) 0 ≡ paper =
      ap (λ (codes : List ℕ). get_or codes (row * width + column) 0) blank
      ∙ get_or-replicate (width * height) (row * width + column) paper 0 within in
      elim (painted.each column row across down) [
        | inl inked ↦ inl inked
        | inr not_inked ↦ inr (not_inked.0, not_inked.1 ∙ beneath)
      ]

  pub All-painted : (n : ℕ) → length new ≡ width * height → 1 ≤ width → ink < n → paper < n
      → All (λ code. code < n) new
  All-painted n full wide ink_below paper_below = All-from_get_or (λ code. code < n) new 0
      (λ p inside.
      let place : p / width * width + p % width ≡ p = div-add-mod' p width in
      let across : p % width < width = omega arith in
      let down : p / width < height = div_lt p width height wide (omega (arith, mul_comm width height)) in
      let Q : ℕ → Type 0 = λ q. get_or new q 0 < n in
      subst Q place
      (elim (each_painted (p % width) (p / width) across down) [
        | inl inked ↦ rw inked.1 ink_below
        | inr not_inked ↦ rw not_inked.1 paper_below
      ]))

-- what is written back where a whole list was lent
pub written : (n : ℕ) (new old : List ℕ) → n ≡ length new → take n (new ++ drop (length new) old) ≡ new
written n new old same = take-append-le n new (drop (length new) old) (omega arith) ∙ take_all n new (omega arith)
