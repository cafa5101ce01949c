-- How glyphs are drawn on a picture: each set pixel that lies in it has the ink.
use Rattle.std.specs.Prelude.{◌≡◌, ℕ, ◌+◌, ◌*◌, ◌<◌, ℤ, pos, ◌+ℤ◌, ◌⊎◌, true, List, slice_index}
use Rattle.bitmap_font.specs.Font.{GlyphValue, is_set}

-- in a picture of these sides the places where P holds got the ink, and the others kept their codes
pub record PaintsWhere (P : ℕ → ℕ → Type 0) (width height ink : ℕ) (old new : List ℕ) : Type 0 where
  pub each : (column row : ℕ) → column < width → row < height →
      (P column row × (slice_index new (row * width + column) ≡ ink))
      ⊎ ((P column row → ⊥)
      × (slice_index new (row * width + column) ≡ slice_index old (row * width + column)))

-- one of the first `most` pixels of a row of a glyph, which begins at the column `left` of the row y
pub record IsInkOfRow (glyph : GlyphValue) (glyph_row : ℕ) (left : ℤ) (y most column row : ℕ) : Type 0 where
  pub at_row : row ≡ y
  pub glyph_column : ℕ
  pub below : glyph_column < most
  pub set : is_set glyph glyph_column glyph_row ≡ true
  pub at_column : pos column ≡ left +ℤ pos glyph_column

-- a set pixel of the first `most` rows of a glyph whose upper left corner is at the column `left` of the row `top`
pub record IsInkOfGlyph (glyph : GlyphValue) (left top : ℤ) (most column row : ℕ) : Type 0 where
  pub glyph_column : ℕ
  pub glyph_row : ℕ
  pub across : glyph_column < glyph.width
  pub down : glyph_row < most
  pub set : is_set glyph glyph_column glyph_row ≡ true
  pub at_column : pos column ≡ left +ℤ pos glyph_column
  pub at_row : pos row ≡ top +ℤ pos glyph_row
