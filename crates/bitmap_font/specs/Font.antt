-- What a font and its glyphs are.
use Rattle.std.specs.Prelude.{◌≡◌, ◌==◌, ℕ, ◌+◌, ◌-◌, ◌*◌, ◌/◌, ◌%◌, ◌^◌, ◌<◌, ◌≤◌, ℤ, pos, neg_ℤ, ◌≤ℤ◌, Bool, List, length, Option, Some, find, slice_get, slice_index, option_and_then}
use Rattle.bitmap_font.specs.declared.bounds.BoundingBox.{BoundingBox}

-- a glyph: its character, how far it moves the pen, its sides in pixels, the offsets of its lower left corner from the
-- pen on the base line, to the right and upwards, and its rows from the top, each in whole bytes, a bit a pixel, the
-- highest bit first
pub record GlyphValue : Type 0 where
  pub character : ℕ
  pub advance : ℕ
  pub width : ℕ
  pub height : ℕ
  pub left : ℤ
  pub bottom : ℤ
  pub bytes : List ℕ

-- the glyph with a box
abbrev pub glyph_with : ℕ → ℕ → BoundingBox → List ℕ → GlyphValue
glyph_with character advance shape bytes = record {
  character = character;
  advance = advance;
  width = shape.width;
  height = shape.height;
  left = shape.left;
  bottom = shape.bottom;
  bytes = bytes;
}

-- the bytes of a row
abbrev pub row_bytes : ℕ → ℕ
row_bytes width = (width + 7) / 8

-- whether the pixel in a column of a row is set
abbrev pub is_set : GlyphValue → ℕ → ℕ → Bool
is_set glyph column row =
    slice_index glyph.bytes (row * row_bytes glyph.width + column / 8) / 2 ^ (7 - column % 8) % 2 == 1

-- an offset of a font or of a glyph
pub record IsOffset (offset : ℤ) : Type 0 where
  pub low : neg_ℤ (pos 256) ≤ℤ offset
  pub high : offset ≤ℤ pos 256

-- what is true of each glyph: it moves the pen by at most 255 pixels, its sides have at most 256, its offsets are in
-- range, and all its rows are there
pub record IsGlyph (glyph : GlyphValue) : Type 0 where
  pub advance : glyph.advance < 256
  pub width : glyph.width ≤ 256
  pub height : glyph.height ≤ 256
  pub left : IsOffset glyph.left
  pub bottom : IsOffset glyph.bottom
  pub whole : length glyph.bytes ≡ glyph.height * row_bytes glyph.width

-- a font: the sides of its box, the offsets of the box's lower left corner from the pen on the base line, and the
-- glyphs in the order of the file
pub record FontValue : Type 0 where
  pub width : ℕ
  pub height : ℕ
  pub left : ℤ
  pub bottom : ℤ
  pub glyphs : List GlyphValue

-- the font with a box
abbrev pub font_with : BoundingBox → List GlyphValue → FontValue
font_with bounds glyphs = record {
  width = bounds.width;
  height = bounds.height;
  left = bounds.left;
  bottom = bounds.bottom;
  glyphs = glyphs;
}

-- what is true of each font: the sides of its box have 1 to 256 pixels, and its offsets are in range
pub record IsFontValue (font : FontValue) : Type 0 where
  pub wide : (1 ≤ font.width) × (font.width ≤ 256)
  pub high : (1 ≤ font.height) × (font.height ≤ 256)
  pub left : IsOffset font.left
  pub bottom : IsOffset font.bottom

-- the glyph of a character
abbrev pub glyph_of : FontValue → ℕ → Option GlyphValue
glyph_of font character = find (λ glyph. glyph.character == character) font.glyphs

-- `place_of` leads from each character to the place of its glyph
pub record Indexes (place_of : ℕ → Option ℕ) (glyphs : List GlyphValue) : Type 0 where
  pub within : (character place : ℕ) → place_of character ≡ Some place → place < length glyphs
  pub leads : (character : ℕ) →
      option_and_then (slice_get glyphs) (place_of character) ≡ find (λ glyph. glyph.character == character) glyphs
