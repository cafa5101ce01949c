-- The layout of a text, as it is kept before it is drawn.
use Rattle.std.specs.Prelude.{◌≡◌, ℕ, ◌+◌, ◌<◌, ◌≤◌, List, length, reverse, map, slice_index, slice_index_or}
use Rattle.bitmap_font.specs.declared.layout.Layout.{Layout}
use Rattle.bitmap_font.specs.declared.layout.PlacedGlyph.{PlacedGlyph}
use Rattle.bitmap_font.specs.Font.{FontValue}
use Rattle.bitmap_font.specs.Setting.{drawn_of, drawn_glyphs, widest_line, line_after, CanBeSet}

-- the layout of a text
pub record IsLayout (font : FontValue) (characters : List ℕ) (layout : Layout) : Type 0 where
  pub placed : map drawn_of layout.placed.items ≡ drawn_glyphs font (reverse characters)
  pub width : layout.width ≡ widest_line font (reverse characters)
  pub lines : layout.lines ≡ line_after (reverse characters) + 1
  pub each : (k : ℕ) → k < length characters → CanBeSet font (slice_index characters k)
  pub pens : (k : ℕ) (other : PlacedGlyph) → k < length layout.placed.items
      → (slice_index_or layout.placed.items k other).pen ≤ layout.width
  pub on_lines : (k : ℕ) (other : PlacedGlyph) → k < length layout.placed.items
      → (slice_index_or layout.placed.items k other).line < layout.lines
