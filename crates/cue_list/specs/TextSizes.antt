-- The size of a text's picture, and the first character that cannot be set.
use Rattle.std.specs.Prelude.{ℕ, ◌+◌, ◌*◌, ◌==◌, not, ◌&&◌, List, reverse, find, Option, is_some}
use Rattle.sub_base.specs.declared.depth.Depth.{Depth}
use Rattle.bitmap_font.specs.Font.{FontValue, glyph_of}
use Rattle.bitmap_font.specs.Setting.{widest_line, line_after}
use Rattle.cue_records.specs.declared.row_values.PictureHead.{PictureHead}

-- the depth and the sides of the picture of a text
unfoldable pub text_head : FontValue → Depth → List ℕ → PictureHead
text_head font depth characters = record {
  depth = depth;
  width = widest_line font (reverse characters);
  height = (line_after (reverse characters) + 1) * font.height;
}

-- the first character that needs a glyph and has none
unfoldable pub missing_glyph : FontValue → List ℕ → Option ℕ
missing_glyph font characters =
    find (λ character. not (character == 10) && not (is_some (glyph_of font character))) characters
