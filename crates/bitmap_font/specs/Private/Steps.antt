-- What each valid line adds to what is found by looking back: that it is this is said in `proofs/`.
use Rattle.std.specs.Prelude.{◌≡◌, ◌&&◌, ◌||◌, not, if◌then◌else◌, ℕ, ◌+◌, ◌-◌, Bool, true, false, List, [], ◌++◌, Option, Some, None, is_some, option_map}
use Rattle.std.specs.Option.{option_map_or}
use Rattle.bitmap_font.specs.declared.keyword.Keyword.{Keyword}
use Rattle.bitmap_font.specs.declared.keyword.Keyword.TheVariants.{FontBoundingBox, StartProperties, EndProperties, StartChar, Encoding, Dwidth, Bbx, Bitmap, EndChar}
use Rattle.bitmap_font.specs.declared.bounds.BoundingBox.{BoundingBox}
use Rattle.bitmap_font.specs.Font.{GlyphValue}
use Rattle.bitmap_font.specs.Words.{words}
use Rattle.bitmap_font.specs.Values.{box_of, advance_of_words, encoding_of, bytes_of_row}
use Rattle.bitmap_font.specs.Past.{Line, is, OpenGlyph, Past, characters_of, glyph_from, has}
use Rattle.bitmap_font.specs.LineFaults.{is_row_due, width_of}

-- the height of the glyph's box, 0 where it was not given
abbrev pub height_of : OpenGlyph → ℕ
height_of glyph = option_map_or (λ shape. shape.height) glyph.shape 0

-- a glyph without lines
abbrev pub new_glyph : OpenGlyph
new_glyph = record { encoding = None; advance = None; shape = None; bitmap = false; left = 0; bytes = [] }

-- with one more row of its bitmap
abbrev pub with_row : List ℕ → OpenGlyph → OpenGlyph
with_row text glyph = record glyph { left = glyph.left - 1; bytes = glyph.bytes ++ bytes_of_row (width_of glyph) text }

-- a glyph with what an ENCODING line says: a character, or none for -1
abbrev pub with_encoding : Option (Option ℕ) → OpenGlyph → OpenGlyph
with_encoding encoding glyph = record glyph { encoding = encoding }

-- a glyph with what a DWIDTH line says: how far it moves the pen, in pixels
abbrev pub with_advance : Option ℕ → OpenGlyph → OpenGlyph
with_advance advance glyph = record glyph { advance = advance }

-- a glyph with what a BBX line says: its box
abbrev pub with_shape : Option BoundingBox → OpenGlyph → OpenGlyph
with_shape shape glyph = record glyph { shape = shape }

-- a glyph behind its BITMAP line: as many rows as its box is high are still to come
abbrev pub with_bitmap : OpenGlyph → OpenGlyph
with_bitmap glyph = record glyph { bitmap = true; left = height_of glyph }

-- the glyph that ends, where it has a character
abbrev pub finished : Option OpenGlyph → List GlyphValue
finished None = []
finished (Some glyph) = glyph_from glyph.encoding glyph.advance glyph.shape glyph.bytes

-- one more encoding
abbrev pub encoded_with : Option (Option ℕ) → (ℕ → Bool) → ℕ → Bool
encoded_with encoding is_encoded character = has character (characters_of encoding) || is_encoded character

-- a valid line where no row is due
abbrev pub step_in_place : Past → Keyword → List ℕ → Past
step_in_place past FontBoundingBox text = record past { bounds = box_of 1 (words text) }
step_in_place past StartProperties text = record past { properties = true }
step_in_place past StartChar text = record past { started = past.started + 1; glyph = Some new_glyph }
step_in_place past Encoding text =
    record past {
      glyph = option_map (with_encoding (encoding_of (words text))) past.glyph;
      is_encoded = encoded_with (encoding_of (words text)) past.is_encoded;
    }
step_in_place past Dwidth text =
    record past { glyph = option_map (with_advance (advance_of_words (words text))) past.glyph }
step_in_place past Bbx text = record past { glyph = option_map (with_shape (box_of 0 (words text))) past.glyph }
step_in_place past Bitmap text = record past { glyph = option_map with_bitmap past.glyph }
step_in_place past EndChar text = record past { glyphs = past.glyphs ++ finished past.glyph; glyph = None }
step_in_place past _ text = past

-- what is found behind the first line
abbrev pub first_past : Past
first_past = record {
  properties = false;
  bounds = None;
  started = 0;
  glyph = None;
  glyphs = [];
  is_encoded = λ _. false;
}

-- a valid line that is not passed over
abbrev pub step_counted : Past → Line → Past
step_counted past line =
    if is_row_due past.glyph then record past { glyph = option_map (with_row line.text) past.glyph }
    else step_in_place past line.keyword line.text

-- a valid line
abbrev pub step : Past → Line → Past
step past line =
    if past.properties then record past { properties = not (is EndProperties line) } else step_counted past line

-- what each glyph in hand has: its bitmap comes behind its other lines
pub record IsOpenGlyph (glyph : OpenGlyph) : Type 0 where
  pub given : glyph.bitmap ≡ true
      → (is_some glyph.encoding && is_some glyph.advance && is_some glyph.shape) ≡ true
  pub blank : glyph.bitmap ≡ false → (glyph.left ≡ 0) × (glyph.bytes ≡ [])
