-- What a line's tests look back to. The lines before a line are given nearest first.
use Rattle.std.specs.Prelude.{◌==◌, if◌then◌else◌, ℕ, ◌+◌, ◌-◌, Bool, true, false, List, [], ◌∷◌, ◌++◌, Option, Some, None, find, nat_lt, option_and_then}
use Rattle.std.specs.List.{list_any}
use Rattle.std.specs.Option.{option_map_or}
use Rattle.bitmap_font.specs.declared.keyword.Keyword.{Keyword}
use Rattle.bitmap_font.specs.declared.keyword.Keyword.TheVariants.{StartFont, FontBoundingBox, StartProperties, EndProperties, StartChar, Encoding, Dwidth, Bbx, Bitmap, EndChar, EndFont, Other}
use Rattle.bitmap_font.specs.declared.bounds.BoundingBox.{BoundingBox}
use Rattle.bitmap_font.specs.Font.{GlyphValue, glyph_with}
use Rattle.bitmap_font.specs.Words.{words, keyword_of}
use Rattle.bitmap_font.specs.Values.{box_of, advance_of_words, encoding_of, bytes_of_row}

-- a line: the meaning of its first word, and its bytes
pub record Line : Type 0 where
  pub keyword : Keyword
  pub text : List ℕ

-- the line of these bytes
abbrev pub line_of : List ℕ → Line
line_of text = record { keyword = keyword_of text; text = text }

-- a number for each meaning
abbrev pub tag : Keyword → ℕ
tag StartFont = 0
tag FontBoundingBox = 1
tag StartProperties = 2
tag EndProperties = 3
tag StartChar = 4
tag Encoding = 5
tag Dwidth = 6
tag Bbx = 7
tag Bitmap = 8
tag EndChar = 9
tag EndFont = 10
tag Other = 11

-- a line begins with a word of this meaning
abbrev pub is : Keyword → Line → Bool
is keyword line = tag line.keyword == tag keyword

-- looking back, properties begin before any end
abbrev pub in_properties : List Line → Bool
in_properties [] = false
in_properties (line ∷ earlier) =
    if is StartProperties line then true else if is EndProperties line then false else in_properties earlier

-- the lines that are not passed over as properties
abbrev pub counted : List Line → List Line
counted [] = []
counted (line ∷ earlier) = if in_properties earlier then counted earlier else line ∷ counted earlier

-- looking back, a glyph begins before any ends
abbrev pub in_glyph : List Line → Bool
in_glyph [] = false
in_glyph (line ∷ earlier) = if is StartChar line then true else if is EndChar line then false else in_glyph earlier

-- the lines since the last STARTCHAR
abbrev pub this_glyph : List Line → List Line
this_glyph [] = []
this_glyph (line ∷ earlier) = if is StartChar line then [] else line ∷ this_glyph earlier

-- how many glyphs were begun
abbrev pub glyph_count : List Line → ℕ
glyph_count [] = 0
glyph_count (line ∷ earlier) = if is StartChar line then glyph_count earlier + 1 else glyph_count earlier

-- what the last line with this first word says
abbrev pub said : {A : Type 0} → Keyword → (List (List ℕ) → Option A) → List Line → Option A
said keyword meaning seen = option_and_then (λ line. meaning (words line.text)) (find (is keyword) seen)

-- the font's box, where it was given
abbrev pub box_in : List Line → Option BoundingBox
box_in seen = said FontBoundingBox (box_of 1) seen

-- of the lines of a glyph: its encoding, a character or none
abbrev pub encoding_in : List Line → Option (Option ℕ)
encoding_in glyph = said Encoding encoding_of glyph

-- how far it moves the pen
abbrev pub advance_in : List Line → Option ℕ
advance_in glyph = said Dwidth advance_of_words glyph

-- its box
abbrev pub shape_in : List Line → Option BoundingBox
shape_in glyph = said Bbx (box_of 0) glyph

-- its bitmap has begun
abbrev pub has_bitmap : List Line → Bool
has_bitmap glyph = list_any (is Bitmap) glyph

-- how many lines came since BITMAP
abbrev pub since_bitmap : List Line → ℕ
since_bitmap [] = 0
since_bitmap (line ∷ earlier) = if is Bitmap line then 0 else since_bitmap earlier + 1

-- how many rows of the bitmap are still to come
abbrev pub rows_left : List Line → ℕ
rows_left glyph =
    if has_bitmap glyph then option_map_or (λ shape. shape.height) (shape_in glyph) 0 - since_bitmap glyph else 0

-- how wide it is, 0 where its box was not given
abbrev pub glyph_width : List Line → ℕ
glyph_width glyph = option_map_or (λ shape. shape.width) (shape_in glyph) 0

-- the bytes of the rows so far
abbrev pub bytes_in : List Line → List ℕ
bytes_in [] = []
bytes_in (line ∷ earlier) =
    if nat_lt 0 (rows_left earlier) then bytes_in earlier ++ bytes_of_row (glyph_width earlier) line.text
    else bytes_in earlier

-- the glyph of whole lines, where it has a character
abbrev pub glyph_from : Option (Option ℕ) → Option ℕ → Option BoundingBox → List ℕ → List GlyphValue
glyph_from (Some (Some character)) (Some advance) (Some shape) bytes = glyph_with character advance shape bytes ∷ []
glyph_from _ _ _ _ = []

-- of these lines of a glyph
abbrev pub glyph_in : List Line → List GlyphValue
glyph_in glyph = glyph_from (encoding_in glyph) (advance_in glyph) (shape_in glyph) (bytes_in glyph)

-- the glyphs that were ended, in the order of the file
abbrev pub glyphs_in : List Line → List GlyphValue
glyphs_in [] = []
glyphs_in (line ∷ earlier) =
    if is EndChar line then glyphs_in earlier ++ glyph_in (this_glyph earlier) else glyphs_in earlier

-- the character of an encoding
abbrev pub characters_of : Option (Option ℕ) → List ℕ
characters_of (Some (Some character)) = character ∷ []
characters_of _ = []

-- the characters that were encoded
abbrev pub encoded_in : List Line → List ℕ
encoded_in [] = []
encoded_in (line ∷ earlier) =
    if is Encoding line then characters_of (encoding_of (words line.text)) ++ encoded_in earlier else encoded_in earlier

-- ---- all of it

-- a character is among these
abbrev pub has : ℕ → List ℕ → Bool
has character characters = list_any (λ other. other == character) characters

-- what the lines of a glyph that has not ended say
pub record OpenGlyph : Type 0 where
  pub encoding : Option (Option ℕ)
  pub advance : Option ℕ
  pub shape : Option BoundingBox
  pub bitmap : Bool
  pub left : ℕ
  pub bytes : List ℕ

-- of these lines of a glyph
abbrev pub open_glyph : List Line → OpenGlyph
open_glyph glyph = record {
  encoding = encoding_in glyph;
  advance = advance_in glyph;
  shape = shape_in glyph;
  bitmap = has_bitmap glyph;
  left = rows_left glyph;
  bytes = bytes_in glyph;
}

-- what is found by looking back over lines
pub record Past : Type 0 where
  pub properties : Bool
  pub bounds : Option BoundingBox
  pub started : ℕ
  pub glyph : Option OpenGlyph
  pub glyphs : List GlyphValue
  pub is_encoded : ℕ → Bool

-- of the lines that are not passed over as properties
abbrev pub past_among : Bool → List Line → Past
past_among properties seen = record {
  properties = properties;
  bounds = box_in seen;
  started = glyph_count seen;
  glyph = if in_glyph seen then Some (open_glyph (this_glyph seen)) else None;
  glyphs = glyphs_in seen;
  is_encoded = λ character. has character (encoded_in seen);
}

-- of all lines
abbrev pub looking_back : List Line → Past
looking_back before = past_among (in_properties before) (counted before)
