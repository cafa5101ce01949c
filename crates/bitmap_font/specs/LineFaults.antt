-- The tests of a line, in their order, by what the lines before it say.
use Rattle.std.specs.Prelude.{◌&&◌, ◌||◌, not, if◌then◌else◌, ℕ, Bool, true, false, List, Option, Some, None, is_some, nat_lt}
use Rattle.std.specs.Option.{option_map_or}
use Rattle.bitmap_font.specs.declared.keyword.Keyword.{Keyword}
use Rattle.bitmap_font.specs.declared.keyword.Keyword.TheVariants.{StartFont, FontBoundingBox, StartProperties, EndProperties, StartChar, Encoding, Dwidth, Bbx, Bitmap, EndChar, EndFont, Other}
use Rattle.bitmap_font.specs.declared.font_fault.FontKind.{FontKind}
use Rattle.bitmap_font.specs.declared.font_fault.FontKind.TheVariants.{NotBdf, BadNumber, BadRow, DoubleGlyph, TooLarge}
use Rattle.bitmap_font.specs.Past.{Line, is, OpenGlyph, Past}
use Rattle.bitmap_font.specs.Words.{words}
use Rattle.bitmap_font.specs.Values.{box_of, advance_of_words, encoding_of, is_row}

-- words with a meaning, where a row is due
abbrev pub is_known : Keyword → Bool
is_known StartFont = false
is_known EndProperties = false
is_known Other = false
is_known _ = true

-- the width of the glyph's box, 0 where it was not given
abbrev pub width_of : OpenGlyph → ℕ
width_of glyph = option_map_or (λ shape. shape.width) glyph.shape 0

-- a row of the glyph's bitmap is due
abbrev pub is_row_due : Option OpenGlyph → Bool
is_row_due None = false
is_row_due (Some glyph) = nat_lt 0 glyph.left

-- the first test of a line that fails where a row is due
abbrev pub row_fault : Option OpenGlyph → Line → Option FontKind
row_fault None line = None
row_fault (Some glyph) line =
    if is_known line.keyword then Some NotBdf
    else if is_row (width_of glyph) line.text then None else Some BadRow

-- no glyph has begun, or one that is unfit for the word
abbrev pub is_unfit : (OpenGlyph → Bool) → Option OpenGlyph → Bool
is_unfit test None = true
is_unfit test (Some glyph) = test glyph

-- a word that does not stand in its place
abbrev pub is_misplaced : Past → Keyword → Bool
is_misplaced past FontBoundingBox = is_some past.bounds || nat_lt 0 past.started
is_misplaced past StartProperties = is_some past.glyph
is_misplaced past StartChar = is_some past.glyph || not (is_some past.bounds)
is_misplaced past Encoding = is_unfit (λ glyph. glyph.bitmap || is_some glyph.encoding) past.glyph
is_misplaced past Dwidth = is_unfit (λ glyph. glyph.bitmap || is_some glyph.advance) past.glyph
is_misplaced past Bbx = is_unfit (λ glyph. glyph.bitmap || is_some glyph.shape) past.glyph
is_misplaced past Bitmap =
    is_unfit (λ glyph. glyph.bitmap || not (is_some glyph.encoding && is_some glyph.advance && is_some glyph.shape))
    past.glyph
is_misplaced past EndChar = is_unfit (λ glyph. not glyph.bitmap) past.glyph
is_misplaced past EndFont = is_some past.glyph || not (is_some past.bounds)
is_misplaced past _ = false

-- an encoding that is no number, or was seen before
abbrev pub encoding_fault : (ℕ → Bool) → Option (Option ℕ) → Option FontKind
encoding_fault is_encoded None = Some BadNumber
encoding_fault is_encoded (Some None) = None
encoding_fault is_encoded (Some (Some character)) = if is_encoded character then Some DoubleGlyph else None

-- the first test that fails of a line in its place
abbrev pub content_fault : Past → Keyword → List ℕ → Option FontKind
content_fault past FontBoundingBox text = if is_some (box_of 1 (words text)) then None else Some BadNumber
content_fault past StartChar text = if nat_lt past.started 65536 then None else Some TooLarge
content_fault past Encoding text = encoding_fault past.is_encoded (encoding_of (words text))
content_fault past Dwidth text = if is_some (advance_of_words (words text)) then None else Some BadNumber
content_fault past Bbx text = if is_some (box_of 0 (words text)) then None else Some BadNumber
content_fault past _ text = None

-- the first test that fails of a line where no row is due
abbrev pub place_fault : Past → Keyword → List ℕ → Option FontKind
place_fault past keyword text = if is_misplaced past keyword then Some NotBdf else content_fault past keyword text

-- the first test that fails of a line that is not passed over
abbrev pub counted_fault : Past → Line → Option FontKind
counted_fault past line =
    if is_row_due past.glyph then row_fault past.glyph line else place_fault past line.keyword line.text

-- the first test of a line that fails, behind the first line
abbrev pub fault_by : Past → Line → Option FontKind
fault_by past line = if past.properties then None else counted_fault past line

-- a line that ends the font
abbrev pub ends_by : Past → Line → Bool
ends_by past line = is EndFont line && not past.properties
