-- How a text is set: its lines, the pen, and which pixels are inked.
use Rattle.std.specs.Prelude.{◌≡◌, ◌≢◌, ◌==◌, if◌then◌else◌, ℕ, ◌+◌, ◌*◌, ◌<◌, ◌≤◌, pos, ◌+ℤ◌, ◌-ℤ◌, ◌⊎◌, true, List, [], ◌∷◌, ◌++◌, length, reverse, sum_by, count_by, max, Option, Some, None, slice_index, slice_index_or, IsSome, ⊤}
use Rattle.std.specs.Option.{option_map_or}
use Rattle.sub_base.specs.declared.depth.Depth.{Depth}
use Rattle.sub_base.specs.Picture.{Picture, code_at}
use Rattle.bitmap_font.specs.declared.layout.PlacedGlyph.{PlacedGlyph}
use Rattle.bitmap_font.specs.declared.set_fault.SetFault.{SetFault}
use Rattle.bitmap_font.specs.declared.set_fault.SetFault.TheVariants.{Memory, MissingGlyph, Empty, TooWide}
use Rattle.bitmap_font.specs.Font.{GlyphValue, FontValue, glyph_of, is_set}

-- how far a character moves the pen
abbrev pub advance_of : FontValue → ℕ → ℕ
advance_of font character = option_map_or (λ glyph. glyph.advance) (glyph_of font character) 0

-- What follows looks back over the characters before a place of a text, which are given nearest first.

-- those since the last line feed
abbrev pub this_line : List ℕ → List ℕ
this_line [] = []
this_line (character ∷ earlier) = if character == 10 then [] else character ∷ this_line earlier

-- where the pen stands: the sum of the widths since the last line feed
abbrev pub pen_after : FontValue → List ℕ → ℕ
pen_after font earlier = sum_by (advance_of font) (this_line earlier)

-- the number of the line, from 0
abbrev pub line_after : List ℕ → ℕ
line_after earlier = count_by (λ character. character == 10) earlier

-- the widest line
abbrev pub widest_line : FontValue → List ℕ → ℕ
widest_line font [] = 0
widest_line font (character ∷ earlier) = max (widest_line font earlier) (pen_after font (character ∷ earlier))

-- a glyph that is drawn, where the pen stands, and the number of its line
pub record Drawn : Type 0 where
  pub glyph : GlyphValue
  pub pen : ℕ
  pub line : ℕ

-- the glyph of a character at a place
abbrev pub drawn_at : Option GlyphValue → ℕ → ℕ → List Drawn
drawn_at None pen line = []
drawn_at (Some glyph) pen line = record { glyph = glyph; pen = pen; line = line } ∷ []

-- the glyphs of a text, in its order: a line feed draws none
abbrev pub drawn_glyphs : FontValue → List ℕ → List Drawn
drawn_glyphs font [] = []
drawn_glyphs font (character ∷ earlier) =
    if character == 10 then drawn_glyphs font earlier
    else drawn_glyphs font earlier ++ drawn_at (glyph_of font character) (pen_after font earlier) (line_after earlier)

-- what a placed glyph means
abbrev pub drawn_of : PlacedGlyph → Drawn
drawn_of placed = record { glyph = placed.glyph.now; pen = placed.pen; line = placed.line }

-- a character that needs no glyph or has one
abbrev pub CanBeSet : FontValue → ℕ → Type 0
CanBeSet font character = (character ≡ 10) ⊎ IsSome (glyph_of font character)

-- the first character that needs a glyph and has none
pub record IsFirstMissing (font : FontValue) (characters : List ℕ) (character : ℕ) : Type 0 where
  pub place : ℕ
  pub within : place < length characters
  pub there : slice_index characters place ≡ character
  pub no_line_feed : character ≢ 10
  pub missing : glyph_of font character ≡ None
  pub before : (k : ℕ) → k < place → CanBeSet font (slice_index characters k)

-- a set pixel of a drawn glyph lies in a column of a row of the picture, the box standing on its line: the base line of
-- each line is the box's height and lower offset below its top
pub record IsInkedBy (font : FontValue) (drawn : Drawn) (column row : ℕ) : Type 0 where
  pub glyph_column : ℕ
  pub glyph_row : ℕ
  pub across : glyph_column < drawn.glyph.width
  pub down : glyph_row < drawn.glyph.height
  pub set : is_set drawn.glyph glyph_column glyph_row ≡ true
  pub at_column : pos column ≡ (pos drawn.pen +ℤ drawn.glyph.left) +ℤ pos glyph_column
  pub at_row : pos row
      ≡ ((pos (drawn.line * font.height) +ℤ (pos font.height +ℤ font.bottom))
      -ℤ (pos drawn.glyph.height +ℤ drawn.glyph.bottom)) +ℤ pos glyph_row

-- some glyph has ink in a column of a row
abbrev pub IsInked : FontValue → List Drawn → ℕ → ℕ → Type 0
IsInked font drawn column row =
    (k : ℕ) × (glyph : Drawn) × (k < length drawn) × (slice_index_or drawn k glyph ≡ glyph)
    × IsInkedBy font glyph column row

-- the places of a picture where some glyph has ink have one code, and all others another
abbrev pub IsDrawn : FontValue → List Drawn → ℕ → ℕ → Picture → Type 0
IsDrawn font drawn ink paper picture = (column row : ℕ) → column < picture.width → row < picture.height →
    (IsInked font drawn column row × (code_at picture column row ≡ ink))
    ⊎ ((IsInked font drawn column row → ⊥) × (code_at picture column row ≡ paper))

-- a picture's sides and depth
pub record HasSides (width height : ℕ) (depth : Depth) (picture : Picture) : Type 0 where
  pub wide : picture.width ≡ width
  pub high : picture.height ≡ height
  pub deep : picture.depth ≡ depth

-- the picture of a text: as wide as its widest line, each line as high as the box, the set pixels of its glyphs in one
-- code and all else in the other; what lies outside is left out
pub record IsSetting (font : FontValue) (characters : List ℕ) (ink paper : ℕ) (depth : Depth)
    (picture : Picture) : Type 0 where
  pub sides : HasSides (widest_line font (reverse characters)) ((line_after (reverse characters) + 1) * font.height)
      depth picture
  pub drawn : IsDrawn font (drawn_glyphs font (reverse characters)) ink paper picture

-- a text whose picture has room
pub record HasRoom (font : FontValue) (characters : List ℕ) : Type 0 where
  pub wide : (1 ≤ widest_line font (reverse characters)) × (widest_line font (reverse characters) ≤ 1920)
  pub high : (line_after (reverse characters) + 1) * font.height ≤ 1080

-- each character has a glyph where it needs one
abbrev pub AllCanBeSet : FontValue → List ℕ → Type 0
AllCanBeSet font characters = (k : ℕ) → k < length characters → CanBeSet font (slice_index characters k)

-- why a text has no picture: the first of the three that holds
abbrev pub IsSetFault : FontValue → List ℕ → SetFault → Type 0
IsSetFault font characters Memory = ⊤
IsSetFault font characters (MissingGlyph character) = IsFirstMissing font characters character
IsSetFault font characters Empty = AllCanBeSet font characters × (widest_line font (reverse characters) ≡ 0)
IsSetFault font characters TooWide = AllCanBeSet font characters × (1 ≤ widest_line font (reverse characters))
    × ((1920 < widest_line font (reverse characters)) ⊎ (1080 < (line_after (reverse characters) + 1) * font.height))
