-- When bytes are a font, and which line is refused: each line is judged by looking back over those before it.
use Rattle.std.specs.Prelude.{◌≡◌, if◌then◌else◌, ℕ, ◌+◌, ◌<◌, ◌≤◌, ◌⊎◌, Bool, true, false, List, [], ◌∷◌, length, map, reverse, take, Option, Some, None, slice_index_or}
use Rattle.std.specs.Str.Lines.{lines}
use Rattle.bitmap_font.specs.declared.keyword.Keyword.TheVariants.{StartFont}
use Rattle.bitmap_font.specs.declared.bounds.BoundingBox.{BoundingBox}
use Rattle.bitmap_font.specs.declared.font_fault.FontKind.{FontKind}
use Rattle.bitmap_font.specs.declared.font_fault.FontKind.TheVariants.{NotBdf, Truncated}
use Rattle.bitmap_font.specs.Font.{FontValue, font_with}
use Rattle.bitmap_font.specs.Past.{Line, line_of, is, counted, box_in, glyphs_in, looking_back}
use Rattle.bitmap_font.specs.LineFaults.{fault_by, ends_by}

-- the first test of a line that fails: the first line begins with STARTFONT
abbrev pub fault_of : List Line → Line → Option FontKind
fault_of [] line = if is StartFont line then None else Some NotBdf
fault_of (last ∷ earlier) line = fault_by (looking_back (last ∷ earlier)) line

-- a line that ends the font
abbrev pub ends_font : List Line → Line → Bool
ends_font before line = ends_by (looking_back before) line

-- the lines of a file
abbrev pub font_lines : List ℕ → List Line
font_lines bytes = map line_of (lines bytes)

-- the first n lines, nearest first
abbrev pub lines_before : List Line → ℕ → List Line
lines_before all n = reverse (take n all)

-- the line behind the first n
abbrev pub line_at : List Line → ℕ → Line
line_at all n = slice_index_or all n (line_of [])

-- the first n lines are valid, and none of them ends the font
pub record AreValid (all : List Line) (n : ℕ) : Type 0 where
  pub there : n ≤ length all
  pub valid : (k : ℕ) → k < n → fault_of (lines_before all k) (line_at all k) ≡ None
  pub open_end : (k : ℕ) → k < n → ends_font (lines_before all k) (line_at all k) ≡ false

-- the font that valid lines list
pub record ListsFont (seen : List Line) (font : FontValue) : Type 0 where
  pub bounds : BoundingBox
  pub given : box_in seen ≡ Some bounds
  pub is_font : font ≡ font_with bounds (glyphs_in seen)

-- the bytes are a font: its lines are valid up to ENDFONT, and they list it
pub record IsFont (bytes : List ℕ) (font : FontValue) : Type 0 where
  pub last : ℕ
  pub there : last < length (font_lines bytes)
  pub before : AreValid (font_lines bytes) last
  pub valid : fault_of (lines_before (font_lines bytes) last) (line_at (font_lines bytes) last) ≡ None
  pub end : ends_font (lines_before (font_lines bytes) last) (line_at (font_lines bytes) last) ≡ true
  pub lists : ListsFont (counted (lines_before (font_lines bytes) last)) font

-- a line, counted from 1, is the first that is faulty, for this kind of reason: or the lines are valid but have no end
pub record IsRefusedLine (bytes : List ℕ) (line : ℕ) (kind : FontKind) : Type 0 where
  pub before : ℕ
  pub number : line ≡ before + 1
  pub valid : AreValid (font_lines bytes) before
  pub wrong : ((before < length (font_lines bytes))
      × (fault_of (lines_before (font_lines bytes) before) (line_at (font_lines bytes) before) ≡ Some kind))
      ⊎ ((before ≡ length (font_lines bytes)) × (kind ≡ Truncated))
