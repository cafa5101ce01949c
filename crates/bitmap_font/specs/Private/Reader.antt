-- What the reader keeps of the lines before a line.
use Rattle.std.specs.Prelude.{◌≡◌, ◌==◌, ◌||◌, find, ℕ, ◌+◌, ◌*◌, ◌<◌, ◌≤◌, ⊤, Bool, true, List, [], length, Option, Some, None, is_some, IfSome, option_map}
use Rattle.std.specs.Ordering.{nat_cmp}
use Rattle.std.specs.BTreeMap.{get}
use Rattle.bitmap_font.specs.declared.keyword.Keyword.{Keyword}
use Rattle.bitmap_font.specs.declared.reader.Draft.{Draft}
use Rattle.bitmap_font.specs.declared.reader.Reader.{Reader}
use Rattle.bitmap_font.specs.declared.font_fault.FontKind.{FontKind}
use Rattle.bitmap_font.specs.declared.line_fault.LineFault.{LineFault}
use Rattle.bitmap_font.specs.declared.line_fault.LineFault.TheVariants.{Memory, Wrong}
use Rattle.bitmap_font.specs.Font.{GlyphValue, row_bytes, Indexes}
use Rattle.bitmap_font.specs.Values.{IsBox}
use Rattle.bitmap_font.specs.Past.{OpenGlyph, Past, characters_of, has}
use Rattle.bitmap_font.specs.LineFaults.{width_of, place_fault}
use Rattle.bitmap_font.specs.Private.Steps.{IsOpenGlyph, height_of, step_in_place}

-- what a glyph in hand stands for
abbrev pub draft_of : Draft → OpenGlyph
draft_of draft = record {
  encoding = draft.encoding;
  advance = draft.advance;
  shape = draft.shape;
  bitmap = draft.bitmap;
  left = draft.left;
  bytes = draft.bytes.items;
}

-- the character of the glyph in hand
abbrev pub open_characters : Option OpenGlyph → List ℕ
open_characters None = []
open_characters (Some glyph) = characters_of glyph.encoding

-- a glyph has that character
abbrev pub has_glyph : ℕ → List GlyphValue → Bool
has_glyph character glyphs = is_some (find (λ glyph. glyph.character == character) glyphs)

-- what was encoded is in hand, or is a glyph
abbrev pub encoded_by : Option OpenGlyph → List GlyphValue → ℕ → Bool
encoded_by glyph glyphs character = has character (open_characters glyph) || has_glyph character glyphs

-- what a reader keeps
abbrev pub past_of : Reader → Past
past_of reader = record {
  properties = reader.properties;
  bounds = reader.bounds;
  started = reader.started;
  glyph = option_map draft_of reader.draft;
  glyphs = reader.glyphs.items;
  is_encoded = encoded_by (option_map draft_of reader.draft) reader.glyphs.items;
}

-- what is true of each glyph in hand
pub record IsDraft (draft : Draft) : Type 0 where
  pub lines : IsOpenGlyph (draft_of draft)
  pub shape : IfSome draft.shape (IsBox 0)
  pub advance : IfSome draft.advance (λ advance. advance < 256)
  pub whole : draft.bitmap ≡ true →
      length draft.bytes.items + draft.left * row_bytes (width_of (draft_of draft))
      ≡ height_of (draft_of draft) * row_bytes (width_of (draft_of draft))

-- the glyph in hand is the first of its character
abbrev pub IsFresh : List GlyphValue → Draft → Type 0
IsFresh glyphs draft = (character : ℕ) → draft.encoding ≡ Some (Some character)
    → find (λ glyph. glyph.character == character) glyphs ≡ None

-- what is true of each reader
pub record IsReader (reader : Reader) : Type 0 where
  pub indexes : Indexes (get nat_cmp reader.places) reader.glyphs.items
  pub bounds : IfSome reader.bounds (IsBox 1)
  pub few : reader.started ≤ 65536
  pub draft : IfSome reader.draft IsDraft
  pub fresh : IfSome reader.draft (IsFresh reader.glyphs.items)

-- a line was taken
pub record IsTaken (keyword : Keyword) (text : List ℕ) (old new : Reader) : Type 0 where
  pub reader : IsReader new
  pub valid : place_fault (past_of old) keyword text ≡ None
  pub next : past_of new ≡ step_in_place (past_of old) keyword text

-- or was not
abbrev pub IsLineFault : Option FontKind → LineFault → Type 0
IsLineFault fault Memory = ⊤
IsLineFault fault (Wrong kind) = fault ≡ Some kind
