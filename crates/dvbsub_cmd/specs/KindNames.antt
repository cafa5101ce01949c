-- The names of what is wrong with a font, as texts show them.
use Rattle.std.specs.Prelude.{ℕ, List, codes}
use Rattle.bitmap_font.specs.declared.font_fault.FontKind.{FontKind}
use Rattle.bitmap_font.specs.declared.font_fault.FontKind.TheVariants as font

-- what is wrong with a line of a font
abbrev pub font_kind_name : FontKind → List ℕ
font_kind_name font.NotBdf = codes "NotBdf"
font_kind_name font.BadNumber = codes "BadNumber"
font_kind_name font.BadRow = codes "BadRow"
font_kind_name font.DoubleGlyph = codes "DoubleGlyph"
font_kind_name font.Truncated = codes "Truncated"
font_kind_name font.TooLarge = codes "TooLarge"
