use Rattle.std.proofs.Common.{ℕ}
use Rattle.bitmap_font.specs.Drawing.{PaintsWhere, IsInkOfRow}
use Rattle.bitmap_font.proofs.drawing.draw_row.Given as goal

abbrev pub invariant-loop-glyph_column : goal.invariant-loop-glyph_column
invariant-loop-glyph_column l = (height : ℕ) →
    PaintsWhere (IsInkOfRow l.glyph l.glyph_row l.left l.y l.glyph_column) l.width height l.ink l.initial.codes l.codes
