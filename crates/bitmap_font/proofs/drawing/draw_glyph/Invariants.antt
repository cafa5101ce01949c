use Rattle.bitmap_font.specs.Drawing.{PaintsWhere, IsInkOfGlyph}
use Rattle.bitmap_font.proofs.drawing.draw_glyph.Given as goal

abbrev pub invariant-loop-glyph_row : goal.invariant-loop-glyph_row
invariant-loop-glyph_row l =
    PaintsWhere (IsInkOfGlyph l.glyph l.left l.top l.glyph_row) l.width l.height l.ink l.initial.codes l.codes
