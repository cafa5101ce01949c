use Rattle.std.proofs.Common.{arith}
use Rattle.std.proofs.lemmas.Int.{ints}
use Rattle.bitmap_font.proofs.DrawingLaws.{IsInkOfGlyph-row, IsInkOfGlyph-passed}
use Rattle.bitmap_font.proofs.drawing.draw_glyph.Goals as goal
use Rattle.bitmap_font.proofs.drawing.draw_glyph.Goals.{in-Some, in_default}

pub loop-glyph_row-preserved : goal.loop-glyph_row-preserved
loop-glyph_row-preserved c =
    let before = c.loop-glyph_row in
    elim c.match-place_within.branch [
      | in-Some w ↦
          rw w.codes-is
          (IsInkOfGlyph-row c.args.glyph.now _ _ before.glyph_row c.args.width c.args.height c.args.ink c.args.codes.now
          before.codes before.invariant
          w.in-Some.y (omega (arith, ints, w.in-Some.ensures.inside.1)) w.draw_row.new.codes
          (w.draw_row.ensures c.args.height))
      | in_default w ↦
          rw w.codes-is
          (IsInkOfGlyph-passed c.args.glyph.now _ _ before.glyph_row c.args.width c.args.height c.args.ink
          c.args.codes.now before.codes before.invariant
          (λ row down at. w.in_default.ensures.outside row down (omega (arith, ints))))
    ]
