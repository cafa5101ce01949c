use Rattle.std.proofs.Common.{◌≡◌, ◌+◌, ◌*◌, ℕ, ℤ, true, subst, arith}
use Rattle.std.proofs.lemmas.Int.{ints, to_z-of_z}
use mir.Syntax.{w32}
use Rattle.bitmap_font.specs.Font.{is_set}
use Rattle.bitmap_font.specs.Drawing.{PaintsWhere, IsInkOfRow}
use Rattle.bitmap_font.proofs.DrawingLaws.{IsInkOfRow-set, IsInkOfRow-passed}
use Rattle.bitmap_font.proofs.drawing.draw_row.Goals as goal
use Rattle.bitmap_font.proofs.drawing.draw_row.Goals.{then-is_set+in-Some, then-is_set+in_default, else-is_set}

pub loop-glyph_column-preserved : goal.loop-glyph_column-preserved
loop-glyph_column-preserved c height =
    let before = c.loop-glyph_column in
    elim c.if-is_set.branch [
      | then-is_set+in-Some w ↦
          let x = w.in-Some.x in
          let ink : is_set c.args.glyph.now before.glyph_column c.args.glyph_row ≡ true = cc in
          let place : w.from-in-Some.result * w.from-in-Some-2.result + w.from-in-Some-3.result
          ≡ c.args.y * c.args.width + x = cc in
          rw (w.codes-is, place)
          (IsInkOfRow-set c.args.glyph.now c.args.glyph_row _ c.args.y before.glyph_column c.args.width height
          c.args.ink c.args.codes.now before.codes (before.invariant height)
          x ink w.in-Some.ensures.inside.0 (omega (arith, ints, w.in-Some.ensures.inside.1))
          (omega (arith, w.in-Some.ensures.inside.0)))
      | then-is_set+in_default w ↦
          rw w.codes-is
          (IsInkOfRow-passed c.args.glyph.now c.args.glyph_row _ c.args.y before.glyph_column c.args.width height
          c.args.ink c.args.codes.now before.codes (before.invariant height)
          (λ column across inked at. w.in_default.ensures.outside column across (omega (arith, ints))))
      | else-is_set w ↦
          rw w.codes-is
          (IsInkOfRow-passed c.args.glyph.now c.args.glyph_row _ c.args.y before.glyph_column c.args.width height
          c.args.ink c.args.codes.now before.codes (before.invariant height)
          (λ column across inked at. cc))
    ]

pub returns : goal.returns
returns c height =
    let all : c.loop-glyph_column.glyph_column ≡ c.args.glyph.now.width = omega arith in
    let P : ℕ → ℤ
    → Type 0 = λ n left. PaintsWhere (IsInkOfRow c.args.glyph.now c.args.glyph_row left c.args.y n) c.args.width
    height c.args.ink c.args.codes.now c.loop-glyph_column.codes in
    subst (λ (n : ℕ). P n c.args.left) all
    (subst (P c.loop-glyph_column.glyph_column) (to_z-of_z w32 c.args.left c.ranges.left)
    (c.loop-glyph_column.invariant height))
