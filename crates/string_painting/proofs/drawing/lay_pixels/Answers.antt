use Rattle.std.proofs.Common.{◌≡◌, ◌∙◌, sym, ℕ}
use Rattle.string_painting.specs.Painting.{laid_over, region_code}
use Rattle.string_painting.proofs.Laying.{LaysPixels-run, covers_other, covers_all}
use Rattle.string_painting.proofs.drawing.lay_pixels.Goals as goal
use Rattle.string_painting.proofs.drawing.lay_pixels.Goals.{else-brush-via-then-brush+else-read-eq1, else-brush-via-else-brush}

pub returns : goal.returns
returns c =
    let brush = c.args.brush in
    let read = c.args.read in
    let new = region_code c.args.brush c.args.table.now c.args.read in
    let same : (old : ℕ) → laid_over c.args.brush c.args.table.now old c.args.read ≡ c.region_code-code.result =
    elim c.else-brush.branch [
      | else-brush-via-then-brush+else-read-eq1 w ↦ λ old.
          covers_other brush.see_through read old new w.if-read-eq1.false ∙ sym c.region_code-code.ensures.code
      | else-brush-via-else-brush w ↦ λ old.
          covers_all brush.see_through read old new w.if-brush.false ∙ sym c.region_code-code.ensures.code
    ] in
    LaysPixels-run brush.region (laid_over brush c.args.table.now) c.args.place.width c.args.place.x c.args.count read
    c.region_code-code.result c.args.row.now c.paint_run.new.row same c.paint_run.ensures
