-- The rows so far are drawn.
use Rattle.std.proofs.Common.{◌≡◌, ◌+◌, ◌*◌, ◌<◌, ℕ, slice_index_or}
use Rattle.sub_base.specs.Colour.{clear}
use Rattle.page_core.specs.Rows.{picture_in}
use Rattle.band_draw.proofs.drawing.band_into.Given as goal

abbrev pub invariant-loop-i : goal.invariant-loop-i
invariant-loop-i l = (k : ℕ) → k < l.i * l.width
    → slice_index_or l.part k clear ≡ slice_index_or (picture_in l.scene) (l.start + k) clear
