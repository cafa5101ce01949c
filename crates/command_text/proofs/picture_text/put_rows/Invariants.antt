use Rattle.std.proofs.Common.{ℕ}
use Rattle.std.specs.List.{flat_map, range_with_len}
use Rattle.command_text.specs.PictureText.{plane_row, row_line}
use Rattle.command_text.specs.Putting.{PutsOut}
use Rattle.command_text.proofs.picture_text.put_rows.Given as goal

abbrev pub invariant-loop-y : goal.invariant-loop-y
invariant-loop-y g l =
    PutsOut
    (g.K.Sink.received l.fn.sink)
    (g.K.Sink.received l.sink)
    l.fn.buffer l.buffer (flat_map (λ (y : ℕ). row_line (plane_row l.width l.plane y)) (range_with_len 0 l.y))
