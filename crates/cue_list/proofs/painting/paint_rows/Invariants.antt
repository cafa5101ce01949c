use Rattle.std.proofs.Common.{ℕ}
use Rattle.cue_list.specs.Planes.{PaintsRows}
use Rattle.cue_list.proofs.painting.paint_rows.Given as goal

abbrev pub invariant-loop-row : goal.invariant-loop-row
invariant-loop-row l = (height : ℕ)
    → PaintsRows l.entries l.picture l.left l.top l.see_through l.width height l.row l.initial.plane l.plane
