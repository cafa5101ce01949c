use Rattle.std.proofs.Common.{ℕ}
use Rattle.cue_list.specs.Planes.{FillsRows}
use Rattle.cue_list.proofs.painting.fill_rows.Given as goal

abbrev pub invariant-loop-row : goal.invariant-loop-row
invariant-loop-row l = (height : ℕ) → FillsRows l.colour l.region l.width height l.row l.initial.plane l.plane
