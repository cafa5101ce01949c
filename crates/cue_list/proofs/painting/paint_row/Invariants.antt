use Rattle.std.proofs.Common.{◌≡◌, ℕ, ◌+◌, ◌<◌, ◌≤◌, get_or}
use Rattle.sub_base.specs.Colour.{clear}
use Rattle.cue_list.specs.Planes.{colour_over}
use Rattle.cue_list.proofs.painting.paint_row.Given as goal

abbrev pub invariant-loop-place : goal.invariant-loop-place
invariant-loop-place l = record {
  painted : (k : ℕ) → k < l.place
      → get_or l.plane (l.start + k) clear
      ≡ colour_over l.entries l.see_through (get_or l.codes k 0) (get_or l.initial.plane (l.start + k) clear);
  before : (place : ℕ) → place < l.start → get_or l.plane place clear ≡ get_or l.initial.plane place clear;
  left : (place : ℕ) → l.start + l.place ≤ place
      → get_or l.plane place clear ≡ get_or l.initial.plane place clear;
}
