use Rattle.std.proofs.Common.{◌≡◌, ℕ, ◌+◌, ◌<◌, ◌≤◌, get_or}
use Rattle.indexed_picture.specs.Painting.{code_over}
use Rattle.indexed_picture.proofs.picture.paint_row.Given as goal

abbrev pub invariant-loop-place : goal.invariant-loop-place
invariant-loop-place l = record {
  painted : (k : ℕ) → k < l.place
      → get_or l.codes (l.start + k) 0
      ≡ code_over l.see_through (get_or l.initial.codes (l.start + k) 0) (get_or l.row k 0);
  before : (place : ℕ) → place < l.start → get_or l.codes place 0 ≡ get_or l.initial.codes place 0;
  left : (place : ℕ) → l.start + l.place ≤ place → get_or l.codes place 0 ≡ get_or l.initial.codes place 0;
}
