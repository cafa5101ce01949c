use Rattle.std.proofs.Common.{◌≡◌, ℕ, ◌<◌, ◌≤◌, get_or}
use Rattle.sub_base.specs.Colour.{clear}
use Rattle.cue_list.proofs.painting.fill_row.Given as goal

abbrev pub invariant-loop-place : goal.invariant-loop-place
invariant-loop-place l = record {
  painted : (place : ℕ) → l.start ≤ place → place < l.place → get_or l.plane place clear ≡ l.colour;
  before : (place : ℕ) → place < l.start → get_or l.plane place clear ≡ get_or l.initial.plane place clear;
  left : (place : ℕ) → l.place ≤ place → get_or l.plane place clear ≡ get_or l.initial.plane place clear;
}
