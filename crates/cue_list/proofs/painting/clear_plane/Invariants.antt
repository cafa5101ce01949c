use Rattle.std.proofs.Common.{◌≡◌, ◌<◌, ℕ, get_or}
use Rattle.sub_base.specs.Colour.{clear}
use Rattle.cue_list.proofs.painting.clear_plane.Given as goal

abbrev pub invariant-loop-place : goal.invariant-loop-place
invariant-loop-place l = (place : ℕ) → place < l.place-index → get_or l.plane place clear ≡ clear
