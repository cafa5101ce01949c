use Rattle.std.proofs.Common.{◌≡◌, ◌*◌, length}
use Rattle.conformance.proofs.hostile_sets.put_regions.Given as goal

-- each region so far has sixteen bytes
abbrev pub invariant-loop-place : goal.invariant-loop-place
invariant-loop-place l = length l.segments.items ≡ 16 * l.place
