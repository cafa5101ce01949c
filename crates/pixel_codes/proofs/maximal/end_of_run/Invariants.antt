use Rattle.std.proofs.Common.{◌≡◌, ◌+◌, ◌-◌, ◌≤◌, length, drop}
use Rattle.std.specs.List.{prefix_len}
use Rattle.pixel_codes.specs.Private.Maximal.{is_code}
use Rattle.pixel_codes.proofs.maximal.end_of_run.Given as goal

abbrev pub invariant-loop-place : goal.invariant-loop-place
invariant-loop-place l =
    (prefix_len (is_code l.code) l.codes ≡ l.place + prefix_len (is_code l.code) (drop l.place l.codes))
    × (l.place ≤ length l.codes)

abbrev pub decreases-loop-place : goal.decreases-loop-place
decreases-loop-place l = length l.codes - l.place
