use Rattle.std.proofs.Common.{◌≤◌, ◌-◌, List, length, take}
use Rattle.stream_syntax.specs.PixelBlocks.{Part, AreParts}
use Rattle.pixel_codes.proofs.block.check_block.Given as goal

abbrev pub invariant-loop-place : goal.invariant-loop-place
invariant-loop-place l =
    (l.place ≤ length l.bytes) × (parts : List Part) × AreParts l.depth parts (take l.place l.bytes)

abbrev pub decreases-loop-place : goal.decreases-loop-place
decreases-loop-place l = length l.bytes - l.place
