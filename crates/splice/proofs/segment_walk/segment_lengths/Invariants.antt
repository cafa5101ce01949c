-- The lengths so far, and those of the segments that are left.
use Rattle.std.proofs.Common.{◌+◌, ◌*◌, ◌≤◌, All, length}
use Rattle.pes_packets.specs.Units.{IsSegmentLength}
use Rattle.splice.proofs.WalkLaws.{AreLengthsSo}
use Rattle.splice.proofs.segment_walk.segment_lengths.Given as goal

abbrev pub invariant-loop-segment : goal.invariant-loop-segment
invariant-loop-segment l = record {
  so : AreLengthsSo l.fn.bytes l.rest l.lengths.items;
  each : All IsSegmentLength l.lengths.items;
  few : 6 * length l.lengths.items + length l.rest ≤ length l.fn.bytes;
}

abbrev pub decreases-loop-segment : goal.decreases-loop-segment
decreases-loop-segment l = length l.rest
