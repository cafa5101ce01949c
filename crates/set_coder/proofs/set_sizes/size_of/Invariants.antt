use Rattle.std.proofs.Common.{◌≡◌, ℕ, ◌+◌, ◌*◌, ◌^◌, ◌≤◌, List, sum}
use Rattle.pes_packets.specs.Units.{IsOpenAfter}
use Rattle.set_coder.specs.Private.SizesLeft.{IsMeasurable, segments_left}
use Rattle.set_coder.proofs.MeasureLaws.{AreFirstSizes}
use Rattle.set_coder.proofs.set_sizes.size_of.Given as goal

abbrev pub invariant-loop-segment : goal.invariant-loop-segment
invariant-loop-segment l = record {
  can : IsMeasurable l.segments;
  bytes : l.unit.bytes ≤ 2 ^ 31;
  few : l.size + 4294967296 * segments_left l.segments ≤ 4294967296 * 5000;
  measured : (past : List ℕ) × (lengths : List ℕ) × AreFirstSizes l.script l.set l.segments past
      × IsOpenAfter past lengths l.unit.bytes × (l.size ≡ sum lengths);
}

abbrev pub decreases-loop-segment : goal.decreases-loop-segment
decreases-loop-segment l = segments_left l.segments
