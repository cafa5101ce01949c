use Rattle.std.proofs.Common.{ℕ, ◌+◌, ◌≤◌, List}
use Rattle.set_coder.specs.Private.Measuring.{IsMeasured, CanTake}
use Rattle.set_coder.specs.Private.SizesLeft.{IsMeasurable, segments_left}
use Rattle.set_coder.proofs.MeasureLaws.{AreFirstSizes}
use Rattle.set_coder.proofs.set_sizes.measure.Given as goal

abbrev pub invariant-loop-segment : goal.invariant-loop-segment
invariant-loop-segment l = record {
  can : IsMeasurable l.segments;
  few : (count : ℕ) × CanTake l.measured count × (count + segments_left l.segments ≤ 5000);
  measured : (past : List ℕ) × AreFirstSizes l.script l.set l.segments past × IsMeasured past l.measured;
}

abbrev pub decreases-loop-segment : goal.decreases-loop-segment
decreases-loop-segment l = segments_left l.segments
