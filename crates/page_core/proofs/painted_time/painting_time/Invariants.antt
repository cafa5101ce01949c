-- The regions so far are painted, each of which has some bytes.
use Rattle.std.proofs.Common.{◌≤◌, ◌+◌, ◌*◌, List, length}
use Rattle.decoder_model.specs.Readings.{Content}
use Rattle.page_core.specs.Handed.{AreContents}
use Rattle.page_core.proofs.Pictures.PaintedTimes.{ArePainted}
use Rattle.page_core.proofs.painted_time.painting_time.Given as goal

abbrev pub invariant-loop-next : goal.invariant-loop-next
invariant-loop-next l = ((set : List Content) → AreContents set l.fn.bytes → ArePainted set l.ticks l.rest)
    × (l.ticks + length l.rest * 67108864 ≤ length l.fn.bytes * 67108864)

abbrev pub decreases-loop-next : goal.decreases-loop-next
decreases-loop-next l = length l.rest
