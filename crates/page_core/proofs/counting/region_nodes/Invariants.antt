-- The regions so far are counted.
use Rattle.std.proofs.Common.{length}
use Rattle.page_core.proofs.Counts.RegionWalks.{IsCountingAny}
use Rattle.page_core.proofs.counting.region_nodes.Given as goal

abbrev pub invariant-loop-next : goal.invariant-loop-next
invariant-loop-next l = IsCountingAny l.composition l.fn.bytes l.rest l.nodes.added l.nodes.gone

abbrev pub decreases-loop-next : goal.decreases-loop-next
decreases-loop-next l = length l.rest
