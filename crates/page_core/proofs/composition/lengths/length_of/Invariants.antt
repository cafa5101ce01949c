-- The nodes so far are counted.
use Rattle.std.proofs.Common.{◌≡◌, ◌+◌, length}
use Rattle.comp_pool.specs.Pool.{list_of}
use Rattle.page_core.proofs.composition.lengths.length_of.Given as goal

abbrev pub invariant-loop-count : goal.invariant-loop-count
invariant-loop-count l = l.count + length l.walk ≡ length (list_of l.pool l.list)

abbrev pub decreases-loop-count : goal.decreases-loop-count
decreases-loop-count l = length l.walk
