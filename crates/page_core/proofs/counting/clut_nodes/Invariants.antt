-- The CLUT segments so far are counted.
use Rattle.std.proofs.Common.{◌≡◌, length, map}
use Rattle.page_core.specs.Private.Marks.{uncounted}
use Rattle.page_core.proofs.Counts.ClutCounts.{IsCountingAny}
use Rattle.page_core.proofs.counting.clut_nodes.Given as goal

abbrev pub invariant-loop-next : goal.invariant-loop-next
invariant-loop-next l = record {
  marks : map uncounted l.marks ≡ map uncounted l.fn.marks;
  counting : IsCountingAny l.composition l.fn.marks l.fn.bytes l.rest l.versions l.marks l.nodes;
}

abbrev pub decreases-loop-next : goal.decreases-loop-next
decreases-loop-next l = length l.rest
