-- The CLUT segments so far are taken.
use Rattle.std.proofs.Common.{length}
use Rattle.page_core.specs.Private.ClutSteps.{AreColoured, IsKeptBeside}
use Rattle.page_core.proofs.ColourTables.ClutSegments.{IsTakingAny}
use Rattle.page_core.proofs.cluts.take_cluts.Given as goal

abbrev pub invariant-loop-next : goal.invariant-loop-next
invariant-loop-next l = record {
  coloured : AreColoured l.composition l.inks l.marks;
  keeps : IsKeptBeside l.fn.composition l.composition;
  taking : IsTakingAny l.fn.composition l.fn.inks l.fn.bytes l.composition l.inks l.rest;
}

abbrev pub decreases-loop-next : goal.decreases-loop-next
decreases-loop-next l = length l.rest
