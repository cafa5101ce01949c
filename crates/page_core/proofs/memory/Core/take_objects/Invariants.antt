-- The objects so far are taken.
use Rattle.std.proofs.Common.{List, length}
use Rattle.decoder_model.specs.Readings.{Content}
use Rattle.page_core.specs.Handed.{AreContents}
use Rattle.page_core.specs.Memory.{HoldsSegments}
use Rattle.page_core.specs.Private.SetSteps.{KeepsButObjects}
use Rattle.page_core.proofs.Objects.ObjectWalks.{AreTaken}
use Rattle.page_core.proofs.memory.Core.take_objects.Given as goal

abbrev pub invariant-loop-next : goal.invariant-loop-next
invariant-loop-next l = record {
  taken : (older set : List Content) → HoldsSegments older l.fn.self → AreContents set l.fn.bytes
      → AreTaken older set l.self l.rest;
  rest : KeepsButObjects l.fn.self l.self;
}

abbrev pub decreases-loop-next : goal.decreases-loop-next
decreases-loop-next l = length l.rest
