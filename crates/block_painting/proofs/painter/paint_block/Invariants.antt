use Rattle.std.proofs.Common.{length}
use Rattle.block_painting.specs.Private.Pens.{stand_of}
use Rattle.block_painting.proofs.Walks.{IsWalking}
use Rattle.block_painting.proofs.painter.paint_block.Given as goal

abbrev pub invariant-loop : goal.invariant-loop
invariant-loop l =
    IsWalking (record { slot = l.slot; region = l.region; place = l.place }) l.fn.store l.bytes l.store (stand_of l.pen)

abbrev pub decreases-loop : goal.decreases-loop
decreases-loop l = length l.pen.rest.now
