use Rattle.pixel_store.specs.Private.Painting.{Fills}
use Rattle.pixel_store.proofs.extent.fill_each_row.Given as goal

abbrev pub invariant-loop-y : goal.invariant-loop-y
invariant-loop-y l = Fills l.extent l.y l.code l.initial.bytes l.bytes
