use Rattle.std.proofs.Common.{◌≡◌, take}
use Rattle.buffer_model.specs.Meters.{held}
use Rattle.buffer_model.proofs.waiting.held.Given as goal

abbrev pub invariant-loop-set : goal.invariant-loop-set
invariant-loop-set l = l.bytes ≡ held l.tick (take l.set-index l.waiting)
