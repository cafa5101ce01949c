use Rattle.std.proofs.Common.{◌≡◌, drop}
use Rattle.slot_stream.specs.SlotStream.{place_from}
use Rattle.page_pair.proofs.sharing.number_of.Given as goal

abbrev pub invariant-loop-n : goal.invariant-loop-n
invariant-loop-n l = place_from 0 l.cue l.shared ≡ place_from l.n l.cue (drop l.n l.shared)
