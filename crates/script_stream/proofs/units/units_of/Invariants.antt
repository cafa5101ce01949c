use Rattle.std.proofs.Common.{ℕ, List, take}
use Rattle.script_stream.specs.Private.SetUnits.{AreWritten}
use Rattle.script_stream.proofs.units.units_of.Given as goal

abbrev pub invariant-loop-set : goal.invariant-loop-set
invariant-loop-set l =
    (units : List (List (List ℕ))) × AreWritten l.script l.page (take l.set-index l.sets) l.written.items units
