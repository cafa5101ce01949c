use Rattle.std.proofs.Common.{take, All}
use Rattle.schedule.specs.Slots.{IsLoad}
use Rattle.shown_stream.specs.Compiled.{AreLoads}
use Rattle.script_stream.proofs.loads.loads_of.Given as goal

abbrev pub invariant-loop-set : goal.invariant-loop-set
invariant-loop-set l = AreLoads l.script (take l.set-index l.sets) l.loads.items × All IsLoad l.loads.items
