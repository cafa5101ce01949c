use Rattle.schedule.proofs.MakeLaws.{IsScheduled}
use Rattle.schedule.proofs.schedule.Schedule.search.Given as goal

abbrev pub invariant-loop-set : goal.invariant-loop-set
invariant-loop-set l = IsScheduled l.loads l.pace l.set l.slots.items l.ends.items l.dones.items l.shown l.search
