use Rattle.std.proofs.Common.{◌≡◌, map, take}
use Rattle.page_epoch.specs.declared.planned_set.PlannedSet.{PlannedSet}
use Rattle.dvbsub_cmd.proofs.gen_text.times_of.Given as goal

abbrev pub invariant-loop-set : goal.invariant-loop-set
invariant-loop-set l = l.times.items ≡ map (λ (set : PlannedSet). set.pts) (take l.set-index l.sets)
