-- What a schedule asks of the load of a set.
use Rattle.std.proofs.Common.{◌^◌, ◌<◌, ◌≤◌, arith}
use Rattle.sub_base.specs.declared.load.WriteLoad.{WriteLoad}
use Rattle.schedule.specs.Slots.{IsLoad}
use Rattle.cue_list.specs.declared.script.Script.{Script}
use Rattle.page_epoch.specs.declared.planned_set.PlannedSet.{PlannedSet}
use Rattle.set_coder.specs.SetSizes.{IsSetLoad}

pub is_load : (script : Script) (set : PlannedSet) (load : WriteLoad) → IsSetLoad script set load
    → 1 ≤ load.load.size → load.load.pts < 2 ^ 34 → load.load.painted ≤ 274877906944 → IsLoad load
is_load script set load asked some early short =
    record { some = some; size = asked.size; pts = omega (arith, early); painted = omega (arith, short) }
