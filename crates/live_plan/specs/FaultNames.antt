-- The names of the faults of a live run.
use Rattle.std.specs.Prelude.{ℕ, List, codes}
use Rattle.live_plan.specs.declared.faults.LiveFault.{LiveFault}
use Rattle.live_plan.specs.declared.faults.LiveFault.TheVariants as live
use Rattle.live_plan.specs.declared.faults.RowFault.{RowFault}
use Rattle.live_plan.specs.declared.faults.RowFault.TheVariants as refused

-- the name of a row's fault
abbrev pub row_fault_name : RowFault → List ℕ
row_fault_name refused.Memory = codes "Memory"
row_fault_name (refused.Records count) = codes "Records"
row_fault_name (refused.Script kind) = codes "Script"
row_fault_name (refused.Early horizon) = codes "Early"
row_fault_name (refused.Plan fault) = codes "Plan"
row_fault_name (refused.Schedule fault) = codes "Schedule"

-- the name of a script's fault
abbrev pub live_fault_name : LiveFault → List ℕ
live_fault_name (live.Font fault) = codes "Font"
live_fault_name live.NoEpoch = codes "NoEpoch"
