-- The status of a command whose script was not compiled.
use Rattle.script_stream.specs.declared.faults.CompileFault.{CompileFault}
use Rattle.script_stream.specs.declared.faults.CompileFault.TheVariants as compile
use Rattle.script_stream.specs.declared.faults.SendFault.TheVariants as send
use Rattle.sub_base.specs.declared.status.Which.TheVariants as which
use Rattle.dvbsub_cmd.specs.declared.status.Status.{Status}
use Rattle.dvbsub_cmd.specs.declared.status.Status.TheVariants as status

-- the status of a command by the fault that kept its packets from being made, or from being written to the output
abbrev pub status_of_fault : CompileFault → Status
status_of_fault (compile.Send send.Memory) = status.Memory
status_of_fault (compile.Send (send.Plan fault)) = status.PlanRefused fault
status_of_fault (compile.Send (send.Schedule row fault)) = status.ScheduleRefused row fault
status_of_fault compile.Write = status.WriteFault which.Out
