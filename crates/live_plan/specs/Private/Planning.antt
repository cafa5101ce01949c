-- A script that is planned and scheduled while it grows: what is left of its packets, and the blocks of its pictures.
use Rattle.std.specs.Prelude.{◌≡◌, ℕ, List, ◌++◌}
use Rattle.sub_base.specs.Picture.{Picture}
use Rattle.sub_base.specs.declared.profile.ProfileName.{ProfileName}
use Rattle.cue_list.specs.declared.script.Script.{Script}
use Rattle.script_stream.specs.Refused.{IsPlanRefused, IsScheduleRefused}
use Rattle.script_stream.specs.declared.faults.SendFault.{SendFault}
use Rattle.script_stream.specs.declared.faults.SendFault.TheVariants as send
use Rattle.set_coder.specs.GrownBlocks.{AreBlocksOf}
use Rattle.set_coder.specs.declared.coded_picture.KeptBlocks.{KeptBlocks}
use Rattle.shown_stream.specs.Compiled.{IsCompiledTo, compiling_for}
use Rattle.script_stream.specs.LeftPackets.{ArePacketsLeft}
use Rattle.live_plan.specs.declared.faults.RowFault.{RowFault}
use Rattle.live_plan.specs.declared.faults.RowFault.TheVariants as refused
use Rattle.live_plan.specs.declared.planning.Target.{Target}
use Rattle.script_stream.specs.declared.left.PacketsLeft.{PacketsLeft}

-- whatever the first of these pictures are, their blocks stay
abbrev pub KeepsBlocks : List Picture → KeptBlocks → KeptBlocks → Type 0
KeepsBlocks pictures old new =
    (first more : List Picture) → pictures ≡ first ++ more → AreBlocksOf first old → AreBlocksOf first new

-- what is left of a script's packets behind those that were sent
abbrev pub IsLeftOf : Target → ℕ → Script → PacketsLeft → Type 0
IsLeftOf target sent script left =
    (packets : List ℕ) × IsCompiledTo (compiling_for target.profile target.pid target.page script) packets
    × ArePacketsLeft packets sent left

-- why packets are refused; a record is not tested here
abbrev pub IsSendRefused : ProfileName → Script → RowFault → Type 0
IsSendRefused profile script refused.Memory = Unit {0}
IsSendRefused profile script (refused.Records count) = ⊥
IsSendRefused profile script (refused.Script kind) = ⊥
IsSendRefused profile script (refused.Early horizon) = ⊥
IsSendRefused profile script (refused.Plan fault) = IsPlanRefused profile script fault
IsSendRefused profile script (refused.Schedule fault) = (place : ℕ) × IsScheduleRefused profile script place fault

-- a script that is not sent, as the fault of its last record
abbrev pub refusal_of : SendFault → RowFault
refusal_of send.Memory = refused.Memory
refusal_of (send.Plan fault) = refused.Plan fault
refusal_of (send.Schedule place fault) = refused.Schedule fault
