-- Why no packets of a script are sent.
use Rattle.std.specs.Prelude.{◌≡◌, ℕ, List, All, slice_get, Some}
use Rattle.std.specs.Io.KnownBytes.{Keeps}
use Rattle.cue_list.specs.declared.script.Script.{Script}
use Rattle.page_epoch.specs.Refusals.{IsPlanCause}
use Rattle.page_epoch.specs.declared.fault.PlanFault.{PlanFault}
use Rattle.page_epoch.specs.declared.fault.PlanFault.TheVariants as plan
use Rattle.page_epoch.specs.declared.planned_set.PlannedSet.{PlannedSet}
use Rattle.schedule.specs.Refusals.{IsScheduleCause}
use Rattle.schedule.specs.Slots.{IsLoad}
use Rattle.schedule.specs.declared.fault.ScheduleFault.{ScheduleFault}
use Rattle.schedule.specs.declared.fault.ScheduleFault.TheVariants as fault
use Rattle.shown_stream.specs.Compiled.{IsCompiledTo, IsPlanned, Compiling}
use Rattle.sub_base.specs.Counts.{HasRisen}
use Rattle.sub_base.specs.Endpoints.{AppendsPrefix, Received}
use Rattle.sub_base.specs.Pace.{pace_of}
use Rattle.sub_base.specs.Profile.{profile_of}
use Rattle.sub_base.specs.declared.profile.ProfileName.{ProfileName}
use Rattle.sub_base.specs.declared.load.WriteLoad.{WriteLoad}
use Rattle.script_stream.specs.declared.faults.CompileFault.{CompileFault}
use Rattle.script_stream.specs.declared.faults.CompileFault.TheVariants as compile
use Rattle.script_stream.specs.declared.faults.SendFault.{SendFault}
use Rattle.script_stream.specs.declared.faults.SendFault.TheVariants as send

-- the plan is refused for this reason
abbrev pub IsPlanRefused : ProfileName → Script → PlanFault → Type 0
IsPlanRefused profile script plan.Memory = ⊥
IsPlanRefused profile script (plan.DisplayTooLarge row) =
    IsPlanCause script (profile_of profile) (plan.DisplayTooLarge row)
IsPlanRefused profile script (plan.PixelFull row need) =
    IsPlanCause script (profile_of profile) (plan.PixelFull row need)
IsPlanRefused profile script (plan.CompositionFull row need) =
    IsPlanCause script (profile_of profile) (plan.CompositionFull row need)

-- the record of the script that brings the set at that place
pub record IsRowAt (sets : List PlannedSet) (place row : ℕ) : Type 0 where
  pub set : PlannedSet
  pub found : slice_get sets place ≡ Some set
  pub brings : row ≡ set.row

-- the record of the set that a schedule's fault is about; want of memory is about none
abbrev pub IsRowOf : List PlannedSet → ScheduleFault → ℕ → Type 0
IsRowOf sets fault.Memory row = ⊥
IsRowOf sets (fault.CodedFull set size) row = IsRowAt sets set row
IsRowOf sets (fault.Late set done pts) row = IsRowAt sets set row
IsRowOf sets (fault.SegmentFull set longest) row = IsRowAt sets set row

-- the script has a plan, each set of which can be scheduled by itself, and the schedule of its sets is refused for this
-- reason, at the set that the record brings
pub record IsScheduleRefused (profile : ProfileName) (script : Script) (row : ℕ)
    (fault : ScheduleFault) : Type 0 where
  pub sets : List PlannedSet
  pub loads : List WriteLoad
  pub planned : IsPlanned profile script sets loads
  pub each : All IsLoad loads
  pub cause : IsScheduleCause loads (pace_of script.origin (profile_of profile)) fault
  pub row_is : IsRowOf sets fault row

-- neither plan nor schedule refuses the script
pub record IsSchedulable (profile : ProfileName) (script : Script) : Type 0 where
  pub has_plan : (fault : PlanFault) → IsPlanRefused profile script fault → ⊥
  pub has_schedule : (row : ℕ) (fault : ScheduleFault) → IsScheduleRefused profile script row fault → ⊥

-- why a script has no stream; memory may want at any time
abbrev pub IsSendCause : ProfileName → Script → SendFault → Type 0
IsSendCause profile script send.Memory = Unit {0}
IsSendCause profile script (send.Plan fault) = IsPlanRefused profile script fault
IsSendCause profile script (send.Schedule row fault) = IsScheduleRefused profile script row fault

-- why the packets of a script were not all written, and what was: nothing, or a prefix of them where the sink failed
abbrev pub IsCompileEnd : Compiling → Received → Received → CompileFault → Type 0
IsCompileEnd compiling before now (compile.Send fault) =
    IsSendCause compiling.profile compiling.script fault × Keeps before.written now.written
IsCompileEnd compiling before now compile.Write =
    (packets : List ℕ) × IsCompiledTo compiling packets
    × AppendsPrefix before.written now.written packets × HasRisen before.faults now.faults
