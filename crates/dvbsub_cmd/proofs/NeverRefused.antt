-- Neither plan nor schedule refuses a generated script.
use Rattle.std.proofs.Common.{◌≡◌, ◌⊎◌, ℕ, inl, inr, refl}
use Rattle.cue_list.specs.declared.script.Script.{Script}
use Rattle.generated_script.specs.Generated.{IsGenerated}
use Rattle.page_epoch.specs.Refusals.{IsPlanCause}
use Rattle.page_epoch.specs.declared.fault.PlanFault.{PlanFault}
use Rattle.page_epoch.specs.declared.fault.PlanFault.TheVariants as plan
use Rattle.schedule.specs.declared.fault.ScheduleFault.{ScheduleFault}
use Rattle.schedule.specs.declared.fault.ScheduleFault.TheVariants as schedule
use Rattle.sub_base.specs.Profile.{profile_of}
use Rattle.sub_base.specs.declared.profile.ProfileName.{ProfileName}
use Rattle.sub_base.specs.declared.profile.ProfileName.TheVariants.{Sd, Hd, Wide, Large}
use Rattle.generated_script_laws.proofs.PlanFaults.{no_plan_fault}
use Rattle.generated_script_laws.proofs.GeneratedSchedule.{no_schedule_fault}
use Rattle.script_stream.specs.Refused.{IsCompileEnd, IsPlanRefused, IsSchedulable, IsScheduleRefused}
use Rattle.script_stream.specs.declared.faults.CompileFault.{CompileFault}
use Rattle.script_stream.specs.declared.faults.CompileFault.TheVariants as compile
use Rattle.script_stream.specs.declared.faults.SendFault.TheVariants as send
use Rattle.sub_base.specs.Endpoints.{Received}
use Rattle.dvbsub_words.specs.Command.{IsGeneratedFor}
use Rattle.dvbsub_cmd.specs.Private.Generating.{IsWanting}
use Rattle.shown_stream.specs.Compiled.{Compiling}

small : (name : ProfileName) → IsGeneratedFor name → (name ≡ Sd) ⊎ (name ≡ Hd)
small Sd is_for = inl refl
small Hd is_for = inr refl
small Wide is_for = absurd is_for
small Large is_for = absurd is_for

-- a plan's fault that can be none but want of memory is no refusal
no_plan_refusal : (name : ProfileName) (script : Script) (fault : PlanFault)
    → (IsPlanCause script (profile_of name) fault → fault ≡ plan.Memory) → IsPlanRefused name script fault
    → ⊥
no_plan_refusal name script plan.Memory none refused = refused
no_plan_refusal name script (plan.DisplayTooLarge row) none refused =
    let same : plan.DisplayTooLarge row ≡ plan.Memory = none refused in cc
no_plan_refusal name script (plan.PixelFull row need) none refused =
    let same : plan.PixelFull row need ≡ plan.Memory = none refused in cc
no_plan_refusal name script (plan.CompositionFull row need) none refused =
    let same : plan.CompositionFull row need ≡ plan.Memory = none refused in cc

-- and nor is a schedule's
no_schedule_refusal : (name : ProfileName) (script : Script) (row : ℕ) (fault : ScheduleFault)
    → fault ≡ schedule.Memory → IsScheduleRefused name script row fault → ⊥
no_schedule_refusal name script row schedule.Memory none refused = refused.row_is
no_schedule_refusal name script row (schedule.CodedFull set size) none refused = cc
no_schedule_refusal name script row (schedule.Late set done pts) none refused = cc
no_schedule_refusal name script row (schedule.SegmentFull set longest) none refused = cc

-- a generated script has a plan and a schedule
never_refused : (number : ℕ) (name : ProfileName) (script : Script) → IsGeneratedFor name
    → IsGenerated number script → IsSchedulable name script
never_refused number name script is_for is = record {
  has_plan =
      λ fault refused. no_plan_refusal name script fault
      (no_plan_fault number script name fault (small name is_for) is) refused;
  has_schedule = λ row fault refused. no_schedule_refusal name script row fault
      (no_schedule_fault number script name refused.sets refused.loads fault (small name is_for) is refused.planned.plan
      refused.planned.asked refused.each refused.cause) refused;
}

-- so it is compiled, but for want of memory
pub only_wanting : (number : ℕ) (compiling : Compiling) (before now : Received)
    (fault : CompileFault) → IsGeneratedFor compiling.profile → IsGenerated number compiling.script
    → IsCompileEnd compiling before now fault → IsWanting fault
only_wanting number compiling before now (compile.Send send.Memory) is_for is ended = tt
only_wanting number compiling before now (compile.Send (send.Plan refused)) is_for is ended =
    (never_refused number compiling.profile compiling.script is_for is).has_plan refused ended.0
only_wanting number compiling before now (compile.Send (send.Schedule row refused)) is_for is ended =
    (never_refused number compiling.profile compiling.script is_for is).has_schedule row refused ended.0
only_wanting number compiling before now compile.Write is_for is ended = tt
