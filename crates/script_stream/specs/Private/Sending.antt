-- The stream of a script that is made, and what is answered where a plan or a schedule is refused.
use Rattle.std.specs.Prelude.{◌≡◌, ℕ, ◌^◌, ◌<◌, List, length, All}
use Rattle.std.specs.List.Sorted.{IsStrictlyIncreasing}
use Rattle.page_epoch.specs.declared.fault.PlanFault.{PlanFault}
use Rattle.page_epoch.specs.declared.fault.PlanFault.TheVariants as plan
use Rattle.page_epoch.specs.declared.planned_set.PlannedSet.{PlannedSet}
use Rattle.schedule.specs.Packets.{first_packet}
use Rattle.schedule.specs.Slots.{Timetable}
use Rattle.schedule.specs.declared.fault.ScheduleFault.{ScheduleFault}
use Rattle.schedule.specs.declared.fault.ScheduleFault.TheVariants as schedule
use Rattle.sub_base.specs.declared.load.WriteLoad.{WriteLoad}
use Rattle.script_stream.specs.Private.SetUnits.{AreCut}
use Rattle.script_stream.specs.Refused.{IsRowAt}
use Rattle.script_stream.specs.SentScripts.{units_in}
use Rattle.script_stream.specs.declared.faults.SendFault.{SendFault}
use Rattle.script_stream.specs.declared.faults.SendFault.TheVariants as fault

-- what a stream keeps to: the bytes of each set are cut as its load says, and each packet has a slot, which rise
pub record IsWritable (pid : ℕ) (loads : List WriteLoad) (written : List (List ℕ))
    (table : Timetable) : Type 0 where
  pub pid_is : pid < 8192
  pub cut : AreCut loads written (units_in loads written)
  pub packets : length table.slots ≡ first_packet loads (length loads)
  pub rise : IsStrictlyIncreasing table.slots
  pub small : All (λ slot. slot < 2 ^ 56) table.slots

-- a refusal of the plan as one of sending
abbrev pub plan_refusal : PlanFault → SendFault
plan_refusal plan.Memory = fault.Memory
plan_refusal (plan.DisplayTooLarge row) = fault.Plan (plan.DisplayTooLarge row)
plan_refusal (plan.PixelFull row need) = fault.Plan (plan.PixelFull row need)
plan_refusal (plan.CompositionFull row need) = fault.Plan (plan.CompositionFull row need)

-- the set that a schedule's fault is about is one of these
abbrev pub IsAmong : List PlannedSet → ScheduleFault → Type 0
IsAmong sets schedule.Memory = Unit {0}
IsAmong sets (schedule.CodedFull set size) = set < length sets
IsAmong sets (schedule.Late set done pts) = set < length sets
IsAmong sets (schedule.SegmentFull set longest) = set < length sets

-- a refusal of the schedule as one of sending, with the record that brings the set
abbrev pub IsScheduleRefusal : List PlannedSet → ScheduleFault → SendFault → Type 0
IsScheduleRefusal sets schedule.Memory answer = answer ≡ fault.Memory
IsScheduleRefusal sets (schedule.CodedFull set size) answer =
    (row : ℕ) × IsRowAt sets set row × (answer ≡ fault.Schedule row (schedule.CodedFull set size))
IsScheduleRefusal sets (schedule.Late set done pts) answer =
    (row : ℕ) × IsRowAt sets set row × (answer ≡ fault.Schedule row (schedule.Late set done pts))
IsScheduleRefusal sets (schedule.SegmentFull set longest) answer =
    (row : ℕ) × IsRowAt sets set row × (answer ≡ fault.Schedule row (schedule.SegmentFull set longest))
