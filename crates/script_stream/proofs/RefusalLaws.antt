-- The set that a refusal of the schedule is about.
use Rattle.std.proofs.Common.{◌≡◌, ap, List, length, arith}
use Rattle.cue_list.specs.declared.script.Script.{Script}
use Rattle.page_epoch.specs.declared.planned_set.PlannedSet.{PlannedSet}
use Rattle.schedule.specs.Refusals.{IsScheduleCause}
use Rattle.schedule.specs.declared.fault.ScheduleFault.{ScheduleFault}
use Rattle.schedule.specs.declared.fault.ScheduleFault.TheVariants as schedule
use Rattle.set_coder.specs.SetSizes.{IsSetLoad}
use Rattle.shown_stream.specs.Compiled.{AreLoads}
use Rattle.sub_base.specs.declared.load.WriteLoad.{WriteLoad}
use Rattle.sub_base.specs.declared.pace.Pace.{Pace}
use Rattle.script_stream.proofs.UnitLaws.{AllZip-length}
use Rattle.script_stream.specs.Private.Sending.{IsAmong}

-- the set of a schedule's fault is one of the plan
pub among : (script : Script) (sets : List PlannedSet) (loads given : List WriteLoad) (pace : Pace)
    (refused : ScheduleFault) → AreLoads script sets loads → given ≡ loads → IsScheduleCause given pace refused
    → IsAmong sets refused
among script sets loads given pace schedule.Memory asked same cause = tt
among script sets loads given pace (schedule.CodedFull set size) asked same cause =
    omega (arith, AllZip-length (IsSetLoad script) sets loads asked, ap length same, cause.among)
among script sets loads given pace (schedule.Late set done pts) asked same cause =
    omega (arith, AllZip-length (IsSetLoad script) sets loads asked, ap length same, cause.among)
among script sets loads given pace (schedule.SegmentFull set longest) asked same cause =
    omega (arith, AllZip-length (IsSetLoad script) sets loads asked, ap length same, cause.among)
