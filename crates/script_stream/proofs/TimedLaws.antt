-- The sets of a script's plan in the slots of their schedule.
use Rattle.std.proofs.Common.{◌≡◌, refl, subst, ◌^◌, ◌<◌, List, length, All}
use Rattle.std.specs.List.Sorted.{IsStrictlyIncreasing}
use Rattle.cue_list.specs.declared.script.Script.{Script}
use Rattle.page_epoch.specs.Plan.{IsPlan}
use Rattle.page_epoch.specs.Sendable.{IsOfItsEpoch}
use Rattle.page_epoch.specs.declared.planned_set.PlannedSet.{PlannedSet}
use Rattle.schedule.specs.Slots.{IsLoad, IsOnTime, IsSchedule, Timetable}
use Rattle.shown_stream.specs.Compiled.{AreLoads, sent_pace}
use Rattle.sub_base.specs.Pace.{pace_of}
use Rattle.sub_base.specs.Profile.{profile_of}
use Rattle.sub_base.specs.declared.load.WriteLoad.{WriteLoad}
use Rattle.sub_base.specs.declared.pace.Pace.{Pace}
use Rattle.sub_base.specs.declared.profile.Profile.{Profile}
use Rattle.sub_base.specs.declared.profile.ProfileName.{ProfileName}
use Rattle.script_stream.proofs.SendLaws.{paced, sets_fit}
use Rattle.script_stream.specs.Private.Timing.{IsTimed}

-- what is scheduled of the loads that are lent is so of the plan's sets
pub is_timed : (name : ProfileName) (script : Script) (sets own : List PlannedSet) (loads given : List WriteLoad)
    (receiver : Profile) (table : Timetable) → receiver ≡ profile_of name → IsPlan script (profile_of name) own
    → All (IsOfItsEpoch script) own → sets ≡ own → AreLoads script sets loads → All IsLoad loads → given ≡ loads
    → IsSchedule given (length given) (pace_of script.origin receiver) table
    → IsOnTime given (length given) (pace_of script.origin receiver) table
    → IsStrictlyIncreasing table.slots → All (λ slot. slot < 2 ^ 56) table.slots
    → IsTimed name script own loads table
is_timed name script sets own loads given receiver table is_profile plan sendable same lent each is schedule on_time
    rise small =
    let asked : AreLoads script own loads = subst (λ (s : List PlannedSet). AreLoads script s loads) same lent in
    let in_pace : (P : List WriteLoad → Pace → Type 0) → P given (pace_of script.origin receiver)
    → P loads (sent_pace name script) =
    λ P holds. paced name script P loads given receiver is_profile is holds in
    let slots : IsSchedule loads (length loads) (sent_pace name script) table =
    in_pace (λ all pace. IsSchedule all (length all) pace table) schedule in
    let ready : IsOnTime loads (length loads) (sent_pace name script) table =
    in_pace (λ all pace. IsOnTime all (length all) pace table) on_time in
    record {
      planned = record { plan = plan; asked = asked };
      each = each;
      schedule = slots;
      on_time = ready;
      ready = record {
        sendable = sendable;
        fit = sets_fit script own loads loads (sent_pace name script) table asked refl ready;
        asked = asked;
        slotted = record {
          sets = slots.sets.1;
          ends = slots.ends;
          packets = slots.packets;
          rise = rise;
          small = small;
        };
      };
    }
