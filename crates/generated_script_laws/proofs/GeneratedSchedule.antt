-- The sets of the plan of a generated script are small, and their schedule is refused for want of memory alone.
use Rattle.std.proofs.Common.{◌≡◌, ◌⊎◌, inl, inr, ℕ, List, get_or, sym, subst, refl}
use Rattle.std.specs.Prelude.{All}
use Rattle.std.specs.List.{AllZip, Contains}
use Rattle.std.proofs.lemmas.List.Elements.{All-contains_itself}
use Rattle.sub_base.specs.Pace.{IsSending, pace_of}
use Rattle.sub_base.specs.Profile.{profile_of}
use Rattle.sub_base.specs.declared.load.WriteLoad.{WriteLoad}
use Rattle.sub_base.specs.declared.profile.Profile.{Profile}
use Rattle.sub_base.specs.declared.profile.ProfileName.{ProfileName}
use Rattle.sub_base.specs.declared.profile.ProfileName.TheVariants.{Sd, Hd}
use Rattle.schedule.specs.Refusals.{IsScheduleCause}
use Rattle.schedule.specs.Slots.{IsLoad}
use Rattle.schedule.specs.declared.fault.ScheduleFault.{ScheduleFault}
use Rattle.schedule.specs.declared.fault.ScheduleFault.TheVariants.{Memory}
use Rattle.cue_list.specs.declared.script.Script.{Script}
use Rattle.page_epoch.specs.Plan.{IsPlan}
use Rattle.page_epoch.specs.declared.planned_set.PlannedSet.{PlannedSet}
use Rattle.set_coder.specs.SetSizes.{IsSetLoad}
use Rattle.generated_script.specs.Generated.{IsGenerated}
use Rattle.generated_script_laws.proofs.ListedCues.{lists_few}
use Rattle.generated_script_laws.proofs.PlanTicks.{sets_apart}
use Rattle.generated_script_laws.specs.SmallLoads.{IsSmallSet, IsSmallLoad}
use Rattle.generated_script_laws.proofs.SmallSets.{set_small}
use Rattle.generated_script_laws.proofs.FarSets.{never_refused_by}

-- the sets of the plan list few cues
planned_few : (number : ℕ) (script : Script) (profile : Profile) (sets : List PlannedSet)
    → IsGenerated number script → IsPlan script profile sets → All (IsSmallSet script) sets
planned_few number script profile sets made plan place other below =
    λ epoch found. lists_few number script profile sets (get_or sets place other) epoch made plan
    (All-contains_itself sets place other below) found

-- so the load of each is small
pub planned_small : (number : ℕ) (script : Script) (profile : Profile) (sets : List PlannedSet) (set : PlannedSet)
    (load : WriteLoad) → IsGenerated number script → IsPlan script profile sets → Contains sets set
    → IsSetLoad script set load → IsSmallLoad load
planned_small number script profile sets set load made plan one is =
    set_small number script set load made
    (λ epoch found. lists_few number script profile sets set epoch made plan one found) is

-- their schedule is refused for want of memory alone, in each profile in which packets are sent
pub schedule_never_refused : (number : ℕ) (script : Script) (profile : Profile) (sets : List PlannedSet)
    (loads : List WriteLoad) (fault : ScheduleFault) → IsSending profile → IsGenerated number script
    → IsPlan script profile sets → AllZip (IsSetLoad script) sets loads → All IsLoad loads
    → IsScheduleCause loads (pace_of script.origin profile) fault → fault ≡ Memory
schedule_never_refused number script profile sets loads fault sending made plan are each cause =
    never_refused_by number script profile sets loads fault sending made
    (sets_apart number script profile sets made plan) (planned_few number script profile sets made plan) are each cause

-- so in the profiles of receivers of standard and of high definition
pub no_schedule_fault : (number : ℕ) (script : Script) (name : ProfileName) (sets : List PlannedSet)
    (loads : List WriteLoad) (fault : ScheduleFault)
    → (name ≡ Sd) ⊎ (name ≡ Hd) → IsGenerated number script → IsPlan script (profile_of name) sets
    → AllZip (IsSetLoad script) sets loads → All IsLoad loads
    → IsScheduleCause loads (pace_of script.origin (profile_of name)) fault → fault ≡ Memory
no_schedule_fault number script name sets loads fault one made plan are each cause =
    schedule_never_refused number script (profile_of name) sets loads fault (sending one) made plan are each cause
  where
    sending : (name ≡ Sd) ⊎ (name ≡ Hd) → IsSending (profile_of name)
    sending (inl sd) = subst (λ (n : ProfileName). IsSending (profile_of n)) (sym sd) ((Sd, refl), refl)
    sending (inr hd) = subst (λ (n : ProfileName). IsSending (profile_of n)) (sym hd) ((Hd, refl), refl)
