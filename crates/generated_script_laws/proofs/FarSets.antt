-- Small sets of a generated script that are shown far apart: their schedule is refused for want of memory alone.
use Rattle.std.proofs.Common.{◌≡◌, ◌∙◌, ℕ, ◌+◌, ◌<◌, ◌≤◌, List, [], ◌∷◌, length, map, get_or, Some, None, ◌⊎◌, inl, inr, ap, sym, subst, arith}
use Rattle.std.specs.Prelude.{slice_get, slice_index, All}
use Rattle.std.specs.List.{AllZip}
use Rattle.std.proofs.lemmas.List.{get_or-map, length-map}
use Rattle.std.proofs.lemmas.List.Elements.{All-nil, All-cons, All-head, All-tail}
use Rattle.std.proofs.lemmas.Option.{slice_get_cases}
use Rattle.sub_base.specs.Pace.{IsSending, pace_of}
use Rattle.sub_base.specs.declared.load.WriteLoad.{WriteLoad}
use Rattle.sub_base.specs.declared.profile.Profile.{Profile}
use Rattle.schedule.specs.Refusals.{IsScheduleCause}
use Rattle.schedule.specs.Slots.{IsLoad}
use Rattle.schedule.specs.declared.fault.ScheduleFault.{ScheduleFault}
use Rattle.schedule.specs.declared.fault.ScheduleFault.TheVariants.{Memory}
use Rattle.spaced_set_laws.specs.Apart.{IsSmall, AreWellApart}
use Rattle.spaced_set_laws.proofs.ApartSets.{times_of, never_refused}
use Rattle.cue_list.specs.declared.script.Script.{Script}
use Rattle.page_epoch.specs.declared.planned_set.PlannedSet.{PlannedSet}
use Rattle.set_coder.specs.SetSizes.{IsSetLoad}
use Rattle.generated_script.specs.Generated.{IsGenerated}
use Rattle.generated_script_laws.specs.Listed.{AreFarApart}
use Rattle.generated_script_laws.specs.SmallLoads.{IsSmallSet, IsSmallLoad}
use Rattle.generated_script_laws.proofs.SmallSets.{set_small}

-- a small load is that of one PES packet of at most 2,000 bytes
small_enough : (load : WriteLoad) → IsSmallLoad load → IsSmall load
small_enough load is = record {
  one = ap length is.one;
  size = omega (arith, is.whole, is.short);
  longest = omega (arith, is.longest);
  painted = is.painted;
}

-- what holds of what comes of each such set holds of all that comes of a list of them
each_load : (Has : PlannedSet → WriteLoad → Type 0) (P : WriteLoad → Type 0) (Q : PlannedSet
    → Type 0) (sets : List PlannedSet) (loads : List WriteLoad)
    → ((set : PlannedSet) (load : WriteLoad) → Q set → Has set load → P load) → All Q sets
    → AllZip Has sets loads
    → All P loads
each_load Has P Q [] [] each such all = All-nil P
each_load Has P Q [] (load ∷ loads) each such all = absurd all
each_load Has P Q (set ∷ sets) [] each such all = absurd all
each_load Has P Q (set ∷ sets) (load ∷ loads) each such all =
    All-cons P load loads (each set load (All-head Q set sets such) all.0)
    (each_load Has P Q sets loads each (All-tail Q set sets such) all.1)

-- a set of a list, and its time in the list of times
time_there : (sets : List PlannedSet) (i : ℕ) → i < length sets
    → (set : PlannedSet) × (slice_get sets i ≡ Some set)
    × (slice_index (map (λ (other : PlannedSet). other.pts) sets) i ≡ set.pts)
time_there sets i h = by (slice_get_cases sets i).1
  where
    by : ((set : PlannedSet) × (i < length sets) × (slice_get sets i ≡ Some set) × (get_or sets i set ≡ set))
        ⊎ ((length sets ≤ i) × (slice_get sets i ≡ None))
        → (set : PlannedSet) × (slice_get sets i ≡ Some set)
        × (slice_index (map (λ (other : PlannedSet). other.pts) sets) i ≡ set.pts)
    by (inl there) = (
      there.0,
      there.2,
      get_or-map (λ (other : PlannedSet). other.pts) sets i there.0 0 h
          ∙ ap (λ (set : PlannedSet). set.pts) there.3,
    )
    by (inr past) = absurd (omega (arith, h, past.0))

-- the times of the sets of the plan are far apart
times_apart : (sets : List PlannedSet) → AreFarApart sets → AreWellApart 0 (map (λ (set : PlannedSet). set.pts) sets)
times_apart sets are = record {
  first = λ some.
      let set = time_there sets 0 (omega (arith, some, length-map sets (λ (other : PlannedSet). other.pts))) in
      omega (arith, are.first set.0 set.1, set.2);
  next = λ i below.
      let before = time_there sets i (omega (arith, below, length-map sets (λ (other : PlannedSet). other.pts))) in
      let set = time_there sets (i + 1) (omega (arith, below, length-map sets (λ (other : PlannedSet). other.pts))) in
      omega (arith, are.next i before.0 set.0 before.1 set.1, before.2, set.2);
}

-- no schedule of small sets of a generated script that are far apart is refused but for want of memory
pub never_refused_by : (number : ℕ) (script : Script) (profile : Profile) (sets : List PlannedSet)
    (loads : List WriteLoad) (fault : ScheduleFault) → IsSending profile → IsGenerated number script
    → AreFarApart sets
    → All (IsSmallSet script) sets → AllZip (IsSetLoad script) sets loads → All IsLoad loads
    → IsScheduleCause loads (pace_of script.origin profile) fault → fault ≡ Memory
never_refused_by number script profile sets loads fault sending made far few are each cause =
    let small =
    each_load (IsSetLoad script) IsSmall (IsSmallSet script) sets loads
    (λ set load such is. small_enough load (set_small number script set load made such is)) few are in
    let times = times_of (IsSetLoad script) (λ (set : PlannedSet). set.pts) (λ set load is. is.time) sets loads are in
    let apart =
    subst (λ (origin : ℕ). AreWellApart origin (map (λ (set : PlannedSet). set.pts) sets)) (sym made.origin)
    (times_apart sets far) in
    never_refused loads (map (λ (set : PlannedSet). set.pts) sets) script.origin profile fault sending each small times
    apart cause
