-- The sets of a plan as they are sent: their times rise, each has a place, and their places together are all slots, in
-- order.
use Rattle.std.proofs.Common.{◌≡◌, ◌∙◌, ℕ, suc, ◌+◌, ◌<◌, ◌≤◌, List, [], ◌∷◌, ◌++◌, length, map, take, drop, refl, sym, ap, subst, arith, get_or}
use Rattle.std.specs.Prelude.{flat_map}
use Rattle.std.specs.List.Sorted.{IsStrictlyIncreasing}
use Rattle.std.proofs.lemmas.List.{get_or-take, length-take-le, drop_all}
use Rattle.std.proofs.lemmas.List.Folds.{drop_split}
use Rattle.sub_base.specs.declared.load.WriteLoad.{WriteLoad}
use Rattle.sub_base.specs.declared.pace.Pace.{Pace}
use Rattle.sub_base.specs.declared.profile.Profile.{Profile}
use Rattle.cue_list.specs.declared.script.Script.{Script}
use Rattle.page_epoch.specs.Plan.{IsPlan}
use Rattle.page_epoch.specs.declared.planned_set.PlannedSet.{PlannedSet}
use Rattle.schedule.specs.Packets.{packets_of, first_packet}
use Rattle.schedule.specs.Slots.{Timetable, IsSchedule, start_of, slots_of}
use Rattle.schedule.proofs.SumLaws.{sum_below-suc}
use Rattle.decoder_model.specs.Streams.{SentSet}
use Rattle.sent_sets.proofs.SlotPlaces.{start_is}
use Rattle.shown_stream.specs.SentSets.{sent_from, sent_sets}

-- ---- times

times_are : (table : Timetable) (k : ℕ) (sets : List PlannedSet)
    → map (λ (set : SentSet). set.time) (sent_from table k sets) ≡ map (λ (set : PlannedSet). set.pts) sets
times_are table k [] = refl
times_are table k (set ∷ sets) = ap (λ rest. set.pts ∷ rest) (times_are table (k + 1) sets)

pub front_rises : (xs : List ℕ) (n : ℕ) → n ≤ length xs → IsStrictlyIncreasing xs
    → IsStrictlyIncreasing (take n xs)
front_rises xs n within rise = λ k before.
    let size = length-take-le n xs within in
    let low : k + 1 < n = omega arith in
    let here : get_or (take n xs) k 0 ≡ get_or xs k 0 = get_or-take n xs k 0 (omega arith) in
    let next : get_or (take n xs) (k + 1) 0 ≡ get_or xs (k + 1) 0 = get_or-take n xs (k + 1) 0 low in
    let first : get_or xs k 0 < get_or xs (k + 1) 0 = rise k (omega arith) in
    omega arith

-- the times of the sets of a plan rise
pub times_rise : (script : Script) (profile : Profile) (table : Timetable) (sets : List PlannedSet)
    → IsPlan script profile sets → IsStrictlyIncreasing (map (λ (set : SentSet). set.time) (sent_sets table sets))
times_rise script profile table sets plan =
    let first = plan.planned.first in
    subst IsStrictlyIncreasing (sym (times_are table 0 sets ∙ first.times))
    (front_rises plan.planned.instants (length sets) first.few plan.planned.are_instants.rise)

-- ---- places

one_on : (k : ℕ) → k + 1 ≡ suc k
one_on k = omega arith

-- from a set on, the places of the sets are the slots from its first packet on
places_from : (loads : List WriteLoad) (n : ℕ) (pace : Pace) (table : Timetable) → IsSchedule loads n pace table
    → (k : ℕ) (sets : List PlannedSet) → k + length sets ≡ n
    → flat_map (λ (set : SentSet). set.places) (sent_from table k sets) ≡ drop (start_of table k) table.slots
places_from loads n pace table schedule k [] all =
    let packets = schedule.packets in
    let start = start_is loads n pace table schedule k (omega arith) in
    let same : first_packet loads k ≡ first_packet loads n = ap (first_packet loads) (omega arith) in
    sym (drop_all (start_of table k) table.slots (omega arith))
places_from loads n pace table schedule k (set ∷ sets) all =
    let start = start_is loads n pace table schedule k (omega arith) in
    let end = start_is loads n pace table schedule (suc k) (omega arith) in
    let more = sum_below-suc (packets_of loads) k in
    ap (λ rest. slots_of table k ++ rest)
    (places_from loads n pace table schedule (k + 1) sets (omega arith)
    ∙ ap (λ next. drop (start_of table next) table.slots) (one_on k))
    ∙ sym (drop_split table.slots (start_of table k) (start_of table (suc k)) (omega arith))

-- the places of all sets are all slots, in order; so each packet that is sent has the place of one set, and places rise
-- from set to set, as slots do
pub places_are_slots : (loads : List WriteLoad) (pace : Pace) (table : Timetable) (sets : List PlannedSet)
    → IsSchedule loads (length sets) pace table
    → flat_map (λ (set : SentSet). set.places) (sent_sets table sets) ≡ table.slots
places_are_slots loads pace table sets schedule =
    places_from loads (length sets) pace table schedule 0 sets (omega arith)
