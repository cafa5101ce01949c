-- The sets of a plan, as they are sent in the slots of their schedule, stand in order.
use Rattle.std.proofs.Common.{◌≡◌, ℕ, suc, ◌+◌, ◌<◌, ◌≤◌, List, [], ◌∷◌, length, map, get_or, sym, subst, arith}
use Rattle.std.specs.List.{AllByRecursion}
use Rattle.std.specs.List.Sorted.{IsStrictlyIncreasing}
use Rattle.sub_base.specs.declared.load.WriteLoad.{WriteLoad}
use Rattle.sub_base.specs.declared.pace.Pace.{Pace}
use Rattle.sub_base.specs.declared.profile.Profile.{Profile}
use Rattle.cue_list.specs.declared.script.Script.{Script}
use Rattle.page_epoch.specs.Plan.{IsPlan}
use Rattle.page_epoch.specs.declared.planned_set.PlannedSet.{PlannedSet}
use Rattle.schedule.specs.Packets.{size_of}
use Rattle.schedule.specs.Slots.{Timetable, IsSchedule}
use Rattle.decoder_model.specs.Streams.{SentSet}
use Rattle.shown_stream.specs.SentSets.{sent_from, sent_sets}
use Rattle.slot_stream.proofs.LaidPackets.{IsAhead}
use Rattle.shown_stream.proofs.Late.LateTicks.{AreInOrder}
use Rattle.shown_stream.proofs.Sent.SentOrder.{DoRise, in_order}
use Rattle.shown_stream.proofs.Sent.SentPlaces.{times_rise, places_are_slots}
use Rattle.sent_sets.proofs.RisingSlots.{slots_rise}
use Rattle.sent_sets.proofs.SlotPlaces.{has_place}

pub rest_rises : (x : ℕ) (xs : List ℕ) → IsStrictlyIncreasing (x ∷ xs) → IsStrictlyIncreasing xs
rest_rises x xs rise = λ k within.
    let same : suc k + 1 ≡ suc (k + 1) = omega arith in
    subst (λ (place : ℕ). get_or xs k 0 < get_or (x ∷ xs) place 0) same (rise (suc k) (omega arith))

weaker : (x y : ℕ) (xs : List ℕ) → x ≤ y → AllByRecursion (λ z. y ≤ z) xs
    → AllByRecursion (λ z. x ≤ z) xs
weaker x y [] le h = tt
weaker x y (z ∷ xs) le h = let first = h.0 in (omega arith, weaker x y xs le h.1)

pub all_above : (x : ℕ) (xs : List ℕ) → IsStrictlyIncreasing (x ∷ xs) → AllByRecursion (λ y. x ≤ y) xs
all_above x [] rise = tt
all_above x (y ∷ ys) rise =
    let first : x < y = rise 0 (omega arith) in
    (omega arith, weaker x y ys (omega arith) (all_above y ys (rest_rises x (y ∷ ys) rise)))

of_sets : (time : ℕ) (sets : List SentSet)
    → AllByRecursion (λ y. time ≤ y) (map (λ (set : SentSet). set.time) sets)
    → AllByRecursion (λ (later : SentSet). time ≤ later.time) sets
of_sets time [] h = tt
of_sets time (set ∷ sets) h = (h.0, of_sets time sets h.1)

do_rise : (sets : List SentSet) → IsStrictlyIncreasing (map (λ (set : SentSet). set.time) sets) → DoRise sets
do_rise [] rise = tt
do_rise (set ∷ sets) rise = (
  of_sets set.time sets (all_above set.time (map (λ (set : SentSet). set.time) sets) rise),
  do_rise sets
      (rest_rises set.time (map (λ (set : SentSet). set.time) sets) rise),
)

have_places : (loads : List WriteLoad) (n : ℕ) (pace : Pace) (table : Timetable) → IsSchedule loads n pace table
    → ((i : ℕ) → i < n → 1 ≤ size_of loads i) → (k : ℕ) (sets : List PlannedSet) → k + length sets ≡ n
    → AllByRecursion (λ (set : SentSet). 1 ≤ length set.places) (sent_from table k sets)
have_places loads n pace table schedule some k [] all = tt
have_places loads n pace table schedule some k (set ∷ sets) all = (
  has_place loads n pace table schedule k (omega arith) (some k (omega arith)),
  have_places loads n pace table
      schedule some (k + 1) sets (omega arith),
)

-- where each set has bytes, and the stream so many packets that each slot is one of them
pub sets_in_order : (script : Script) (profile : Profile) (loads : List WriteLoad) (pace : Pace) (table : Timetable)
    (sets : List PlannedSet) (count : ℕ) → IsPlan script profile sets → IsSchedule loads (length sets) pace table
    → ((i : ℕ) → i < length sets → 1 ≤ size_of loads i)
    → AllByRecursion (λ slot. slot < count) table.slots → AreInOrder count (sent_sets table sets)
sets_in_order script profile loads pace table sets count plan schedule some within =
    let places = places_are_slots loads pace table sets schedule in
    in_order count 0 (sent_sets table sets)
    (have_places loads (length sets) pace table schedule some 0 sets (omega arith))
    (subst (IsAhead 0) (sym places) (slots_rise loads (length sets) pace table schedule))
    (subst (AllByRecursion (λ slot. slot < count)) (sym places) within)
    (do_rise (sent_sets table sets) (times_rise script profile table sets plan))
