-- Sets whose places rise, each of which has one, and whose times rise, stand in order.
use Rattle.std.proofs.Common.{◌≡◌, ℕ, ◌+◌, ◌<◌, ◌≤◌, true, List, [], ◌∷◌, ◌++◌, length, arith}
use Rattle.std.specs.Prelude.{flat_map, nat_le}
use Rattle.std.specs.List.{AllByRecursion, list_all}
use Rattle.std.proofs.lemmas.Bool.Decides.{nat_tests}
use Rattle.decoder_model.specs.Streams.{SentSet, is_from}
use Rattle.slot_stream.proofs.LaidPackets.{IsAhead}
use Rattle.sent_sets.proofs.SlotPlaces.{sooner, all_ahead, from_all}
use Rattle.shown_stream.proofs.Late.LateTicks.{AreInOrder, no_set, set_first}

behind_ahead : (least : ℕ) (xs ys : List ℕ) → IsAhead least (xs ++ ys) → IsAhead least ys
behind_ahead least [] ys h = h
behind_ahead least (x ∷ xs) ys h =
    let first = h.0 in sooner least (x + 1) ys (omega arith) (behind_ahead (x + 1) xs ys h.1)

front_all : (P : ℕ → Type 0) (xs ys : List ℕ) → AllByRecursion P (xs ++ ys) → AllByRecursion P xs
front_all P [] ys h = tt
front_all P (x ∷ xs) ys h = (h.0, front_all P xs ys h.1)

back_all : (P : ℕ → Type 0) (xs ys : List ℕ) → AllByRecursion P (xs ++ ys) → AllByRecursion P ys
back_all P [] ys h = h
back_all P (x ∷ xs) ys h = back_all P xs ys h.1

sets_from : (j : ℕ) (sets : List SentSet)
    → AllByRecursion (λ place. j ≤ place) (flat_map (λ (set : SentSet). set.places) sets)
    → AllByRecursion (λ (later : SentSet). is_from j later ≡ true) sets
sets_from j [] h = tt
sets_from j (set ∷ sets) h = (
  from_all j set.places
      (front_all (λ place. j ≤ place) set.places (flat_map (λ (set : SentSet). set.places) sets) h),
  sets_from j sets (back_all (λ place. j ≤ place) set.places (flat_map (λ (set : SentSet). set.places) sets) h),
)

later_ones : (j least : ℕ) (places rest : List ℕ) → 1 ≤ length places → IsAhead least (places ++ rest)
    → list_all (λ at. nat_le j at) places ≡ true → AllByRecursion (λ place. j ≤ place) rest
later_ones j least [] rest some h from = absurd (omega arith)
later_ones j least (place ∷ places) rest some h from =
    let low : j ≤ place = grind (arith, nat_tests) in
    all_ahead j rest (sooner j (place + 1) rest (omega arith) (behind_ahead (place + 1) places rest h.1))

-- times that rise
abbrev pub DoRise : List SentSet → Type 0
DoRise [] = Unit {0}
DoRise (set ∷ sets) = AllByRecursion (λ (later : SentSet). set.time ≤ later.time) sets × DoRise sets

pub in_order : (count least : ℕ) (sets : List SentSet)
    → AllByRecursion (λ (set : SentSet). 1 ≤ length set.places) sets
    → IsAhead least (flat_map (λ (set : SentSet). set.places) sets)
    → AllByRecursion (λ place. place < count) (flat_map (λ (set : SentSet). set.places) sets) → DoRise sets
    → AreInOrder count sets
in_order count least [] some ahead within rise = no_set
in_order count least (set ∷ sets) some ahead within rise =
    let rest = flat_map (λ (set : SentSet). set.places) sets in
    set_first (front_all (λ place. place < count) set.places rest within)
    (λ j from. sets_from j sets (later_ones j least set.places rest some.0 ahead from)) rise.0
    (in_order count least sets some.1 (behind_ahead least set.places rest ahead)
    (back_all (λ place. place < count) set.places rest within) rise.1)
