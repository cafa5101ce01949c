-- The times of the sets that come to a receiver are lifted as they are, by an anchor that suits those of which a packet
-- comes.
use Rattle.std.proofs.Common.{◌≡◌, ◌∙◌, ℕ, zero, suc, ◌+◌, ◌<◌, ◌≤◌, Bool, true, false, ◌||◌, ◌&&◌, cond, List, [], ◌∷◌, length, drop, Some, None, refl, ap, arith}
use Rattle.std.specs.Prelude.{nat_le, slice_get}
use Rattle.std.specs.List.{AllByRecursion, list_all, list_any}
use Rattle.std.specs.List.Sorted.{IsStrictlyIncreasing}
use Rattle.cue_list.specs.Sound.{IsTick}
use Rattle.page_epoch.specs.declared.planned_set.PlannedSet.{PlannedSet}
use Rattle.schedule.specs.Slots.{Timetable}
use Rattle.decoder_model.specs.Streams.{is_from, entry_set}
use Rattle.shown_stream.specs.SentSets.{sent_set, sent_from}
use Rattle.shown_stream.proofs.Shown.EnteredRuns.{AreFrom}
use Rattle.shown_stream.proofs.Sent.PlannedOrder.{rest_rises}
use Rattle.shown_stream.proofs.Sent.PlannedTimes.{pts_of}
use Rattle.shown_stream.proofs.Shown.ShownSets.{IsAheadOf, AreAheadOf}
use Rattle.stream_syntax.specs.declared.wire.TheConstants.{TIME_ROUND}

-- ---- packets

-- of a set of which all packets come one does, as it has some
pub one_of_all : (missed : ℕ) (places : List ℕ) → 1 ≤ length places
    → list_all (λ at. nat_le missed at) places ≡ true → list_any (λ at. nat_le missed at) places ≡ true
one_of_all missed [] some all = absurd (omega arith)
one_of_all missed (place ∷ places) some all = by (nat_le missed place) refl all
  where
    by : (b : Bool) → nat_le missed place ≡ b → (b && list_all (λ at. nat_le missed at) places) ≡ true
        → list_any (λ at. nat_le missed at) (place ∷ places) ≡ true
    by true is e = ap (λ b. b || list_any (λ at. nat_le missed at) places) is
    by false is e = absurd (cc)

-- ---- the sets that are left

-- behind a set all later ones are ahead of it, and near
pub near_all : (anchor origin last : ℕ) (left : List PlannedSet) → origin < TIME_ROUND → IsTick origin last
    → AllByRecursion (IsTick origin) (pts_of left) → IsStrictlyIncreasing (last ∷ pts_of left)
    → AreAheadOf anchor (Some last) left
near_all anchor origin last [] low from within rise = tt
near_all anchor origin last (set ∷ left) low from within rise =
    let first : last < set.pts = rise 0 (omega arith) in
    let late = from.late in
    let early = within.0.early in (
      (first, omega arith),
      omega arith,
      near_all anchor origin set.pts left low within.0 within.1
          (rest_rises last (pts_of (set ∷ left)) rise),
    )

-- the first set of all by the anchor
pub near_first : (anchor origin : ℕ) (left : List PlannedSet) → origin < TIME_ROUND
    → AllByRecursion (IsTick origin) (pts_of left) → IsStrictlyIncreasing (pts_of left)
    → ((set : PlannedSet) → slice_get left 0 ≡ Some set → IsAheadOf anchor None set.pts)
    → AreAheadOf anchor None left
near_first anchor origin [] low within rise suits = tt
near_first anchor origin (set ∷ left) low within rise suits =
    let early = within.0.early in
    (suits set refl, omega arith, near_all anchor origin set.pts left low within.0 within.1 rise)

pub drop_within : (P : ℕ → Type 0) (n : ℕ) (sets : List PlannedSet) → AllByRecursion P (pts_of sets)
    → AllByRecursion P (pts_of (drop n sets))
drop_within P zero sets h = h
drop_within P (suc n) [] h = tt
drop_within P (suc n) (set ∷ sets) h = drop_within P n sets h.1

pub drop_rises : (n : ℕ) (sets : List PlannedSet) → IsStrictlyIncreasing (pts_of sets)
    → IsStrictlyIncreasing (pts_of (drop n sets))
drop_rises zero sets rise = rise
drop_rises (suc n) [] rise = rise
drop_rises (suc n) (set ∷ sets) rise = drop_rises n sets (rest_rises set.pts (pts_of sets) rise)

pub drop_found : (n : ℕ) (sets : List PlannedSet) (set : PlannedSet) → slice_get sets n ≡ Some set
    → drop n sets ≡ set ∷ drop (suc n) sets
drop_found n [] set found = absurd (cc)
drop_found zero (first ∷ sets) set found = let same : first ≡ set = cc in ap (λ one. one ∷ sets) same
drop_found (suc n) (first ∷ sets) set found = drop_found n sets set found

pub found_drop : (n : ℕ) (sets : List PlannedSet) (set : PlannedSet) → slice_get (drop n sets) 0 ≡ Some set
    → slice_get sets n ≡ Some set
found_drop zero sets set found = found
found_drop (suc n) [] set found = absurd (cc)
found_drop (suc n) (first ∷ sets) set found = found_drop n sets set found

-- ---- the entry set

-- sets of which a packet is missed are no entry sets
pub entry_behind : (missed : ℕ) (table : Timetable) (k number : ℕ) (sets : List PlannedSet)
    → ((i : ℕ) (set : PlannedSet) → i < k → slice_get sets i ≡ Some set
    → is_from missed (sent_set table (number + i) set) ≡ false)
    → entry_set missed (sent_from table number sets) ≡ entry_set missed (sent_from table (number + k) (drop k sets))
entry_behind missed table zero number sets none = ap (λ n. entry_set missed (sent_from table n sets)) (omega arith)
entry_behind missed table (suc k) number [] none = refl
entry_behind missed table (suc k) number (set ∷ sets) none =
    let here : is_from missed (sent_set table number set) ≡ false =
    ap (λ n. is_from missed (sent_set table n set)) (omega arith) ∙ none 0 set (omega arith) refl in
    let behind =
    entry_behind missed table k (number + 1) sets
    (λ i one inside found. ap (λ n. is_from missed (sent_set table n one)) (omega arith)
    ∙ none (suc i) one (omega arith) found) in
    ap (λ b. cond (begins && b) (Some (sent_set table number set))
    (entry_set missed (sent_from table (number + 1) sets))) here
    ∙ by begins
    ∙ behind
    ∙ ap (λ n. entry_set missed (sent_from table n (drop k sets))) (omega arith)
  where
    begins : Bool
    begins = (sent_set table number set).is_entry

    by : (b : Bool)
        → cond (b && false) (Some (sent_set table number set))
        (entry_set missed (sent_from table (number + 1) sets)) ≡ entry_set missed (sent_from table (number + 1) sets)
    by true = refl
    by false = refl

-- from one on the packets of all sets come
pub are_from : (missed : ℕ) (table : Timetable) (first number : ℕ) (left : List PlannedSet) → first ≤ number
    → ((i : ℕ) (set : PlannedSet) → i < number + length left → first ≤ i
    → is_from missed (sent_set table i set) ≡ true)
    → AreFrom missed table number left
are_from missed table first number [] from all = tt
are_from missed table first number (set ∷ left) from all = (
  all number set (omega arith) from,
  are_from missed table first (number + 1) left (omega arith)
      (λ i one inside later. all i one (omega arith) later),
)
