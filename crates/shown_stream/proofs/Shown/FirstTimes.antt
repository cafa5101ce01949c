-- An anchor has to suit only the sets up to the first that comes whole.
use Rattle.std.proofs.Common.{◌≡◌, ◌∙◌, ℕ, zero, suc, ◌+◌, ◌<◌, Bool, true, false, ◌&&◌, List, [], ◌∷◌, map, filter, Some, None, Option, refl, sym, ap, subst, arith}
use Rattle.std.specs.Bool.{if◌then◌else◌}
use Rattle.std.specs.Prelude.{All, nat_le, slice_get, unwrap_or}
use Rattle.std.specs.Option.{option_map}
use Rattle.std.specs.List.{AllByRecursion, list_all, list_any}
use Rattle.std.proofs.lemmas.List.Elements.{recursion_from_All, All-from_recursion}
use Rattle.std.proofs.lemmas.List.Sums.{AllPass-from_list_all}
use Rattle.sub_base.specs.Lists.{up_to_first}
use Rattle.page_epoch.specs.declared.planned_set.PlannedSet.{PlannedSet}
use Rattle.schedule.specs.Slots.{Timetable, slots_of}
use Rattle.decoder_model.specs.Streams.{SentSet, Sending, is_from, is_received_at, IsReceived}
use Rattle.shown_stream.specs.SentSets.{sent_set, sent_from, times_from, first_times_from, times_received, first_times_received}
use Rattle.shown_stream.specs.Shows.{IsAnchorOf, Suits}

-- of places some come and others do not
module _ (comes : ℕ → Bool) where
  -- a packet of the set comes, and all do
  abbrev some_there : List ℕ → Bool
  some_there places = list_any comes places

  abbrev all_there : SentSet → Bool
  all_there set = list_all comes set.places

  abbrev comes_whole : SentSet → Bool
  comes_whole set = some_there set.places && all_there set

  -- the times of the sets of which a packet comes
  abbrev times_by : List SentSet → List ℕ
  times_by sets = map (λ (set : SentSet). set.time) (filter (λ (set : SentSet). some_there set.places) sets)

  -- the sets up to the first that comes whole
  abbrev first_sets : List SentSet → List SentSet
  first_sets sets = unwrap_or (up_to_first comes_whole sets) sets

  ends_there : (set : SentSet) (sets : List SentSet) → comes_whole set ≡ true
      → first_sets (set ∷ sets) ≡ set ∷ []
  ends_there set sets whole =
      ap (λ b. unwrap_or (if b then Some (set ∷ [])
      else option_map (λ prefix. set ∷ prefix) (up_to_first comes_whole sets)) (set ∷ sets)) whole

  goes_on : (set : SentSet) (sets : List SentSet) → comes_whole set ≡ false
      → first_sets (set ∷ sets) ≡ set ∷ first_sets sets
  goes_on set sets cut =
      ap (λ b. unwrap_or (if b then Some (set ∷ [])
      else option_map (λ prefix. set ∷ prefix) (up_to_first comes_whole sets)) (set ∷ sets)) cut
      ∙ by (up_to_first comes_whole sets)
    where
      by : (found : Option (List SentSet))
          → unwrap_or (option_map (λ prefix. set ∷ prefix) found) (set ∷ sets) ≡ set ∷ unwrap_or found sets
      by None = refl
      by (Some prefix) = refl

  -- of times those of the sets of which a packet comes
  abbrev times_with : Bool → SentSet → List ℕ → List ℕ
  times_with some set later = if some then set.time ∷ later else later

  times_split : (set : SentSet) (sets : List SentSet)
      → times_by (set ∷ sets) ≡ times_with (some_there set.places) set (times_by sets)
  times_split set sets = by (some_there set.places)
    where
      rest : List SentSet
      rest = filter (λ (one : SentSet). some_there one.places) sets

      by : (b : Bool) → map (λ (one : SentSet). one.time) (if b then set ∷ rest else rest)
          ≡ times_with b set (map (λ (one : SentSet). one.time) rest)
      by true = refl
      by false = refl

  -- an anchor that suits all sets of which a packet comes suits these
  fewer : (anchor : ℕ) (sets : List SentSet) → AllByRecursion (Suits anchor) (times_by sets)
      → AllByRecursion (Suits anchor) (times_by (first_sets sets))
  fewer anchor [] suits = tt
  fewer anchor (set ∷ sets) suits = by (fewer anchor sets) (comes_whole set) refl
    where
      split : AllByRecursion (Suits anchor) (times_with (some_there set.places) set (times_by sets))
      split = subst (AllByRecursion (Suits anchor)) (times_split set sets) suits

      front : (b : Bool) → AllByRecursion (Suits anchor) (times_with b set (times_by sets))
          → AllByRecursion (Suits anchor) (times_with b set [])
      front true h = (h.0, tt)
      front false h = tt

      both : (AllByRecursion (Suits anchor) (times_by sets)
          → AllByRecursion (Suits anchor) (times_by (first_sets sets))) → (b : Bool)
          → AllByRecursion (Suits anchor) (times_with b set (times_by sets))
          → AllByRecursion (Suits anchor) (times_with b set (times_by (first_sets sets)))
      both later true h = (h.0, later h.1)
      both later false h = later h

      by : (AllByRecursion (Suits anchor) (times_by sets)
          → AllByRecursion (Suits anchor) (times_by (first_sets sets))) → (b : Bool)
          → comes_whole set ≡ b
          → AllByRecursion (Suits anchor) (times_by (first_sets (set ∷ sets)))
      by later true whole =
          subst (λ found. AllByRecursion (Suits anchor) (times_by found))
          (sym (ends_there set sets whole))
          (subst (AllByRecursion (Suits anchor)) (sym (times_split set []))
          (front (some_there set.places) split))
      by later false cut =
          subst (λ found. AllByRecursion (Suits anchor) (times_by found)) (sym (goes_on set sets cut))
          (subst (AllByRecursion (Suits anchor)) (sym (times_split set (first_sets sets)))
          (both later (some_there set.places) split))

  pub first_all : (anchor : ℕ) (sets : List SentSet) → IsAnchorOf (times_by sets) anchor
      → IsAnchorOf (times_by (first_sets sets)) anchor
  first_all anchor sets suits =
      All-from_recursion (Suits anchor) (times_by (first_sets sets))
      (fewer anchor sets (recursion_from_All (Suits anchor) (times_by sets) suits))

  -- ---- a set before which none comes whole

  none_whole : (some : Bool) → (some && false) ≡ false
  none_whole true = refl
  none_whole false = refl

  suits_in : (anchor number place : ℕ) (table : Timetable) (sets : List PlannedSet) (set : PlannedSet)
      → AllByRecursion (Suits anchor) (times_by (first_sets (sent_from table number sets)))
      → slice_get sets place ≡ Some set → some_there (slots_of table (number + place)) ≡ true
      → ((i : ℕ) (one : PlannedSet) → i < place → slice_get sets i ≡ Some one
      → all_there (sent_set table (number + i) one) ≡ false)
      → Suits anchor set.pts
  suits_in anchor number place table [] set suits found there none = absurd (cc)
  suits_in anchor number zero table (first ∷ sets) set suits found there none =
      subst (λ (one : PlannedSet). Suits anchor one.pts) (let same : first ≡ set = cc in same)
      (by (comes_whole sent) refl)
    where
      sent : SentSet
      sent = sent_set table number first

      rest : List SentSet
      rest = sent_from table (number + 1) sets

      here : some_there (slots_of table number) ≡ true
      here = ap (λ n. some_there (slots_of table n)) (omega arith) ∙ there

      first_suits : (later : List SentSet) → AllByRecursion (Suits anchor) (times_by (sent ∷ later))
          → Suits anchor first.pts
      first_suits later h =
          (subst (λ (b : Bool). AllByRecursion (Suits anchor) (times_with b sent (times_by later))) here
          (subst (AllByRecursion (Suits anchor)) (times_split sent later) h)).0

      by : (b : Bool) → comes_whole sent ≡ b → Suits anchor first.pts
      by true whole =
          first_suits []
          (subst (λ found. AllByRecursion (Suits anchor) (times_by found)) (ends_there sent rest whole)
          suits)
      by false cut =
          first_suits (first_sets rest)
          (subst (λ found. AllByRecursion (Suits anchor) (times_by found)) (goes_on sent rest cut) suits)
  suits_in anchor number (suc place) table (first ∷ sets) set suits found there none =
      suits_in anchor (number + 1) place table sets set
      (behind (some_there sent.places)
      (subst (AllByRecursion (Suits anchor)) (times_split sent (first_sets rest))
      (subst (λ found. AllByRecursion (Suits anchor) (times_by found)) (goes_on sent rest cut) suits)))
      found
      (ap (λ n. some_there (slots_of table n)) (omega arith) ∙ there)
      (λ i one below stands. ap (λ n. all_there (sent_set table n one)) (omega arith)
      ∙ none (suc i) one (omega arith) stands)
    where
      sent : SentSet
      sent = sent_set table number first

      rest : List SentSet
      rest = sent_from table (number + 1) sets

      cut : comes_whole sent ≡ false
      cut =
          ap (λ b. some_there sent.places && b)
          (ap (λ n. all_there (sent_set table n first)) (omega arith) ∙ none 0 first (omega arith) refl)
          ∙ none_whole (some_there sent.places)

      behind : (b : Bool)
          → AllByRecursion (Suits anchor) (times_with b sent (times_by (first_sets rest)))
          → AllByRecursion (Suits anchor) (times_by (first_sets rest))
      behind true h = h.1
      behind false h = h

  -- the anchor suits a set of which a packet comes, where no set before it comes whole
  first_in : (anchor number : ℕ) (table : Timetable) (sets : List PlannedSet) (set : PlannedSet)
      → IsAnchorOf (times_by (first_sets (sent_from table 0 sets))) anchor → slice_get sets number ≡ Some set
      → some_there (slots_of table number) ≡ true
      → ((i : ℕ) (one : PlannedSet) → i < number → slice_get sets i ≡ Some one
      → all_there (sent_set table i one) ≡ false)
      → Suits anchor set.pts
  first_in anchor number table sets set suits found there none =
      suits_in anchor 0 number table sets set
      (recursion_from_All (Suits anchor) (times_by (first_sets (sent_from table 0 sets))) suits) found
      (ap (λ n. some_there (slots_of table n)) (omega arith) ∙ there)
      (λ i one below stands. ap (λ n. all_there (sent_set table n one)) (omega arith) ∙ none i one below stands)

-- ---- a stream that is entered late

pub first_of_all_times : (anchor missed : ℕ) (sets : List SentSet) → IsAnchorOf (times_from missed sets) anchor
    → IsAnchorOf (first_times_from missed sets) anchor
first_of_all_times anchor missed sets suits = first_all (λ at. nat_le missed at) anchor sets suits

-- the anchor suits a set of which a packet comes, where no set before it comes whole
pub first_suits : (anchor missed number : ℕ) (table : Timetable) (sets : List PlannedSet) (set : PlannedSet)
    → IsAnchorOf (first_times_from missed (sent_from table 0 sets)) anchor → slice_get sets number ≡ Some set
    → list_any (λ at. nat_le missed at) (slots_of table number) ≡ true
    → ((i : ℕ) (one : PlannedSet) → i < number → slice_get sets i ≡ Some one
    → is_from missed (sent_set table i one) ≡ false)
    → Suits anchor set.pts
first_suits anchor missed number table sets set suits found there none =
    first_in (λ at. nat_le missed at) anchor number table sets set suits found there none

-- ---- a stream of which packets are lost

pub first_of_received_times : (anchor : ℕ) (sendings : List Sending) (sets : List SentSet)
    → IsAnchorOf (times_received sendings sets) anchor → IsAnchorOf (first_times_received sendings sets) anchor
first_of_received_times anchor sendings sets suits = first_all (is_received_at sendings) anchor sets suits

-- places of which not all are received
not_all : (sendings : List Sending) (places : List ℕ)
    → (All (λ place. is_received_at sendings place ≡ true) places → ⊥)
    → list_all (is_received_at sendings) places ≡ false
not_all sendings places none = by (list_all (is_received_at sendings) places) refl
  where
    by : (b : Bool) → list_all (is_received_at sendings) places ≡ b → list_all (is_received_at sendings) places ≡ false
    by false is = is
    by true is = absurd (none (AllPass-from_list_all (is_received_at sendings) places is))

pub first_received_suits : (anchor number : ℕ) (sendings : List Sending) (table : Timetable)
    (sets : List PlannedSet) (set : PlannedSet)
    → IsAnchorOf (first_times_received sendings (sent_from table 0 sets)) anchor → slice_get sets number ≡ Some set
    → list_any (is_received_at sendings) (slots_of table number) ≡ true
    → ((i : ℕ) (one : PlannedSet) → i < number → slice_get sets i ≡ Some one
    → IsReceived sendings (sent_set table i one) → ⊥)
    → Suits anchor set.pts
first_received_suits anchor number sendings table sets set suits found there none =
    first_in (is_received_at sendings) anchor number table sets set suits found there
    (λ i one below stands. not_all sendings (slots_of table i) (none i one below stands))
