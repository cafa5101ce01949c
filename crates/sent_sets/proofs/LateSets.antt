-- A stream that is entered late gives exactly the units whose first packet was received, and with them the later units
-- of a set as a set of its own, and all sets behind it.
use Rattle.std.proofs.Common.{◌≡◌, ◌∙◌, ℕ, zero, suc, ◌+◌, ◌-◌, ◌<◌, ◌≤◌, Bool, true, false, cond, ltb, ◌⊎◌, inl, inr, List, [], ◌∷◌, ◌++◌, length, map, drop, filter, Some, refl, sym, ap, subst, arith, append_assoc}
use Rattle.std.specs.Bool.{if◌then◌else◌}
use Rattle.std.specs.List.{slice_get, AllByRecursion, AllZip, sum_by}
use Rattle.std.proofs.Math.Seq.{drop-append-add}
use Rattle.std.proofs.lemmas.Bool.{cases_lt}
use Rattle.std.proofs.lemmas.Bool.Decides.{nat_tests}
use Rattle.std.proofs.lemmas.List.{drop-append-le, drop-map, length-map}
use Rattle.std.proofs.lemmas.List.Sums.{sum_by-append}
use Rattle.stream_syntax.specs.Cutting.{IsUnit}
use Rattle.decoder_model.specs.declared.pages.Pages.{Pages}
use Rattle.decoder_model.specs.Sets.{sets_of, has_ended}
use Rattle.sent_sets.proofs.RawUnits.{IsOpen}
use Rattle.sent_sets.proofs.Runs.{HaveDifferentTimes}
use Rattle.sent_sets.proofs.SentLists.{handable_counted}
use Rattle.sent_sets.proofs.SetEnds.{EndsAtLast, IsHandable, ends_behind, ended_set, delivered}
use Rattle.sent_sets.proofs.SetsCome.{is_over, sets_come, all_count, all_ended}
use Rattle.sent_sets.proofs.Units.{SetUnit, TimedSet, timed, timed_units, segments_of_units, AreSetUnits, IsTimedSet, IsUnitOf, CarriesUnit, AreUnitsOf, all_carried, has_segments, counted_set, counted_sets}
use Rattle.sub_base.specs.Lists.{has_some}
use Rattle.slot_stream.specs.SlotStream.{all_pieces}
use Rattle.slot_stream.proofs.LaidPackets.{laid, IsAhead}
use Rattle.sent_sets.proofs.LateStream.{passed, pieces_left, entered_late}
use Rattle.slot_stream.proofs.SentPieces.{IsFree}

-- ---- sets behind units

-- the units of a set behind its first so many, as a set
abbrev pub rest_of_set : ℕ → TimedSet → TimedSet
rest_of_set n set = record { time = set.time; units = drop n set.units }

-- the sets of units behind the first so many: what is left of a set, and all sets behind it
abbrev pub sets_behind : ℕ → List TimedSet → List TimedSet
sets_behind n [] = []
sets_behind n (set ∷ sets) =
    cond (ltb n (length set.units)) (rest_of_set n set ∷ sets) (sets_behind (n - length set.units) sets)

-- their units are the others
timed_behind : (n : ℕ) (sets : List TimedSet) → timed_units (sets_behind n sets) ≡ drop n (timed_units sets)
timed_behind zero [] = refl
timed_behind (suc n) [] = refl
timed_behind n (set ∷ sets) = by (cases_lt n (length set.units)) (timed_behind (n - length set.units) sets)
  where
    by : (n < length set.units) ⊎ (length set.units ≤ n)
        → timed_units (sets_behind (n - length set.units) sets) ≡ drop (n - length set.units) (timed_units sets)
        → timed_units
        (cond (ltb n (length set.units)) (rest_of_set n set ∷ sets) (sets_behind (n - length set.units) sets))
        ≡ drop n (map (timed set.time) set.units ++ timed_units sets)
    by (inl within) rest =
        let test : ltb n (length set.units) ≡ true = grind (arith, nat_tests) in
        ap (λ b. timed_units (cond b (rest_of_set n set ∷ sets) (sets_behind (n - length set.units) sets))) test
        ∙ ap (λ front. front ++ timed_units sets) (sym (drop-map (timed set.time) n set.units))
        ∙ sym (drop-append-le n (map (timed set.time) set.units) (timed_units sets)
        (omega (arith, length-map set.units (timed set.time))))
    by (inr past) rest =
        let test : ltb n (length set.units) ≡ false = grind (arith, nat_tests) in
        let split : n ≡ length (map (timed set.time) set.units) + (n - length set.units) =
        omega (arith, length-map set.units (timed set.time)) in
        ap (λ b. timed_units (cond b (rest_of_set n set ∷ sets) (sets_behind (n - length set.units) sets))) test
        ∙ rest
        ∙ sym (ap (λ k. drop k (map (timed set.time) set.units ++ timed_units sets)) split
        ∙ drop-append-add (map (timed set.time) set.units) (timed_units sets) (n - length set.units))

rest_units : (pages : Pages) (n : ℕ) (units : List SetUnit) → AreSetUnits pages units → n < length units
    → AreSetUnits pages (drop n units)
rest_units pages zero units h inside = h
rest_units pages (suc n) [] h inside = absurd h
rest_units pages (suc n) (one ∷ []) h inside = absurd (omega arith)
rest_units pages (suc n) (one ∷ next ∷ units) h inside = rest_units pages n (next ∷ units) h.2 (omega arith)

rest_bytes : (n : ℕ) (units : List SetUnit)
    → sum_by length (segments_of_units (drop n units)) ≤ sum_by length (segments_of_units units)
rest_bytes zero units = omega arith
rest_bytes (suc n) [] = omega arith
rest_bytes (suc n) (one ∷ units) =
    omega (arith, rest_bytes n units, sum_by-append length one.segments (segments_of_units units))

-- what is left of a set is a set
pub rest_is_set : (coded : ℕ) (pages : Pages) (n : ℕ) (set : TimedSet) → IsTimedSet coded pages set
    → n < length set.units → IsTimedSet coded pages (rest_of_set n set)
rest_is_set coded pages n set h inside =
    let fits = h.fits in
    record { units = rest_units pages n set.units h.units inside; fits = omega (arith, rest_bytes n set.units) }

-- what each set and what is left of each has, the sets behind have
all_behind : (P : TimedSet → Type 0)
    → ((n : ℕ) (set : TimedSet) → P set → n < length set.units → P (rest_of_set n set)) → (n : ℕ)
    (sets : List TimedSet) → AllByRecursion P sets → AllByRecursion P (sets_behind n sets)
all_behind P left n [] h = tt
all_behind P left n (set ∷ sets) h =
    by (cases_lt n (length set.units)) (all_behind P left (n - length set.units) sets h.1)
  where
    Left : Bool → Type 0
    Left b = AllByRecursion P (cond b (rest_of_set n set ∷ sets) (sets_behind (n - length set.units) sets))

    by : (n < length set.units) ⊎ (length set.units ≤ n)
        → AllByRecursion P (sets_behind (n - length set.units) sets) → Left (ltb n (length set.units))
    by (inl within) rest =
        let test : ltb n (length set.units) ≡ true = grind (arith, nat_tests) in
        subst Left (sym test) (left n set h.0 within, h.1)
    by (inr past) rest =
        let test : ltb n (length set.units) ≡ false = grind (arith, nat_tests) in subst Left (sym test) rest

are_behind : (coded : ℕ) (pages : Pages) (n : ℕ) (sets : List TimedSet)
    → AllByRecursion (IsTimedSet coded pages) sets → AllByRecursion (IsTimedSet coded pages) (sets_behind n sets)
are_behind coded pages n sets h =
    all_behind (IsTimedSet coded pages) (λ n set is inside. rest_is_set coded pages n set is inside) n sets h

-- the segments of what is left are the last of all
pub rest_segments : (n : ℕ) (units : List SetUnit)
    → (front : List (List ℕ)) × (segments_of_units units ≡ front ++ segments_of_units (drop n units))
rest_segments zero units = ([], refl)
rest_segments (suc n) [] = ([], refl)
rest_segments (suc n) (one ∷ units) =
    let more = rest_segments n units in (
      one.segments ++ more.0,
      ap (λ rest. one.segments ++ rest) more.1
          ∙ sym (append_assoc one.segments more.0 (segments_of_units (drop n units))),
    )

open_behind : (coded n : ℕ) (sets : List TimedSet) → AllByRecursion (IsOpen coded) sets
    → AllByRecursion (IsOpen coded) (sets_behind n sets)
open_behind coded n sets h = all_behind (IsOpen coded) left n sets h
  where
    left : (n : ℕ) (set : TimedSet) → IsOpen coded set → n < length set.units → IsOpen coded (rest_of_set n set)
    left n set is inside =
        let parts = rest_segments n set.units in
        let fits = is.fits in
        record {
          ends = ends_behind parts.0 (segments_of_units (drop n set.units))
              (subst EndsAtLast parts.1 is.ends);
          fits = omega (arith, rest_bytes n set.units);
        }

pub apart_behind : (n : ℕ) (sets : List TimedSet) → HaveDifferentTimes sets
    → HaveDifferentTimes (sets_behind n sets)
apart_behind n [] h = tt
apart_behind n (set ∷ sets) h = by (ltb n (length set.units)) (apart_behind (n - length set.units) sets h.1)
  where
    by : (b : Bool) → HaveDifferentTimes (sets_behind (n - length set.units) sets)
        → HaveDifferentTimes (cond b (rest_of_set n set ∷ sets) (sets_behind (n - length set.units) sets))
    by true rest = (h.0, h.1)
    by false rest = rest

pub zip_behind : {A B : Type 0} (R : A → B → Type 0) (n : ℕ) (xs : List A) (ys : List B) → AllZip R xs ys
    → AllZip R (drop n xs) (drop n ys)
zip_behind R zero xs ys h = h
zip_behind R (suc n) [] [] h = tt
zip_behind R (suc n) [] (y ∷ ys) h = absurd h
zip_behind R (suc n) (x ∷ xs) [] h = absurd h
zip_behind R (suc n) (x ∷ xs) (y ∷ ys) h = zip_behind R n xs ys h.1

pub units_behind : (coded : ℕ) (pages : Pages) (n : ℕ) (units : List (List ℕ)) (sets : List TimedSet)
    → AreUnitsOf coded pages units sets → AreUnitsOf coded pages (drop n units) (sets_behind n sets)
units_behind coded pages n units sets are = record {
  each =
      subst (AllZip (IsUnitOf pages) (drop n units)) (sym (timed_behind n sets))
      (zip_behind (IsUnitOf pages) n units (timed_units sets) are.each);
  whole = are_behind coded pages n sets are.whole;
}

pub carried_behind : (pages : Pages) (n : ℕ) (units : List (List ℕ)) (sets : List TimedSet)
    → AllZip (CarriesUnit pages) units (timed_units sets)
    → AllZip (CarriesUnit pages) (drop n units) (timed_units (sets_behind n sets))
carried_behind pages n units sets carry =
    subst (AllZip (CarriesUnit pages) (drop n units)) (sym (timed_behind n sets))
    (zip_behind (CarriesUnit pages) n units (timed_units sets) carry)

-- a set of which a later unit counts is one of which a unit does
later_counts : (n : ℕ) (units : List SetUnit) → has_some (filter has_segments (drop n units)) ≡ true
    → has_some (filter has_segments units) ≡ true
later_counts zero units e = e
later_counts (suc n) [] e = e
later_counts (suc n) (one ∷ units) e = by (has_segments one) (later_counts n units e)
  where
    by : (b : Bool) → has_some (filter has_segments units) ≡ true
        → has_some (cond b (one ∷ filter has_segments units) (filter has_segments units)) ≡ true
    by true rest = refl
    by false rest = rest

-- sets that count have different times behind units too
apart_counted : (n : ℕ) (sets : List TimedSet) → HaveDifferentTimes (counted_sets sets)
    → HaveDifferentTimes (counted_sets (sets_behind n sets))
apart_counted n [] h = tt
apart_counted n (set ∷ sets) h =
    by (ltb n (length set.units)) (has_some (filter has_segments set.units)) refl h
    (λ rest. apart_counted (n - length set.units) sets rest)
  where
    Behind : Bool → Type 0
    Behind b =
        HaveDifferentTimes
        (counted_sets (cond b (rest_of_set n set ∷ sets) (sets_behind (n - length set.units) sets)))

    cut : (b all : Bool) → has_some (filter has_segments (drop n set.units)) ≡ b
        → has_some (filter has_segments set.units) ≡ all
        → HaveDifferentTimes (if all then counted_set set ∷ counted_sets sets else counted_sets sets)
        → HaveDifferentTimes (if b then counted_set (rest_of_set n set) ∷ counted_sets sets else counted_sets sets)
    cut true true some all h = (h.0, h.1)
    cut true false some all h =
        absurd (let none : false ≡ true = sym all ∙ later_counts n set.units some in cc)
    cut false true some all h = h.1
    cut false false some all h = h

    by : (b all : Bool) → has_some (filter has_segments set.units) ≡ all
        → HaveDifferentTimes (if all then counted_set set ∷ counted_sets sets else counted_sets sets)
        → (HaveDifferentTimes (counted_sets sets)
        → HaveDifferentTimes (counted_sets (sets_behind (n - length set.units) sets)))
        → Behind b
    by true all is h behind = cut (has_some (filter has_segments (drop n set.units))) all refl is h
    by false true is h behind = behind h.1
    by false false is h behind = behind h

-- ---- the sets that are left

-- how many units the first so many sets have
abbrev pub units_before : ℕ → List TimedSet → ℕ
units_before zero sets = 0
units_before (suc i) [] = 0
units_before (suc i) (set ∷ sets) = length set.units + units_before i sets

-- of the sets before that number nothing is left, or of the last of them its later units, which are a set of their own
pub data IsRest (sets : List TimedSet) : ℕ → List TimedSet → Type 0 where
  none_left : {first : ℕ} → IsRest sets first []
  some_left : {n : ℕ} {set : TimedSet} {k : ℕ} → slice_get sets n ≡ Some set → 1 ≤ k
      → k < length set.units → IsRest sets (suc n) (rest_of_set k set ∷ [])

one_more : (set : TimedSet) (sets : List TimedSet) (first : ℕ) (rest : List TimedSet) → IsRest sets first rest
    → IsRest (set ∷ sets) (suc first) rest
one_more set sets first rest (none_left) = none_left
one_more set sets first rest (some_left found some inside) = some_left found some inside

-- behind the first so many units all sets from one on are left, those whose first unit is not among these, and before
-- them at most the rest of a set
pub record SetsLeft (n : ℕ) (sets : List TimedSet) : Type 0 where
  pub first : ℕ
  pub few : first ≤ length sets
  pub rest : List TimedSet
  pub is_rest : IsRest sets first rest
  pub are : sets_behind n sets ≡ rest ++ drop first sets
  pub ends : 1 ≤ length rest → n < units_before first sets
  pub begun : (i : ℕ) → i < length sets → (i < first → units_before i sets < n)
      × (first ≤ i → n ≤ units_before i sets)

pub sets_left : (n : ℕ) (sets : List TimedSet) → AllByRecursion (λ (set : TimedSet). 1 ≤ length set.units) sets
    → SetsLeft n sets
sets_left n [] some =
    record {
      first = 0;
      few = omega arith;
      rest = [];
      is_rest = none_left;
      are = refl;
      ends = λ some. absurd
          (omega arith);
      begun = λ i inside. absurd (omega arith);
    }
sets_left zero (set ∷ sets) some =
    let any = some.0 in
    let test : ltb 0 (length set.units) ≡ true = grind (arith, nat_tests) in
    record {
      first = 0;
      few = omega arith;
      rest = [];
      is_rest = none_left;
      are = ap (λ b. cond b (rest_of_set 0 set ∷ sets) (sets_behind (0 - length set.units) sets)) test;
      ends = λ some. absurd (omega arith);
      begun = λ i inside. (λ before. absurd (omega arith), λ behind. omega arith);
    }
sets_left (suc n) (set ∷ sets) some =
    by (cases_lt (suc n) (length set.units)) (sets_left (suc n - length set.units) sets some.1)
  where
    begun_within : suc n < length set.units → (i : ℕ) → i < suc (length sets)
        → (i < 1 → units_before i (set ∷ sets) < suc n) × (1 ≤ i → suc n ≤ units_before i (set ∷ sets))
    begun_within within zero inside = (λ before. omega arith, λ behind. absurd (omega arith))
    begun_within within (suc i) inside = (λ before. absurd (omega arith), λ behind. omega arith)

    begun_past : (left : SetsLeft (suc n - length set.units) sets) → length set.units ≤ suc n → (i : ℕ)
        → i < suc (length sets)
        → (i < suc left.first → units_before i (set ∷ sets) < suc n)
        × (suc left.first ≤ i → suc n ≤ units_before i (set ∷ sets))
    begun_past left past zero inside = (λ before. omega arith, λ behind. absurd (omega arith))
    begun_past left past (suc i) inside =
        let there =
        left.begun i (omega arith) in (
          λ before. let less = there.0 (omega arith) in omega arith,
          λ behind. let most = there.1 (omega arith) in
              omega arith,
        )

    by : (suc n < length set.units) ⊎ (length set.units ≤ suc n) → SetsLeft (suc n - length set.units) sets
        → SetsLeft (suc n) (set ∷ sets)
    by (inl within) left =
        let test : ltb (suc n) (length set.units) ≡ true = grind (arith, nat_tests) in
        record {
          first = 1;
          few = omega arith;
          rest = rest_of_set (suc n) set ∷ [];
          is_rest = some_left refl (omega arith) within;
          are = ap (λ b. cond b (rest_of_set (suc n) set ∷ sets) (sets_behind (suc n - length set.units) sets)) test;
          ends = λ some. omega arith;
          begun = begun_within within;
        }
    by (inr past) left =
        let test : ltb (suc n) (length set.units) ≡ false = grind (arith, nat_tests) in
        record {
          first = suc left.first;
          few = (let most = left.few in omega arith);
          rest = left.rest;
          is_rest = one_more set sets left.first left.rest left.is_rest;
          are =
              ap (λ b. cond b (rest_of_set (suc n) set ∷ sets) (sets_behind (suc n - length set.units) sets)) test
              ∙ left.are;
          ends = λ some. let less = left.ends some in omega arith;
          begun = begun_past left past;
        }

-- ---- a stream

-- the sets of a stream in slots, entered behind so many packets, are those of the units that come, where these count
pub late_counted : (coded pid : ℕ) (pages : Pages) (missed : ℕ) (units : List (List ℕ)) (sets : List TimedSet)
    (slots : List ℕ) → IsFree pid → (whole : AllByRecursion (IsUnit coded) units)
    → AllZip (CarriesUnit pages) units (timed_units sets) → AllByRecursion (IsOpen coded) sets
    → HaveDifferentTimes (counted_sets sets) → length (all_pieces units) ≡ length slots → IsAhead 0 slots
    → sets_of coded pid pages true (drop missed (laid pid 0 0 (all_pieces units) slots))
    ≡ map delivered
    (counted_sets (sets_behind (pieces_left coded (passed (0 + missed) slots) units whole).cut sets))
late_counted coded pid pages missed units sets slots free whole carry opens apart same ahead =
    let n = (pieces_left coded (passed (0 + missed) slots) units whole).cut in
    let packets = drop missed (laid pid 0 0 (all_pieces units) slots) in
    let come = entered_late pid coded missed units slots free whole same ahead in
    sets_come coded pid pages true packets (drop n units) (sets_behind n sets) come
    (carried_behind pages n units sets carry)
    (handable_counted coded (has_ended true pid packets) (sets_behind n sets)
    (is_over pid coded packets (drop n units) come) (open_behind coded n sets opens))
    (apart_counted n sets apart)

-- sets that end with an end segment
pub open_sets : (coded : ℕ) (pages : Pages) (sets : List TimedSet) → AllByRecursion (IsTimedSet coded pages) sets
    → AllByRecursion (IsOpen coded) sets
open_sets coded pages [] h = tt
open_sets coded pages (set ∷ sets) h =
    let is = ended_set coded pages true set h.0 in
    (record { ends = is.ends; fits = is.fits }, open_sets coded pages sets h.1)

-- where all of their segments count, these are the sets
pub late_sets : (coded pid : ℕ) (pages : Pages) (missed : ℕ) (units : List (List ℕ)) (sets : List TimedSet)
    (slots : List ℕ) → IsFree pid → (whole : AllByRecursion (IsUnit coded) units)
    → AreUnitsOf coded pages units sets
    → HaveDifferentTimes sets → length (all_pieces units) ≡ length slots → IsAhead 0 slots
    → sets_of coded pid pages true (drop missed (laid pid 0 0 (all_pieces units) slots))
    ≡ map delivered (sets_behind (pieces_left coded (passed (0 + missed) slots) units whole).cut sets)
late_sets coded pid pages missed units sets slots free whole are apart same ahead =
    let n = (pieces_left coded (passed (0 + missed) slots) units whole).cut in
    let all = all_count coded true sets (all_ended coded pages true sets are.whole) in
    late_counted coded pid pages missed units sets slots free whole
    (all_carried pages units (timed_units sets) are.each)
    (open_sets coded pages sets are.whole) (subst HaveDifferentTimes (sym all) apart) same ahead
    ∙ ap (map delivered)
    (all_count coded true (sets_behind n sets)
    (all_ended coded pages true (sets_behind n sets) (are_behind coded pages n sets are.whole)))

drop_all_by : (P : TimedSet → Type 0) (n : ℕ) (sets : List TimedSet) → AllByRecursion P sets
    → AllByRecursion P (drop n sets)
drop_all_by P zero sets h = h
drop_all_by P (suc n) [] h = tt
drop_all_by P (suc n) (set ∷ sets) h = drop_all_by P n sets h.1

found_by : (P : TimedSet → Type 0) (n : ℕ) (sets : List TimedSet) (set : TimedSet) → AllByRecursion P sets
    → slice_get sets n ≡ Some set → P set
found_by P n [] set h found = absurd (cc)
found_by P zero (first ∷ sets) set h found = let same : first ≡ set = cc in subst P same h.0
found_by P (suc n) (first ∷ sets) set h found = found_by P n sets set h.1 found

-- those that are left end with one too
pub all_left : (coded : ℕ) (pages : Pages) (over : Bool) (first : ℕ) (sets rest : List TimedSet)
    → AllByRecursion (IsTimedSet coded pages) sets → IsRest sets first rest
    → AllByRecursion (IsHandable coded over) (rest ++ drop first sets)
all_left coded pages over first sets rest h (none_left) =
    all_ended coded pages over (drop first sets) (drop_all_by (IsTimedSet coded pages) first sets h)
all_left coded pages over first sets rest h (some_left {n = n} {set = set} {k = k} found some inside) = (
  ended_set coded pages over (rest_of_set k set)
      (rest_is_set coded pages k set (found_by (IsTimedSet coded pages) n sets set h found) inside),
  all_ended coded pages over (drop (suc n) sets) (drop_all_by (IsTimedSet coded pages) (suc n) sets h),
)
