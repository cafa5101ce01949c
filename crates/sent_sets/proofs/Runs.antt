-- Units of one time in a row are a run: with different times in neighbouring sets each set is a run of its own.
use Rattle.std.proofs.Common.{◌≡◌, ◌∙◌, ℕ, zero, suc, ◌≤◌, Bool, true, false, cond, eqb, List, [], ◌∷◌, ◌++◌, length, map, take, refl, sym, ap, subst, arith}
use Rattle.std.specs.Bool.{if◌then◌else◌}
use Rattle.std.specs.List.{AllByRecursion, AllZip}
use Rattle.std.proofs.lemmas.List.{map-append}
use Rattle.std.proofs.lemmas.Bool.Decides.{nat_tests}
use Rattle.std.proofs.lemmas.List.Sums.{sum_by-cons}
use Rattle.decoder_model.specs.Arrivals.{PesUnit, Arrival, unit, unit_with}
use Rattle.stream_syntax.specs.DataField.{segment}
use Rattle.decoder_model.specs.Sets.{Stretch, run, runs_of, joined_to, frames_in, size_in}
use Rattle.sub_base.specs.Lists.{has_some}
use Rattle.sent_sets.proofs.Units.{SetUnit, TimedSet, TimedUnit, timed, timed_units, segments_of_units, size_of_units, unit_of, IsArrivalOf, IsArrivalWith, counted_units}

-- ---- runs

-- the time is not that of the first set
abbrev pub IsApart : ℕ → List TimedSet → Type 0
IsApart time [] = Unit {0}
IsApart time (next ∷ sets) = eqb time next.time ≡ false

-- neighbours have different times
abbrev pub HaveDifferentTimes : List TimedSet → Type 0
HaveDifferentTimes [] = Unit {0}
HaveDifferentTimes (set ∷ sets) = IsApart set.time sets × HaveDifferentTimes sets

-- a unit of a set of that time, whatever its place
abbrev pub IsPlaced : ℕ → PesUnit → SetUnit → Type 0
IsPlaced time found one = (place : ℕ) × (found ≡ unit_of place time one)

-- a run for each set, of the units of the set
pub data AreOwnRuns : List Stretch → List TimedSet → Type 0 where
  no_run : AreOwnRuns [] []
  own_run : {first : PesUnit} {more : List PesUnit} {rest : List Stretch} {set : TimedSet} {sets : List TimedSet}
      → AllZip (IsPlaced set.time) (first ∷ more) set.units → AreOwnRuns rest sets
      → AreOwnRuns (run first more ∷ rest) (set ∷ sets)

pub first_time : (time : ℕ) (first : PesUnit) (more : List PesUnit) (units : List SetUnit)
    → AllZip (IsPlaced time) (first ∷ more) units → first.time ≡ time
first_time time first more [] h = absurd h
first_time time first more (one ∷ units) h = ap (λ (found : PesUnit). found.time) h.0.1

abbrev set_of_units : ℕ → List SetUnit → TimedSet
set_of_units set_time its_units = record { time = set_time; units = its_units }

not_joined : (time place : ℕ) (one : SetUnit) (sets : List TimedSet) (rest : List Stretch) → IsApart time sets
    → AreOwnRuns rest sets
    → AreOwnRuns (joined_to (unit_of place time one) rest) (set_of_units time (one ∷ []) ∷ sets)
not_joined time place one sets rest h (no_run) = own_run ((place, refl), tt) no_run
not_joined time place one sets rest h
    (own_run {first = first} {more = more} {rest = behind} {set = next} {sets = further} placed all) =
    let other : eqb time first.time ≡ false =
    ap (eqb time) (first_time next.time first more next.units placed) ∙ h in
    subst (λ (same : Bool). AreOwnRuns
    (if same then run (unit_of place time one) (first ∷ more) ∷ behind
    else run (unit_of place time one) [] ∷ run first more ∷ behind)
    (set_of_units time (one ∷ []) ∷ next ∷ further)) (sym other)
    (own_run ((place, refl), tt) (own_run placed all))

pub same_time : (time : ℕ) → eqb time time ≡ true
same_time time = grind (arith, nat_tests)

is_joined : (time place : ℕ) (one next : SetUnit) (units : List SetUnit) (sets : List TimedSet)
    (rest : List Stretch) → AreOwnRuns rest (set_of_units time (next ∷ units) ∷ sets)
    → AreOwnRuns (joined_to (unit_of place time one) rest) (set_of_units time (one ∷ next ∷ units) ∷ sets)
is_joined time place one next units sets rest (own_run {first = first} {more = more} {rest = behind} placed all) =
    let same : eqb time first.time ≡ true =
    ap (eqb time) (first_time time first more (next ∷ units) placed) ∙ same_time time in
    subst (λ (same : Bool). AreOwnRuns
    (if same then run (unit_of place time one) (first ∷ more) ∷ behind
    else run (unit_of place time one) [] ∷ run first more ∷ behind)
    (set_of_units time (one ∷ next ∷ units) ∷ sets)) (sym same)
    (own_run ((place, refl), placed) all)

-- the units of one set are a run
pub one_run : (time : ℕ) (units : List SetUnit) (front rest : List Arrival) (sets : List TimedSet)
    → 1 ≤ length units → AllZip IsArrivalOf front (map (timed time) units) → IsApart time sets
    → AreOwnRuns (runs_of rest) sets
    → AreOwnRuns (runs_of (front ++ rest)) (set_of_units time units ∷ sets)
one_run time [] front rest sets some come apart all = absurd (omega arith)
one_run time (one ∷ units) [] rest sets some come apart all = absurd come
one_run time (one ∷ []) (arrival ∷ []) rest sets some come apart all =
    subst (λ (found : Arrival). AreOwnRuns (runs_of (found ∷ rest)) (set_of_units time (one ∷ []) ∷ sets))
    (sym come.0.1) (not_joined time come.0.0 one sets (runs_of rest) apart all)
one_run time (one ∷ []) (arrival ∷ more ∷ front) rest sets some come apart all = absurd come.1
one_run time (one ∷ next ∷ units) (arrival ∷ front) rest sets some come apart all =
    subst (λ (found : Arrival). AreOwnRuns (runs_of (found ∷ (front ++ rest)))
    (set_of_units time (one ∷ next ∷ units) ∷ sets)) (sym come.0.1)
    (is_joined time come.0.0 one next units sets (runs_of (front ++ rest))
    (one_run time (next ∷ units) front rest sets (omega arith) come.1 apart all))

-- a list that goes with another one in two parts has two parts
record InTwo {A B : Type 0} (R : A → B → Type 0) (all : List A) (xs ys : List B) : Type 0 where
  front : List A
  rest : List A
  are : all ≡ front ++ rest
  first : AllZip R front xs
  last : AllZip R rest ys

in_two : {A B : Type 0} (R : A → B → Type 0) (all : List A) (xs ys : List B) → AllZip R all (xs ++ ys)
    → InTwo R all xs ys
in_two R all [] ys h = record { front = []; rest = all; are = refl; first = tt; last = h }
in_two R [] (x ∷ xs) ys h = absurd h
in_two R (a ∷ all) (x ∷ xs) ys h =
    let more = in_two R all xs ys h.1 in
    record {
      front = a
          ∷ more.front;
      rest = more.rest;
      are = ap (λ rest. a ∷ rest) more.are;
      first = (h.0, more.first);
      last = more.last;
    }

-- with different times in neighbouring sets, each set is a run of its own
pub own_runs : (arrivals : List Arrival) (sets : List TimedSet) → AllZip IsArrivalOf arrivals (timed_units sets)
    → AllByRecursion (λ (set : TimedSet). 1 ≤ length set.units) sets → HaveDifferentTimes sets
    → AreOwnRuns (runs_of arrivals) sets
own_runs [] [] come some h = no_run
own_runs (arrival ∷ arrivals) [] come some h = absurd come
own_runs arrivals (set ∷ sets) come some h =
    let parts = in_two IsArrivalOf arrivals (map (timed set.time) set.units) (timed_units sets) come in
    subst (λ (found : List Arrival). AreOwnRuns (runs_of found) (set ∷ sets)) (sym parts.are)
    (one_run set.time set.units parts.front parts.rest sets some.0 parts.first h.0
    (own_runs parts.rest sets parts.last some.1 h.1))

-- ---- the units of a run

-- the frames and the size of the units of a run
pub run_frames : (time : ℕ) (found : List PesUnit) (units : List SetUnit) → AllZip (IsPlaced time) found units
    → frames_in found ≡ map segment (segments_of_units units)
run_frames time [] [] h = refl
run_frames time [] (one ∷ units) h = absurd h
run_frames time (first ∷ found) [] h = absurd h
run_frames time (first ∷ found) (one ∷ units) h =
    ap (λ (unit : PesUnit). unit.frames ++ frames_in found) h.0.1
    ∙ ap (λ rest. map segment one.segments ++ rest) (run_frames time found units h.1)
    ∙ sym (map-append segment one.segments (segments_of_units units))

pub run_size : (time : ℕ) (found : List PesUnit) (units : List SetUnit) → AllZip (IsPlaced time) found units
    → size_in found ≡ size_of_units units
run_size time [] [] h = refl
run_size time [] (one ∷ units) h = absurd h
run_size time (first ∷ found) [] h = absurd h
run_size time (first ∷ found) (one ∷ units) h =
    omega (
      arith,
      sum_by-cons (λ (unit : PesUnit). unit.size) first found,
      sum_by-cons (λ (unit : SetUnit). unit.size)
          one units,
      ap (λ (unit : PesUnit). unit.size) h.0.1,
      run_size time found units h.1,
    )

pub run_front : (time : ℕ) (found : List PesUnit) (units : List SetUnit) (k : ℕ)
    → AllZip (IsPlaced time) found units → AllZip (IsPlaced time) (take k found) (take k units)
run_front time found units zero h = tt
run_front time [] [] (suc k) h = tt
run_front time [] (one ∷ units) (suc k) h = absurd h
run_front time (first ∷ found) [] (suc k) h = absurd h
run_front time (first ∷ found) (one ∷ units) (suc k) h = (h.0, run_front time found units k h.1)

pub run_length : (time : ℕ) (found : List PesUnit) (units : List SetUnit) → AllZip (IsPlaced time) found units
    → length found ≡ length units
run_length time [] [] h = refl
run_length time [] (one ∷ units) h = absurd h
run_length time (first ∷ found) [] h = absurd h
run_length time (first ∷ found) (one ∷ units) h = ap suc (run_length time found units h.1)

-- ---- units that are passed over

-- what arrives, but for units that are passed over, in the same runs
pub record CountedArrivals (arrivals : List Arrival) (all : List TimedUnit) : Type 0 where
  pub found : List Arrival
  pub same : runs_of arrivals ≡ runs_of found
  pub are : AllZip IsArrivalOf found (counted_units all)

counted_more : (place : ℕ) (one : TimedUnit) (segments : List (List ℕ)) (arrivals : List Arrival)
    (all : List TimedUnit) → one.unit.segments ≡ segments → CountedArrivals arrivals all
    → CountedArrivals (unit_with place one.unit.size one.time (map segment segments) ∷ arrivals) (one ∷ all)
counted_more place one [] arrivals all is rest = record {
  found = rest.found;
  same = rest.same;
  are = subst (λ (of_unit : List (List ℕ)). AllZip IsArrivalOf rest.found
      (cond (has_some of_unit) (one ∷ counted_units all) (counted_units all))) (sym is) rest.are;
}
counted_more place one (first ∷ segments) arrivals all is rest = record {
  found = unit (unit_of place one.time one.unit) ∷ rest.found;
  same =
      ap (λ (of_unit : List (List ℕ)). joined_to (record {
        place = place;
        size = one.unit.size;
        time = one.time;
        frames = map segment of_unit;
      }) (runs_of arrivals))
      (sym is)
      ∙ ap (joined_to (unit_of place one.time one.unit)) rest.same;
  are =
      subst (λ (of_unit : List (List ℕ)). AllZip IsArrivalOf (unit (unit_of place one.time one.unit) ∷ rest.found)
      (cond (has_some of_unit) (one ∷ counted_units all) (counted_units all))) (sym is) ((place, refl), rest.are);
}

pub counted_arrivals : (arrivals : List Arrival) (all : List TimedUnit) → AllZip IsArrivalWith arrivals all
    → CountedArrivals arrivals all
counted_arrivals [] [] h = record { found = []; same = refl; are = tt }
counted_arrivals [] (one ∷ all) h = absurd h
counted_arrivals (arrival ∷ arrivals) [] h = absurd h
counted_arrivals (arrival ∷ arrivals) (one ∷ all) h =
    subst (λ (found : Arrival). CountedArrivals (found ∷ arrivals) (one ∷ all)) (sym h.0.1)
    (counted_more h.0.0 one one.unit.segments arrivals all refl (counted_arrivals arrivals all h.1))
