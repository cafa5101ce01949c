-- The names of a set's objects: those of shared ones are the same on both pages, and no two objects of a page have one.
use Rattle.std.proofs.Common.{◌≡◌, ◌≢◌, ◌∙◌, ℕ, ◌+◌, ◌==◌, ◌<◌, ◌≤◌, Bool, true, false, cond, List, [], ◌∷◌, ◌++◌, map, Option, Some, None, refl, sym, ap, subst, arith}
use Rattle.std.specs.Prelude.{unwrap_or}
use Rattle.std.specs.List.{AllByRecursion}
use Rattle.std.specs.Option.{option_map}
use Rattle.std.proofs.lemmas.Bool.Decides.{nat_tests}
use Rattle.slot_stream.specs.SlotStream.{place_from}
use Rattle.page_pair.specs.PairSets.{CueObject, names_of}
use Rattle.page_pair.proofs.SharedObjects.{HasNo, HasOne, ArePairs, HaveSameNames}

-- ---- shared objects

-- none of the pairs has the cue
abbrev NoFirst : ℕ → List (ℕ × ℕ) → Type 0
NoFirst cue pairs = AllByRecursion (λ (pair : ℕ × ℕ). pair.0 ≢ cue) pairs

abbrev NoSecond : ℕ → List (ℕ × ℕ) → Type 0
NoSecond cue pairs = AllByRecursion (λ (pair : ℕ × ℕ). pair.1 ≢ cue) pairs

-- each pair has cues of its own
abbrev HaveOwnCues : List (ℕ × ℕ) → Type 0
HaveOwnCues [] = Unit {0}
HaveOwnCues (pair ∷ pairs) = NoFirst pair.0 pairs × NoSecond pair.1 pairs × HaveOwnCues pairs

-- what holds of objects holds of the one of a cue, and of those behind it
part_of : (P : CueObject → Type 0) (cue : ℕ) (objects : List CueObject) (has : HasOne cue objects)
    → AllByRecursion P objects → P has.object × AllByRecursion P has.behind
part_of P cue objects has all = by has.before (subst (AllByRecursion P) has.whole all)
  where
    by : (before : List CueObject) → AllByRecursion P (before ++ has.object ∷ has.behind)
        → P has.object × AllByRecursion P has.behind
    by [] all = all
    by (one ∷ before) all = by before all.1

no_first : (cue : ℕ) (pairs : List (ℕ × ℕ)) (one two : List CueObject) → ArePairs pairs one two → HasNo cue one
    → NoFirst cue pairs
no_first cue [] one two are none = tt
no_first cue (pair ∷ pairs) one two are none =
    let is = are.0 in
    let part = part_of (λ object. object.cue ≢ cue) pair.0 one is.in_one none in
    (λ e. part.0 (is.in_one.is ∙ e), no_first cue pairs is.in_one.behind is.in_two.behind are.1 part.1)

no_second : (cue : ℕ) (pairs : List (ℕ × ℕ)) (one two : List CueObject) → ArePairs pairs one two → HasNo cue two
    → NoSecond cue pairs
no_second cue [] one two are none = tt
no_second cue (pair ∷ pairs) one two are none =
    let is = are.0 in
    let part = part_of (λ object. object.cue ≢ cue) pair.1 two is.in_two none in
    (λ e. part.0 (is.in_two.is ∙ e), no_second cue pairs is.in_one.behind is.in_two.behind are.1 part.1)

own_cues : (pairs : List (ℕ × ℕ)) (one two : List CueObject) → ArePairs pairs one two → HaveOwnCues pairs
own_cues [] one two are = tt
own_cues (pair ∷ pairs) one two are =
    let is = are.0 in (
      no_first pair.0 pairs is.in_one.behind is.in_two.behind are.1 is.in_one.none_behind,
      no_second pair.1 pairs is.in_one.behind is.in_two.behind are.1 is.in_two.none_behind,
      own_cues pairs is.in_one.behind is.in_two.behind are.1,
    )

-- the cues of a pair stand at one place among those of all pairs
abbrev firsts : List (ℕ × ℕ) → List ℕ
firsts pairs = map (λ (pair : ℕ × ℕ). pair.0) pairs

abbrev seconds : List (ℕ × ℕ) → List ℕ
seconds pairs = map (λ (pair : ℕ × ℕ). pair.1) pairs

record StandAt (number : ℕ) (all : List (ℕ × ℕ)) (pair : ℕ × ℕ) : Type 0 where
  place : ℕ
  first : place_from number pair.0 (firsts all) ≡ Some place
  second : place_from number pair.1 (seconds all) ≡ Some place

is_same : (n : ℕ) → (n == n) ≡ true
is_same n = grind (arith, nat_tests)

is_not : (n m : ℕ) → m ≢ n → (n == m) ≡ false
is_not n m other = grind (arith, nat_tests)

one_place : (number : ℕ) (pairs : List (ℕ × ℕ)) → HaveOwnCues pairs → AllByRecursion (StandAt number pairs) pairs
one_place number [] own = tt
one_place number (pair ∷ pairs) own = (here, behind pairs own.0 own.1 (one_place (number + 1) pairs own.2))
  where
    here : StandAt number (pair ∷ pairs) pair
    here = record {
      place = number;
      first =
          ap (λ b. cond b (Some number) (place_from (number + 1) pair.0 (firsts pairs))) (is_same pair.0);
      second =
          ap (λ b. cond b (Some number) (place_from (number + 1) pair.1 (seconds pairs))) (is_same pair.1);
    }

    behind : (later : List (ℕ × ℕ)) → NoFirst pair.0 later → NoSecond pair.1 later
        → AllByRecursion (StandAt (number + 1) pairs) later → AllByRecursion (StandAt number (pair ∷ pairs)) later
    behind [] none no_more places = tt
    behind (next ∷ later) none no_more places = (
      record {
        place = places.0.place;
        first =
            ap (λ b. cond b (Some number) (place_from (number + 1) next.0 (firsts pairs)))
            (is_not pair.0 next.0 none.0)
            ∙ places.0.first;
        second =
            ap (λ b. cond b (Some number) (place_from (number + 1) next.1 (seconds pairs)))
            (is_not pair.1 next.1 no_more.0)
            ∙ places.0.second;
      },
      behind later none.1 no_more.1 places.1,
    )

-- the name of a cue, by its place among the shared ones
abbrev name_by : ℕ → Option ℕ → ℕ
name_by cue found = unwrap_or (option_map (λ n. 32768 + n) found) cue

-- shared objects have one name on both pages
pub same_names : (pairs : List (ℕ × ℕ)) (one two : List CueObject) → ArePairs pairs one two
    → HaveSameNames (names_of (firsts pairs)) (names_of (seconds pairs)) pairs
same_names pairs one two are = by pairs (one_place 0 pairs (own_cues pairs one two are))
  where
    by : (later : List (ℕ × ℕ)) → AllByRecursion (StandAt 0 pairs) later
        → HaveSameNames (names_of (firsts pairs)) (names_of (seconds pairs)) later
    by [] places = tt
    by (pair ∷ later) places = (
      ap (name_by pair.0) places.0.first ∙ sym (ap (name_by pair.1) places.0.second),
      by later places.1,
    )

-- ---- no name twice

-- a place that is found is no earlier than the first
from_first : (number cue place : ℕ) (shared : List ℕ) → place_from number cue shared ≡ Some place → number ≤ place
from_first number cue place [] e = absurd (cc)
from_first number cue place (first ∷ shared) e = by (first == cue) e (from_first (number + 1) cue place shared)
  where
    by : (b : Bool) → cond b (Some number) (place_from (number + 1) cue shared) ≡ Some place
        → (place_from (number + 1) cue shared ≡ Some place → number + 1 ≤ place) → number ≤ place
    by true e later = let same : number ≡ place = cc in omega (arith, same)
    by false e later = omega (arith, later e)

-- at one place stands one cue
one_cue : (number cue other place : ℕ) (shared : List ℕ) → place_from number cue shared ≡ Some place
    → place_from number other shared ≡ Some place → cue ≡ other
one_cue number cue other place [] e f = absurd (cc)
one_cue number cue other place (first ∷ shared) e f =
    by (first == cue) (first == other) refl refl e f (one_cue (number + 1) cue other place shared)
  where
    is_first : (n : ℕ) → (first == n) ≡ true → first ≡ n
    is_first n e = grind (arith, nat_tests)

    later_not : (n : ℕ) → place_from (number + 1) n shared ≡ Some place → number ≡ place → ⊥
    later_not n e same = omega (arith, from_first (number + 1) n place shared e, same)

    by : (b c : Bool) → (first == cue) ≡ b → (first == other) ≡ c
        → cond b (Some number) (place_from (number + 1) cue shared) ≡ Some place
        → cond c (Some number) (place_from (number + 1) other shared) ≡ Some place
        → (place_from (number + 1) cue shared ≡ Some place → place_from (number + 1) other shared ≡ Some place
        → cue ≡ other)
        → cue ≡ other
    by true true is_cue is_other e f later = sym (is_first cue is_cue) ∙ is_first other is_other
    by true false is_cue is_other e f later =
        absurd (let same : number ≡ place = cc in later_not other f same)
    by false true is_cue is_other e f later =
        absurd (let same : number ≡ place = cc in later_not cue e same)
    by false false is_cue is_other e f later = later e f

-- cues below 32,768 have different names
pub names_apart : (shared : List ℕ) (cue other : ℕ) → cue < 32768 → other < 32768
    → names_of shared cue ≡ names_of shared other → cue ≡ other
names_apart shared cue other small less e =
    by (place_from 0 cue shared) (place_from 0 other shared) refl refl e
  where
    by : (found next : Option ℕ) → place_from 0 cue shared ≡ found → place_from 0 other shared ≡ next
        → name_by cue found ≡ name_by other next → cue ≡ other
    by None None is_found is_next e = e
    by None (Some n) is_found is_next e = absurd (omega (arith, e, small))
    by (Some n) None is_found is_next e = absurd (omega (arith, e, less))
    by (Some n) (Some m) is_found is_next e =
        let same : n ≡ m = omega (arith, e) in
        one_cue 0 cue other m shared (is_found ∙ ap Some same) is_next
