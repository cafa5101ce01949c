-- The units of a set that is not yet whole are the run in hand, and its last unit ends it.
use Rattle.std.proofs.Common.{◌≡◌, ◌∙◌, ℕ, ◌<◌, ◌≤◌, Bool, true, false, eqb, cond, not, ◌&&◌, ◌||◌, List, [], ◌∷◌, ◌++◌, length, map, take, Some, refl, sym, ap, subst, arith}
use Rattle.std.specs.List.{AllZip, list_any}
use Rattle.std.proofs.lemmas.Bool.Decides.{nat_tests}
use Rattle.std.proofs.lemmas.List.{map-append}
use Rattle.stream_syntax.specs.DataField.{segment}
use Rattle.decoder_model.specs.declared.pages.Pages.{Pages}
use Rattle.decoder_model.specs.Arrivals.{PesUnit, unit}
use Rattle.decoder_model.specs.PacketArrivals.{of_time, is_in_hand, makes_ready}
use Rattle.decoder_model.specs.Sets.{is_ended, frames_in}
use Rattle.sent_sets.proofs.Runs.{IsPlaced, run_frames}
use Rattle.sent_sets.proofs.SetEnds.{not_ended, whole_ended, no_end_among, none_ends, front_bytes, set_ends}
use Rattle.sent_sets.proofs.Units.{SetUnit, TimedSet, segments_of_units, IsTimedSet, unit_of}

-- ---- the run in hand

same_time : (time : ℕ) → eqb time time ≡ true
same_time time = grind (arith, nat_tests)

-- the last run behind the first units of a set is of these units; before them it is no set in hand, and of another time
abbrev pub IsRun : ℕ → ℕ → List PesUnit → List SetUnit → Type 0
IsRun coded time found [] = (is_in_hand coded found ≡ false) × (of_time time found ≡ [])
IsRun coded time found (one ∷ part) = AllZip (IsPlaced time) found (one ∷ part)

all_of_time : (time : ℕ) (found : List PesUnit) (units : List SetUnit) → AllZip (IsPlaced time) found units
    → of_time time found ≡ found
all_of_time time [] [] h = refl
all_of_time time [] (one ∷ units) h = absurd h
all_of_time time (first ∷ found) [] h = absurd h
all_of_time time (first ∷ found) (one ∷ units) h =
    ap (λ same. cond same (first ∷ of_time time found) (of_time time found))
    (ap (λ (unit : PesUnit). eqb unit.time time) h.0.1 ∙ same_time time)
    ∙ ap (λ rest. first ∷ rest) (all_of_time time found units h.1)

pub none_of_time : (time next : ℕ) (found : List PesUnit) (units : List SetUnit) → eqb time next ≡ false
    → AllZip (IsPlaced time) found units → of_time next found ≡ []
none_of_time time next [] units other h = refl
none_of_time time next (first ∷ found) [] other h = absurd h
none_of_time time next (first ∷ found) (one ∷ units) other h =
    ap (λ same. cond same (first ∷ of_time next found) (of_time next found))
    (ap (λ (unit : PesUnit). eqb unit.time next) h.0.1 ∙ other) ∙ none_of_time time next found units other h.1

-- those of its units that have the time of the set
pub kept_of_run : (coded time : ℕ) (found : List PesUnit) (part : List SetUnit) → IsRun coded time found part
    → AllZip (IsPlaced time) (of_time time found) part
kept_of_run coded time found [] h = subst (λ (kept : List PesUnit). AllZip (IsPlaced time) kept []) (sym h.1) tt
kept_of_run coded time found (one ∷ part) h =
    subst (λ (kept : List PesUnit). AllZip (IsPlaced time) kept (one ∷ part))
    (sym (all_of_time time found (one ∷ part) h)) h

pub run_of_some : (coded time : ℕ) (found : List PesUnit) (part : List SetUnit) → 1 ≤ length part
    → AllZip (IsPlaced time) found part → IsRun coded time found part
run_of_some coded time found [] some h = absurd (omega arith)
run_of_some coded time found (one ∷ part) some h = h

pub zip_push : {A B : Type 0} (R : A → B → Type 0) (xs : List A) (ys : List B) (x : A) (y : B) → AllZip R xs ys
    → R x y → AllZip R (xs ++ x ∷ []) (ys ++ y ∷ [])
zip_push R [] [] x y h r = (r, tt)
zip_push R [] (b ∷ ys) x y h r = absurd h
zip_push R (a ∷ xs) [] x y h r = absurd h
zip_push R (a ∷ xs) (b ∷ ys) x y h r = (h.0, zip_push R xs ys x y h.1 r)

some_of_time : (time : ℕ) (found : List PesUnit) (one : SetUnit) (units : List SetUnit)
    → AllZip (IsPlaced time) found (one ∷ units)
    → list_any (λ (other : PesUnit). eqb other.time time) found ≡ true
some_of_time time [] one units h = absurd h
some_of_time time (first ∷ found) one units h =
    ap (λ same. same || list_any (λ (other : PesUnit). eqb other.time time) found)
    (ap (λ (unit : PesUnit). eqb unit.time time) h.0.1 ∙ same_time time)

-- a unit of the set makes no other set ready
pub none_ready : (coded place time : ℕ) (found : List PesUnit) (part : List SetUnit) (one : SetUnit)
    → IsRun coded time found part → makes_ready coded found (Some (unit (unit_of place time one))) ≡ false
none_ready coded place time found [] one h =
    ap (λ ready. ready && not (list_any (λ (other : PesUnit). eqb other.time time) found)) h.0
none_ready coded place time found (first ∷ part) one h =
    ap (λ any. is_in_hand coded found && not any) (some_of_time time found first part h)
    ∙ never (is_in_hand coded found)
  where
    never : (b : Bool) → (b && false) ≡ false
    never true = refl
    never false = refl

-- ---- the end of a set

-- the first units of a set do not end it
pub front_open : (coded : ℕ) (pages : Pages) (set : TimedSet) (k : ℕ) (found : List PesUnit)
    → IsTimedSet coded pages set → k < length set.units → AllZip (IsPlaced set.time) found (take k set.units)
    → is_ended coded (frames_in found) ≡ false
front_open coded pages set k found is inside are =
    let fits = is.fits in
    let front = segments_of_units (take k set.units) in
    ap (is_ended coded) (run_frames set.time found (take k set.units) are)
    ∙ not_ended coded front (no_end_among pages front (none_ends pages set.units k is.units inside))
    (omega (arith, fits, front_bytes set.units k))

-- with all of its units a set is ended
all_ended : (coded : ℕ) (pages : Pages) (set : TimedSet) (found : List PesUnit) → IsTimedSet coded pages set
    → AllZip (IsPlaced set.time) found set.units → is_ended coded (frames_in found) ≡ true
all_ended coded pages set found is are =
    let ends = set_ends pages set.units is.units in
    ap (is_ended coded)
    (run_frames set.time found set.units are ∙ ap (map segment) ends.are
    ∙ map-append segment ends.front (ends.end ∷ [])) ∙ whole_ended coded ends.front ends.end ends.is_end

pub none_in_hand : (coded : ℕ) (pages : Pages) (set : TimedSet) (found : List PesUnit) → IsTimedSet coded pages set
    → AllZip (IsPlaced set.time) found set.units → is_in_hand coded found ≡ false
none_in_hand coded pages set [] is are = refl
none_in_hand coded pages set (first ∷ found) is are = ap not (all_ended coded pages set (first ∷ found) is are)
