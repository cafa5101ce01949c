-- Where a display set ends: with its last segment that counts, or, where that is no end segment, with another set or
-- the end of the stream. So each of its units is one of the set.
use Rattle.std.proofs.Common.{◌≡◌, ◌∙◌, ℕ, zero, suc, ◌<◌, ◌≤◌, Bool, true, false, ◌||◌, cond, eqb, ltb, List, [], ◌∷◌, ◌++◌, length, map, take, Option, Some, None, refl, sym, ap, subst, arith, append-nil, append_assoc, length-append, ◌⊎◌, inl, inr}
use Rattle.std.specs.Prelude.{find, unwrap_or}
use Rattle.std.specs.Bool.{if◌then◌else◌}
use Rattle.std.specs.List.{AllByRecursion, AllZip, sum_by, list_any, take-map}
use Rattle.std.proofs.Math.Seq.{take-append-add}
use Rattle.std.proofs.lemmas.List.{map-append, length-map}
use Rattle.std.specs.Option.{option_map, option_or, is_some}
use Rattle.std.proofs.lemmas.Bool.Decides.{nat_tests}
use Rattle.std.proofs.lemmas.List.Sums.{sum_by-take-le, sum_by-append}
use Rattle.stream_syntax.specs.Tests.{byte_at}
use Rattle.decoder_model.specs.declared.pages.Pages.{Pages}
use Rattle.decoder_model.specs.Arrivals.{PesUnit}
use Rattle.stream_syntax.specs.DataField.{Frame, segment}
use Rattle.decoder_model.specs.Frames.{segments_in, bytes_in, is_end, fault_of}
use Rattle.sub_base.specs.Lists.{prefixes}
use Rattle.decoder_model.specs.Sets.{Stretch, Delivery, whole, is_ended, frames_in, size_in, units_to_end, set_of, handed, first_fault_in, excess_in, is_followed, sets_in}
use Rattle.decoder_model.specs.declared.set_fault.SetFault.TheVariants.{SetTooLong}
use Rattle.decoder_model.proofs.Lists.{all-append, find-map}
use Rattle.sent_sets.proofs.Units.{SetUnit, TimedSet, segments_of_units, size_of_units, all_segments, IsBefore, DoEnd, AreSetUnits, IsTimedSet}
use Rattle.sent_sets.proofs.Runs.{IsPlaced, AreOwnRuns, no_run, own_run, first_time, run_frames, run_size, run_front, run_length}

-- ---- prefixes

-- where no front before the whole passes, the whole is the first that does, or none does
whole_or_none : {X : Type 0} (test : List X → Bool) (x : X) (xs : List X)
    → ((k : ℕ) → k < length xs → test (take (suc k) (x ∷ xs)) ≡ false)
    → find test (prefixes (x ∷ xs)) ≡ (if test (x ∷ xs) then Some (x ∷ xs) else None)
whole_or_none test x [] h = refl
whole_or_none {X} test x (y ∷ xs) h =
    ap (λ passes. cond passes (Some (x ∷ []))
    (find test (map (λ (front : List X). x ∷ front) (prefixes (y ∷ xs)))))
    (h 0 (omega arith))
    ∙ find-map test (λ (front : List X). x ∷ front) (prefixes (y ∷ xs))
    ∙ ap (option_map (λ (front : List X). x ∷ front))
    (whole_or_none (λ front. test (x ∷ front)) y xs (λ k inside. h (suc k) (omega arith)))
    ∙ by (test (x ∷ y ∷ xs))
  where
    by : (passes : Bool) → option_map (λ (front : List X). x ∷ front) (if passes then Some (y ∷ xs) else None)
        ≡ (if passes then Some (x ∷ y ∷ xs) else None)
    by true = refl
    by false = refl

-- where no front before the whole passes, the first that does is the whole, or there is none
only_whole : {X : Type 0} (test : List X → Bool) (xs : List X)
    → ((k : ℕ) → suc k < length xs → test (take (suc k) xs) ≡ false)
    → unwrap_or (find test (prefixes xs)) xs ≡ xs
only_whole test [] h = refl
only_whole {X} test (x ∷ []) h = by (test (x ∷ []))
  where
    by : (passes : Bool) → unwrap_or (cond passes (Some (x ∷ [])) None) (x ∷ []) ≡ x ∷ []
    by true = refl
    by false = refl
only_whole {X} test (x ∷ y ∷ xs) h =
    ap (λ passes. unwrap_or
    (cond passes (Some (x ∷ [])) (find test (map (λ (front : List X). x ∷ front) (prefixes (y ∷ xs)))))
    (x ∷ y ∷ xs)) (h 0 (omega arith))
    ∙ ap (λ found. unwrap_or found (x ∷ y ∷ xs))
    (find-map test (λ (front : List X). x ∷ front) (prefixes (y ∷ xs)))
    ∙ behind (find (λ front. test (x ∷ front)) (prefixes (y ∷ xs)))
    ∙ ap (λ (front : List X). x ∷ front)
    (only_whole (λ front. test (x ∷ front)) (y ∷ xs) (λ k inside. h (suc k) (omega arith)))
  where
    behind : (found : Option (List X))
        → unwrap_or (option_map (λ (front : List X). x ∷ front) found) (x ∷ y ∷ xs) ≡ x
        ∷ unwrap_or found (y ∷ xs)
    behind None = refl
    behind (Some front) = refl

pub segments_are : (segments : List (List ℕ)) → segments_in (map segment segments) ≡ segments
segments_are [] = refl
segments_are (bytes ∷ segments) = ap (λ rest. bytes ∷ rest) (segments_are segments)

pub no_fault : (segments : List (List ℕ))
    → list_any (λ frame. is_some (fault_of frame)) (map segment segments) ≡ false
no_fault [] = refl
no_fault (bytes ∷ segments) = no_fault segments

pub no_first_fault : (segments : List (List ℕ)) → first_fault_in (map segment segments) ≡ None
no_first_fault [] = refl
no_first_fault (bytes ∷ segments) = no_first_fault segments

pub no_end_among : (pages : Pages) (segments : List (List ℕ)) → AllByRecursion (IsBefore pages) segments
    → list_any is_end (map segment segments) ≡ false
no_end_among pages [] h = refl
no_end_among pages (bytes ∷ segments) h =
    ap (λ end. end || list_any is_end (map segment segments)) h.0.no_end ∙ no_end_among pages segments h.1

no_end_in : (pages : Pages) (segments : List (List ℕ)) (k : ℕ) → AllByRecursion (IsBefore pages) segments
    → list_any is_end (take k (map segment segments)) ≡ false
no_end_in pages segments zero h = refl
no_end_in pages [] (suc k) h = refl
no_end_in pages (bytes ∷ segments) (suc k) h =
    ap (λ end. end || list_any is_end (take k (map segment segments))) h.0.no_end ∙ no_end_in pages segments k h.1

pub end_in : (segments : List (List ℕ)) (end : List ℕ) → eqb (byte_at 1 end) 0x80 ≡ true
    → list_any is_end (map segment segments ++ segment end ∷ []) ≡ true
end_in [] end e = ap (λ ends. ends || false) e
end_in (bytes ∷ segments) end e = by (eqb (byte_at 1 bytes) 0x80) (end_in segments end e)
  where
    by : (b : Bool) → list_any is_end (map segment segments ++ segment end ∷ []) ≡ true
        → (b || list_any is_end (map segment segments ++ segment end ∷ [])) ≡ true
    by true e = refl
    by false e = e

-- so many segments without an end among them, and within the buffer, are no ended set
pub not_ended : (coded : ℕ) (segments : List (List ℕ)) → list_any is_end (map segment segments) ≡ false
    → sum_by length segments ≤ coded → is_ended coded (map segment segments) ≡ false
not_ended coded segments e small =
    let bytes : bytes_in (map segment segments) ≡ sum_by length segments =
    ap (sum_by length) (segments_are segments) in
    let room : ltb coded (bytes_in (map segment segments)) ≡ false = rw bytes (grind (arith, nat_tests)) in
    rw (e, no_fault segments, room) refl

pub front_not_ended : (coded : ℕ) (pages : Pages) (segments : List (List ℕ)) (k : ℕ)
    → AllByRecursion (IsBefore pages) segments → sum_by length segments ≤ coded
    → is_ended coded (take k (map segment segments)) ≡ false
front_not_ended coded pages segments k h small =
    ap (is_ended coded) (take-map segment k segments)
    ∙ not_ended coded (take k segments)
    (ap (list_any is_end) (sym (take-map segment k segments)) ∙ no_end_in pages segments k h)
    (omega (arith, sum_by-take-le length segments k))

pub whole_ended : (coded : ℕ) (segments : List (List ℕ)) (end : List ℕ) → eqb (byte_at 1 end) 0x80 ≡ true
    → is_ended coded (map segment segments ++ segment end ∷ []) ≡ true
whole_ended coded segments end e =
    ap (λ ends. ends || list_any (λ frame. is_some (fault_of frame)) (map segment segments ++ segment end ∷ [])
    || ltb coded (bytes_in (map segment segments ++ segment end ∷ []))) (end_in segments end e)

-- ---- the units of a set

-- of a set, the segments before its end
pub set_ends : (pages : Pages) (units : List SetUnit) → AreSetUnits pages units
    → DoEnd pages (segments_of_units units)
set_ends pages [] h = absurd h
set_ends pages (one ∷ []) h =
    record {
      front = h.front;
      end = h.end;
      are = append-nil one.segments
          ∙ h.are;
      each = h.each;
      end_headed = h.end_headed;
      is_end = h.is_end;
    }
set_ends pages (one ∷ next ∷ units) h =
    let more = set_ends pages (next ∷ units) h.2 in
    record {
      front = one.segments ++ more.front;
      end = more.end;
      are =
          ap (λ rest. one.segments ++ rest) more.are ∙ sym (append_assoc one.segments more.front (more.end ∷ []));
      each = all-append (IsBefore pages) one.segments more.front h.1 more.each;
      end_headed = more.end_headed;
      is_end = more.is_end;
    }

-- before its last unit no segment ends a set
pub none_ends : (pages : Pages) (units : List SetUnit) (k : ℕ) → AreSetUnits pages units → k < length units
    → AllByRecursion (IsBefore pages) (segments_of_units (take k units))
none_ends pages [] k h inside = absurd h
none_ends pages (one ∷ units) zero h inside = tt
none_ends pages (one ∷ []) (suc k) h inside = absurd (omega arith)
none_ends pages (one ∷ next ∷ units) (suc k) h inside =
    all-append (IsBefore pages) one.segments (segments_of_units (take k (next ∷ units))) h.1
    (none_ends pages (next ∷ units) k h.2 (omega arith))

pub front_bytes : (units : List SetUnit) (k : ℕ)
    → sum_by length (segments_of_units (take k units)) ≤ sum_by length (segments_of_units units)
front_bytes units zero = omega arith
front_bytes [] (suc k) = omega arith
front_bytes (one ∷ units) (suc k) =
    omega (
      arith,
      front_bytes units k,
      sum_by-append length one.segments
          (segments_of_units (take k units)),
      sum_by-append length one.segments (segments_of_units units),
    )

-- ---- a set whose last segment alone may end it

-- no segment but the last is an end segment
abbrev pub EndsAtLast : List (List ℕ) → Type 0
EndsAtLast [] = Unit {0}
EndsAtLast (bytes ∷ []) = Unit {0}
EndsAtLast (bytes ∷ next ∷ segments) = (is_end (segment bytes) ≡ false) × EndsAtLast (next ∷ segments)

-- so no front that is not the whole has one
before_last : (segments : List (List ℕ)) (k : ℕ) → EndsAtLast segments → k < length segments
    → list_any is_end (map segment (take k segments)) ≡ false
before_last segments zero h inside = refl
before_last [] (suc k) h inside = absurd (omega arith)
before_last (bytes ∷ []) (suc k) h inside = absurd (omega arith)
before_last (bytes ∷ next ∷ segments) (suc k) h inside =
    ap (λ end. end || list_any is_end (map segment (take k (next ∷ segments)))) h.0
    ∙ before_last (next ∷ segments) k h.1 (omega arith)

pub ends_behind : (front segments : List (List ℕ)) → EndsAtLast (front ++ segments) → EndsAtLast segments
ends_behind [] segments h = h
ends_behind (bytes ∷ []) [] h = tt
ends_behind (bytes ∷ []) (next ∷ segments) h = h.1
ends_behind (bytes ∷ next ∷ front) segments h = ends_behind (next ∷ front) segments h.1

pub none_behind_end : (segments before after : List (List ℕ)) (bytes : List ℕ) → EndsAtLast segments
    → segments ≡ before ++ bytes ∷ after → is_end (segment bytes) ≡ true → after ≡ []
none_behind_end segments [] [] bytes h e is = refl
none_behind_end segments [] (next ∷ after) bytes h e is =
    let all = subst EndsAtLast e h in absurd (let no : false ≡ true = sym all.0 ∙ is in cc)
none_behind_end [] (first ∷ before) after bytes h e is = absurd (cc)
none_behind_end (one ∷ []) (first ∷ before) after bytes h e is =
    absurd (omega (arith, ap length e, length-append before (bytes ∷ after)))
none_behind_end (one ∷ next ∷ segments) (first ∷ before) after bytes h e is =
    let rest : next ∷ segments ≡ before ++ bytes ∷ after = cc in
    none_behind_end (next ∷ segments) before after bytes h.1 rest is

-- segments without an end, and then one more
ends_with_one : (pages : Pages) (front : List (List ℕ)) (end : List ℕ) → AllByRecursion (IsBefore pages) front
    → EndsAtLast (front ++ end ∷ [])
ends_with_one pages [] end h = tt
ends_with_one pages (bytes ∷ []) end h = (h.0.no_end, tt)
ends_with_one pages (bytes ∷ next ∷ front) end h = (h.0.no_end, ends_with_one pages (next ∷ front) end h.1)

-- a set that a coded data buffer of so many bytes can hold: each of its units has segments, no segment but the last one
-- ends it, and that one does, or what comes behind it does, as where the stream is over
pub record IsHandable (coded : ℕ) (over : Bool) (set : TimedSet) : Type 0 where
  pub units : AllByRecursion (λ (one : SetUnit). 1 ≤ length one.segments) set.units
  pub some : 1 ≤ length set.units
  pub ends : EndsAtLast (all_segments set)
  pub fits : sum_by length (all_segments set) ≤ coded
  pub closed : (over ≡ true) ⊎ (list_any is_end (map segment (all_segments set)) ≡ true)

have_segments : (pages : Pages) (units : List SetUnit) → AreSetUnits pages units
    → AllByRecursion (λ (one : SetUnit). 1 ≤ length one.segments) units
have_segments pages [] h = absurd h
have_segments pages (one ∷ []) h = (omega (arith, ap length h.are, length-append h.front (h.end ∷ [])), tt)
have_segments pages (one ∷ next ∷ units) h = (h.0, have_segments pages (next ∷ units) h.2)

some_units : (pages : Pages) (units : List SetUnit) → AreSetUnits pages units → 1 ≤ length units
some_units pages [] h = absurd h
some_units pages (one ∷ units) h = omega arith

-- a set that ends with an end segment is one, whatever comes behind it
pub ended_set : (coded : ℕ) (pages : Pages) (over : Bool) (set : TimedSet) → IsTimedSet coded pages set
    → IsHandable coded over set
ended_set coded pages over set h =
    let ends = set_ends pages set.units h.units in
    record {
      units = have_segments pages set.units h.units;
      some = some_units pages set.units h.units;
      ends = subst EndsAtLast (sym ends.are) (ends_with_one pages ends.front ends.end ends.each);
      fits = h.fits;
      closed = inr (ap (λ segments. list_any is_end (map segment segments)) ends.are
          ∙ ap (list_any is_end) (map-append segment ends.front (ends.end ∷ []))
          ∙ end_in ends.front ends.end ends.is_end);
    }

pub handable_units : (coded : ℕ) (over : Bool) (sets : List TimedSet) → AllByRecursion (IsHandable coded over) sets
    → AllByRecursion (λ (set : TimedSet). 1 ≤ length set.units) sets
handable_units coded over [] h = tt
handable_units coded over (set ∷ sets) h = (h.0.some, handable_units coded over sets h.1)

-- ---- its units

-- the segments of the first units are a prefix of those of all
front_of_all : (units : List SetUnit) (k : ℕ)
    → segments_of_units (take k units) ≡ take (length (segments_of_units (take k units))) (segments_of_units units)
front_of_all units zero = refl
front_of_all [] (suc k) = refl
front_of_all (one ∷ units) (suc k) =
    ap (λ rest. one.segments ++ rest) (front_of_all units k)
    ∙ sym (take-append-add one.segments (segments_of_units units) (length (segments_of_units (take k units))))
    ∙ ap (λ n. take n (one.segments ++ segments_of_units units))
    (sym (length-append one.segments (segments_of_units (take k units))))

-- and not the whole, where a unit is left
front_shorter : (units : List SetUnit) (k : ℕ)
    → AllByRecursion (λ (one : SetUnit). 1 ≤ length one.segments) units
    → k < length units → length (segments_of_units (take k units)) < length (segments_of_units units)
front_shorter [] k h inside = absurd (omega arith)
front_shorter (one ∷ units) zero h inside =
    omega (arith, h.0, length-append one.segments (segments_of_units units))
front_shorter (one ∷ units) (suc k) h inside =
    omega (
      arith,
      front_shorter units k h.1 (omega arith),
      length-append one.segments (segments_of_units units),
      length-append one.segments (segments_of_units (take k units)),
    )

-- the first ended front of the set is all of it, or none is ended
set_front : (coded : ℕ) (over : Bool) (set : TimedSet) → IsHandable coded over set
    → find (is_ended coded) (prefixes (map segment (all_segments set)))
    ≡ (if is_ended coded (map segment (all_segments set)) then Some (map segment (all_segments set)) else None)
set_front coded over set h = by (all_segments set) h.ends h.fits
  where
    by : (segments : List (List ℕ)) → EndsAtLast segments → sum_by length segments ≤ coded
        → find (is_ended coded) (prefixes (map segment segments))
        ≡ (if is_ended coded (map segment segments) then Some (map segment segments) else None)
    by [] ends fits = ap (λ ended. if ended then Some [] else None) (sym (not_ended coded [] refl (omega arith)))
    by (bytes ∷ segments) ends fits =
        whole_or_none (is_ended coded) (segment bytes) (map segment segments)
        (λ k inside. ap (is_ended coded) (take-map segment (suc k) (bytes ∷ segments))
        ∙ not_ended coded (take (suc k) (bytes ∷ segments))
        (before_last (bytes ∷ segments) (suc k) ends (omega (arith, inside, length-map segments segment)))
        (omega (arith, sum_by-take-le length (bytes ∷ segments) (suc k))))

-- the set ends with its last unit
all_to_end : (coded : ℕ) (over : Bool) (set : TimedSet) (found : List PesUnit) → IsHandable coded over set
    → AllZip (IsPlaced set.time) found set.units → units_to_end coded found ≡ found
all_to_end coded over set found h are = only_whole (λ front. is_ended coded (frames_in front)) found not_yet
  where
    not_yet : (k : ℕ) → suc k < length found → is_ended coded (frames_in (take (suc k) found)) ≡ false
    not_yet k inside =
        let fits = h.fits in
        let front = segments_of_units (take (suc k) set.units) in
        let some = front_shorter set.units (suc k) h.units (omega (arith, run_length set.time found set.units are)) in
        let none : list_any is_end (map segment front) ≡ false =
        ap (λ segments. list_any is_end (map segment segments)) (front_of_all set.units (suc k))
        ∙ before_last (all_segments set) (length front) h.ends some in
        ap (is_ended coded)
        (run_frames set.time (take (suc k) found) (take (suc k) set.units)
        (run_front set.time found set.units (suc k) are))
        ∙ not_ended coded front none (omega (arith, front_bytes set.units (suc k)))

-- ---- what is handed on

-- what is handed on of a set
abbrev pub delivered : TimedSet → Delivery (List ℕ)
delivered set = whole set.time (size_of_units set.units) (all_segments set)

-- the set of a run is handed on whole, where it ends, or the run is followed
pub handed_on : (coded : ℕ) (over : Bool) (set : TimedSet) (first : PesUnit) (more : List PesUnit)
    (followed : Bool) → IsHandable coded over set → AllZip (IsPlaced set.time) (first ∷ more) set.units
    → (followed ≡ true) ⊎ (list_any is_end (map segment (all_segments set)) ≡ true)
    → set_of coded first.time (first ∷ more) followed
    (find (is_ended coded) (prefixes (frames_in (first ∷ more)))) ≡ delivered set ∷ []
handed_on coded over set first more followed h are closed =
    ap (λ frames. set_of coded first.time (first ∷ more) followed (find (is_ended coded) (prefixes frames)))
    (run_frames set.time (first ∷ more) set.units are)
    ∙ ap (set_of coded first.time (first ∷ more) followed) (set_front coded over set h)
    ∙ by (list_any is_end (map segment segments)) refl closed
  where
    segments : List (List ℕ)
    segments = all_segments set

    size : size_in (units_to_end coded (first ∷ more)) ≡ size_of_units set.units
    size =
        ap size_in (all_to_end coded over set (first ∷ more) h are)
        ∙ run_size set.time (first ∷ more) set.units are

    Handed : Option (List Frame) → Type 0
    Handed front = set_of coded first.time (first ∷ more) followed front ≡ delivered set ∷ []

    ended : Handed (Some (map segment segments))
    ended =
        let fits = h.fits in
        let bytes_are : bytes_in (map segment segments) ≡ sum_by length segments =
        ap (sum_by length) (segments_are segments) in
        let room : ltb coded (bytes_in (map segment segments)) ≡ false =
        rw bytes_are (grind (arith, nat_tests)) in
        ap (λ time. handed time (size_in (units_to_end coded (first ∷ more))) (map segment segments)
        (option_or (first_fault_in (map segment segments)) (excess_in coded (map segment segments))) ∷ [])
        (first_time set.time first more set.units are)
        ∙ ap (λ size. handed set.time size (map segment segments)
        (option_or (first_fault_in (map segment segments)) (excess_in coded (map segment segments))) ∷ []) size
        ∙ ap (λ fault. handed set.time (size_of_units set.units) (map segment segments)
        (option_or fault (excess_in coded (map segment segments))) ∷ []) (no_first_fault segments)
        ∙ ap (λ full. handed set.time (size_of_units set.units) (map segment segments)
        (if full then Some (SetTooLong (bytes_in (map segment segments))) else None) ∷ []) room
        ∙ ap (λ found. whole set.time (size_of_units set.units) found ∷ []) (segments_are segments)

    unended : followed ≡ true → Handed None
    unended is =
        ap (λ (b : Bool). if b then whole first.time (size_in (first ∷ more))
        (segments_in (frames_in (first ∷ more))) ∷ [] else []) is
        ∙ ap (λ time. whole time (size_in (first ∷ more)) (segments_in (frames_in (first ∷ more))) ∷ [])
        (first_time set.time first more set.units are)
        ∙ ap (λ size. whole set.time size (segments_in (frames_in (first ∷ more))) ∷ [])
        (run_size set.time (first ∷ more) set.units are)
        ∙ ap (λ found. whole set.time (size_of_units set.units) found ∷ [])
        (ap segments_in (run_frames set.time (first ∷ more) set.units are) ∙ segments_are segments)

    by : (b : Bool) → list_any is_end (map segment segments) ≡ b
        → (followed ≡ true) ⊎ (list_any is_end (map segment segments) ≡ true)
        → Handed (if is_ended coded (map segment segments) then Some (map segment segments) else None)
    by true is closed =
        let all : is_ended coded (map segment segments) ≡ true =
        ap (λ end. end || list_any (λ frame. is_some (fault_of frame)) (map segment segments)
        || ltb coded (bytes_in (map segment segments))) is in
        subst (λ (b : Bool). Handed (if b then Some (map segment segments) else None)) (sym all) ended
    by false is (inl follows) =
        subst (λ (b : Bool). Handed (if b then Some (map segment segments) else None))
        (sym (not_ended coded segments is h.fits)) (unended follows)
    by false is (inr end) = absurd (cc)

-- the sets of these runs are all of them, whole, in order
pub all_handed_on : (coded : ℕ) (over : Bool) (stretches : List Stretch) (sets : List TimedSet)
    → AllByRecursion (IsHandable coded over) sets → AreOwnRuns stretches sets
    → sets_in coded over stretches ≡ map delivered sets
all_handed_on coded over stretches sets h (no_run) = refl
all_handed_on coded over stretches sets h
    (own_run {first = first} {more = more} {rest = rest} {set = set} {sets = further} are all) =
    ap (λ front. front ++ sets_in coded over rest)
    (handed_on coded over set first more (is_followed over rest) h.0 are (closed rest further all))
    ∙ ap (λ others. delivered set ∷ others) (all_handed_on coded over rest further h.1 all)
  where
    closed : (rest : List Stretch) (further : List TimedSet) → AreOwnRuns rest further
        → (is_followed over rest ≡ true) ⊎ (list_any is_end (map segment (all_segments set)) ≡ true)
    closed rest further (no_run) = h.0.closed
    closed rest further (own_run are all) = inl refl
