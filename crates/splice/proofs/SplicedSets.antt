-- The sets of two joined streams, the latest first: each has segments of the page alone, of which none but the last
-- ends it, and their times are near.
use Rattle.std.proofs.Common.{◌≡◌, ◌∙◌, ℕ, ◌+◌, ◌-◌, ◌≤◌, Bool, true, false, cond, List, [], ◌∷◌, ◌++◌, length, map, filter, reverse, Option, Some, None, refl, sym, ap, subst, arith, append_assoc, append-nil}
use Rattle.std.specs.List.{AllByRecursion}
use Rattle.std.proofs.lemmas.List.{reverse-append, reverse-reverse, map-append}
use Rattle.decoder_model.specs.Sets.{Delivery, lost, whole, refused}
use Rattle.decoder_model.specs.declared.pages.Pages.{Pages}
use Rattle.decoder_model.proofs.Lists.{all-append}
use Rattle.decoder_model.proofs.NearTimes.{IsNear, AreNear, near_at, least_near, near_joined, near_moved, near_apart}
use Rattle.decoder_model.proofs.ReceivedSegments.{IsCounted, SegmentsHave, DeliveryHas}
use Rattle.decoder_model.specs.Kept.{lifted_time}
use Rattle.decoder_model.specs.Readings.{Reading}
use Rattle.sent_sets.specs.RawSets.{RawSet, HaveTimesApart}
use Rattle.splice.specs.KeptSets.{set_at}
use Rattle.splice.specs.SplicedSets.{is_before, begin_of, moved, spliced}
use Rattle.splice.proofs.KeptPasts.{time_of_set, times_of, kept_back, AreReadAs}

-- ---- backwards

pub all_back : {X : Type 0} (P : X → Type 0) (xs : List X) → AllByRecursion P xs → AllByRecursion P (reverse xs)
all_back P [] h = tt
all_back P (x ∷ xs) h =
    subst (AllByRecursion P) (sym (reverse-append (x ∷ []) xs))
    (all-append P (reverse xs) (x ∷ []) (all_back P xs h.1) (h.0, tt))

filter_parts : {X : Type 0} (p : X → Bool) (xs ys : List X) → filter p (xs ++ ys) ≡ filter p xs ++ filter p ys
filter_parts p [] ys = refl
filter_parts p (x ∷ xs) ys = by (p x) (filter_parts p xs ys)
  where
    by : (b : Bool) → filter p (xs ++ ys) ≡ filter p xs ++ filter p ys
        → cond b (x ∷ filter p (xs ++ ys)) (filter p (xs ++ ys))
        ≡ cond b (x ∷ filter p xs) (filter p xs) ++ filter p ys
    by true e = ap (λ rest. x ∷ rest) e
    by false e = e

one_filtered : {X : Type 0} (p : X → Bool) (x : X) → reverse (filter p (x ∷ [])) ≡ filter p (x ∷ [])
one_filtered {X} p x = by (p x)
  where
    by : (b : Bool) → reverse (cond {A = List X} b (x ∷ []) []) ≡ cond b (x ∷ []) []
    by true = refl
    by false = refl

pub filter_back : {X : Type 0} (p : X → Bool) (xs : List X) → filter p (reverse xs) ≡ reverse (filter p xs)
filter_back p [] = refl
filter_back p (x ∷ xs) =
    ap (filter p) (reverse-append (x ∷ []) xs)
    ∙ filter_parts p (reverse xs) (x ∷ [])
    ∙ ap (λ front. front ++ filter p (x ∷ [])) (filter_back p xs)
    ∙ ap (λ last. reverse (filter p xs) ++ last) (sym (one_filtered p x))
    ∙ sym (reverse-append (filter p (x ∷ [])) (filter p xs))
    ∙ ap reverse (sym (filter_parts p (x ∷ []) xs))

map_back : {X Y : Type 0} (f : X → Y) (xs : List X) → map f (reverse xs) ≡ reverse (map f xs)
map_back f [] = refl
map_back f (x ∷ xs) =
    ap (map f) (reverse-append (x ∷ []) xs)
    ∙ map-append f (reverse xs) (x ∷ [])
    ∙ ap (λ front. front ++ f x ∷ []) (map_back f xs)
    ∙ sym (reverse-append (f x ∷ []) (map f xs))

-- the joined sets, the latest first
abbrev pub joined_back : ℕ → ℕ → List RawSet → List RawSet → List RawSet
joined_back cut begin first second = map (moved cut begin) second ++ filter (is_before cut) first

pub spliced_is_back : (cut : ℕ) (first second : List RawSet)
    → spliced cut (reverse first) (reverse second)
    ≡ reverse (joined_back cut (begin_of (reverse second)) first second)
spliced_is_back cut first second =
    let begin = begin_of (reverse second) in
    ap (λ front. front ++ map (moved cut begin) (reverse second)) (filter_back (is_before cut) first)
    ∙ ap (λ rest. reverse (filter (is_before cut) first) ++ rest) (map_back (moved cut begin) second)
    ∙ sym (reverse-append (map (moved cut begin) second) (filter (is_before cut) first))

-- the first set stands last
pub begin_is : (later : List RawSet) (first : RawSet) → begin_of (reverse (later ++ first ∷ [])) ≡ first.time
begin_is later first = ap begin_of (reverse-append later (first ∷ []))

-- ---- segments

-- the segments of a set are of the pages, none but the last ends it, and there are some
pub record IsGoodRaw (pages : Pages) (raw : RawSet) : Type 0 where
  pub has : SegmentsHave (IsCounted pages) raw.segments
  pub some : 1 ≤ length raw.segments

abbrev RawHas : Pages → RawSet → Type 0
RawHas pages raw = SegmentsHave (IsCounted pages) raw.segments

kept_one : (pages : Pages) (lifted : Option ℕ) (delivery : Delivery (List ℕ))
    → DeliveryHas (IsCounted pages) delivery → AllByRecursion (RawHas pages) (set_at lifted delivery)
kept_one pages None delivery h = tt
kept_one pages (Some at) lost h = tt
kept_one pages (Some at) (whole time size bytes) h = (h, tt)
kept_one pages (Some at) (refused time size fault) h = tt

pub kept_have : (pages : Pages) (anchor : ℕ) (past : List (Delivery (List ℕ)))
    → AllByRecursion (DeliveryHas (IsCounted pages)) past → AllByRecursion (RawHas pages) (kept_back anchor past)
kept_have pages anchor [] h = tt
kept_have pages anchor (delivery ∷ past) h =
    all-append (RawHas pages) (set_at (lifted_time anchor past delivery) delivery) (kept_back anchor past)
    (kept_one pages (lifted_time anchor past delivery) delivery h.0) (kept_have pages anchor past h.1)

pub filter_has : (P : RawSet → Type 0) (p : RawSet → Bool) (raws : List RawSet) → AllByRecursion P raws
    → AllByRecursion P (filter p raws)
filter_has P p [] h = tt
filter_has P p (raw ∷ raws) h = by (p raw) (filter_has P p raws h.1)
  where
    by : (b : Bool) → AllByRecursion P (filter p raws)
        → AllByRecursion P (cond b (raw ∷ filter p raws) (filter p raws))
    by true rest = (h.0, rest)
    by false rest = rest

pub good_raws : (pages : Pages) (sets : List (Delivery Reading)) (raws : List RawSet) → AreReadAs sets raws
    → AllByRecursion (RawHas pages) raws → AllByRecursion (IsGoodRaw pages) raws
good_raws pages [] [] are h = tt
good_raws pages [] (raw ∷ raws) are h = absurd are
good_raws pages (set ∷ sets) [] are h = absurd are
good_raws pages (set ∷ sets) (raw ∷ raws) are h =
    (record { has = h.0; some = are.0.some }, good_raws pages sets raws are.1 h.1)

pub moved_good : (pages : Pages) (cut begin : ℕ) (raws : List RawSet) → AllByRecursion (IsGoodRaw pages) raws
    → AllByRecursion (IsGoodRaw pages) (map (moved cut begin) raws)
moved_good pages cut begin [] h = tt
moved_good pages cut begin (raw ∷ raws) h =
    (record { has = h.0.has; some = h.0.some }, moved_good pages cut begin raws h.1)

pub moved_read : (cut begin : ℕ) (sets : List (Delivery Reading)) (raws : List RawSet) → AreReadAs sets raws
    → AreReadAs sets (map (moved cut begin) raws)
moved_read cut begin [] [] are = tt
moved_read cut begin [] (raw ∷ raws) are = absurd are
moved_read cut begin (set ∷ sets) [] are = absurd are
moved_read cut begin (set ∷ sets) (raw ∷ raws) are = (
  record {
    time = are.0.time;
    size = are.0.size;
    readings = are.0.readings;
    is = are.0.is;
    read = are.0.read;
    some = are.0.some;
  },
  moved_read cut begin sets raws are.1,
)

-- ---- times

moved_times : (cut begin : ℕ) (raws : List RawSet)
    → times_of (map (moved cut begin) raws) ≡ map (λ time. time + cut - begin) (times_of raws)
moved_times cut begin [] = refl
moved_times cut begin (raw ∷ raws) = ap (λ rest. (raw.time + cut - begin) ∷ rest) (moved_times cut begin raws)

-- the sets of a stream that begins at that time
pub record BeginsAt (raws : List RawSet) (begin : ℕ) : Type 0 where
  pub later : List RawSet
  pub first : RawSet
  pub parts : raws ≡ later ++ first ∷ []
  pub time : first.time ≡ begin

begin_times : (raws : List RawSet) (begin : ℕ) → (at : BeginsAt raws begin)
    → times_of raws ≡ times_of at.later ++ begin ∷ []
begin_times raws begin at =
    ap times_of at.parts ∙ map-append time_of_set at.later (at.first ∷ [])
    ∙ ap (λ time. times_of at.later ++ time ∷ []) at.time

-- no set of it is earlier
pub all_from : (raws : List RawSet) (begin : ℕ) → BeginsAt raws begin → AreNear (times_of raws)
    → AllByRecursion (λ time. begin ≤ time) (times_of raws)
all_from raws begin at near =
    let parts = begin_times raws begin at in
    subst (AllByRecursion (λ time. begin ≤ time)) (sym parts)
    (least_near (times_of at.later) begin (subst AreNear parts near))

-- the last set before the cut is neither too close to it nor too far from it
abbrev pub IsNearCut : ℕ → List RawSet → Type 0
IsNearCut cut [] = Unit {0}
IsNearCut cut (last ∷ front) = IsNear last.time cut

pub joined_near : (cut begin : ℕ) (second front : List RawSet) → BeginsAt second begin
    → AreNear (times_of second) → AreNear (times_of front) → IsNearCut cut front
    → AreNear (times_of (map (moved cut begin) second ++ front))
joined_near cut begin second front at near before close = by front before close
  where
    parts : times_of second ≡ times_of at.later ++ begin ∷ []
    parts = begin_times second begin at

    ends : map (λ time. time + cut - begin) (times_of second)
        ≡ map (λ time. time + cut - begin) (times_of at.later) ++ cut ∷ []
    ends =
        ap (map (λ time. time + cut - begin)) parts
        ∙ map-append (λ time. time + cut - begin) (times_of at.later) (begin ∷ [])
        ∙ ap (λ time. map (λ time. time + cut - begin) (times_of at.later) ++ time ∷ []) (omega arith)

    own : AreNear (map (λ time. time + cut - begin) (times_of second))
    own = near_moved begin cut (times_of second) (all_from second begin at near) near

    by : (front : List RawSet) → AreNear (times_of front) → IsNearCut cut front
        → AreNear (times_of (map (moved cut begin) second ++ front))
    by [] before close =
        subst AreNear (sym (ap times_of (append-nil (map (moved cut begin) second)) ∙ moved_times cut begin second)) own
    by (last ∷ rest) before close =
        subst AreNear (sym (map-append time_of_set (map (moved cut begin) second) (last ∷ rest)
        ∙ ap (λ times. times ++ times_of (last ∷ rest)) (moved_times cut begin second ∙ ends)))
        (near_joined (map (λ time. time + cut - begin) (times_of at.later)) cut last.time (times_of rest)
        (subst AreNear ends own) before close)

-- near times are apart, modulo 2 to the 33
pub times_apart : (back : List RawSet) → AreNear (times_of back) → HaveTimesApart (reverse back)
times_apart back near before after one next parts same =
    near_apart one.time next.time
    (near_at (times_of (reverse after)) next.time one.time (times_of (reverse before))
    (subst AreNear (ap times_of turned
    ∙ map-append time_of_set (reverse after) (next ∷ one ∷ reverse before)) near)) same
  where
    turned : back ≡ reverse after ++ next ∷ one ∷ reverse before
    turned =
        sym (reverse-reverse back) ∙ ap reverse parts
        ∙ reverse-append before (one ∷ next ∷ after)
        ∙ ap (λ front. front ++ reverse before) (reverse-append (one ∷ next ∷ []) after)
        ∙ append_assoc (reverse after) (next ∷ one ∷ []) (reverse before)
