-- The kept sets of a stream as a receiver has them, the latest first: each whole, kept at its time, and read.
use Rattle.std.proofs.Common.{◌≡◌, ◌∙◌, ℕ, ◌≤◌, List, [], ◌∷◌, ◌++◌, length, map, reverse, Option, Some, None, refl, sym, ap, subst, arith, append-nil}
use Rattle.std.specs.Prelude.{option_and_then}
use Rattle.std.specs.Option.{option_or}
use Rattle.std.proofs.lemmas.List.{reverse-append}
use Rattle.sub_base.specs.declared.profile.Profile.{Profile}
use Rattle.decoder_model.specs.Kept.{lifted_behind, time_of, lifted_after, lifted_time, last_time}
use Rattle.decoder_model.specs.Readings.{Reading, AreReadings, IsDeliveryRead, AreDeliveriesRead}
use Rattle.decoder_model.specs.Sets.{Delivery, lost, whole, refused}
use Rattle.decoder_model.specs.Verdict.{verdict_on_kept, if_kept, verdict_of, sets_since}
use Rattle.decoder_model.specs.declared.set_end.SetEnd.TheVariants.{Shown}
use Rattle.decoder_model.specs.declared.set_fault.SetFault.TheVariants.{NoPage}
use Rattle.decoder_model.proofs.MovedSets.{AreShownBehind, broken_is_not_shown}
use Rattle.decoder_model.proofs.NearTimes.{AreKeptAt}
use Rattle.sent_sets.specs.RawSets.{RawSet}
use Rattle.splice.specs.KeptSets.{set_at, kept_among}

abbrev pub time_of_set : RawSet → ℕ
time_of_set set = set.time

abbrev pub times_of : List RawSet → List ℕ
times_of sets = map time_of_set sets

-- ---- the latest first

-- the kept sets, the latest first
abbrev pub kept_back : ℕ → List (Delivery (List ℕ)) → List RawSet
kept_back anchor [] = []
kept_back anchor (delivery ∷ past) = set_at (lifted_time anchor past delivery) delivery ++ kept_back anchor past

-- a list of at most one item is itself backwards
one_back : (lifted : Option ℕ) (delivery : Delivery (List ℕ))
    → reverse (set_at lifted delivery) ≡ set_at lifted delivery
one_back None delivery = refl
one_back (Some at) lost = refl
one_back (Some at) (whole time size bytes) = refl
one_back (Some at) (refused time size fault) = refl

pub kept_is_back : (anchor : ℕ) (past : List (Delivery (List ℕ)))
    → kept_among anchor past ≡ reverse (kept_back anchor past)
kept_is_back anchor [] = refl
kept_is_back anchor (delivery ∷ past) =
    let here = set_at (lifted_time anchor past delivery) delivery in
    ap (λ before. before ++ here) (kept_is_back anchor past)
    ∙ ap (λ last. reverse (kept_back anchor past) ++ last) (sym (one_back (lifted_time anchor past delivery) delivery))
    ∙ sym (reverse-append here (kept_back anchor past))

-- ---- lifted times of what is read

same_time : (delivery : Delivery (List ℕ)) (reading : Delivery Reading) → IsDeliveryRead delivery reading
    → time_of delivery ≡ time_of reading
same_time lost reading is = ap time_of (sym is)
same_time (whole time size segments) reading is = ap time_of (sym is.2)
same_time (refused time size fault) reading is = ap time_of (sym is)

pub same_last : (anchor : ℕ) (past : List (Delivery (List ℕ))) (readings : List (Delivery Reading))
    → AreDeliveriesRead past readings → last_time anchor past ≡ last_time anchor readings
unfolding last_time
same_last anchor [] [] are = refl
same_last anchor [] (reading ∷ readings) are = absurd are
same_last anchor (delivery ∷ past) [] are = absurd are
same_last anchor (delivery ∷ past) (reading ∷ readings) are =
    let before = same_last anchor past readings are.1 in
    ap (λ last. option_or (option_and_then (lifted_behind anchor last) (time_of delivery)) last) before
    ∙ ap (λ time. option_or (option_and_then (lifted_behind anchor (last_time anchor readings)) time)
    (last_time anchor readings)) (same_time delivery reading are.0)

pub same_lifted : (anchor : ℕ) (past : List (Delivery (List ℕ))) (readings : List (Delivery Reading))
    (delivery : Delivery (List ℕ)) (reading : Delivery Reading) → AreDeliveriesRead past readings
    → IsDeliveryRead delivery reading → lifted_time anchor past delivery ≡ lifted_time anchor readings reading
same_lifted anchor past readings delivery reading are is =
    ap (λ last. lifted_after anchor last delivery) (same_last anchor past readings are)
    ∙ ap (option_and_then (lifted_behind anchor (last_time anchor readings))) (same_time delivery reading is)

-- ---- sets that are shown

-- a set is whole, and is read as the segments of a raw set, of which there are some
pub record IsReadAs (set : Delivery Reading) (raw : RawSet) : Type 0 where
  pub time : ℕ
  pub size : ℕ
  pub readings : List Reading
  pub is : set ≡ whole time size readings
  pub read : AreReadings raw.segments readings
  pub some : 1 ≤ length raw.segments

abbrev pub AreReadAs : List (Delivery Reading) → List RawSet → Type 0
AreReadAs [] [] = Unit {0}
AreReadAs [] (raw ∷ raws) = ⊥
AreReadAs (set ∷ sets) [] = ⊥
AreReadAs (set ∷ sets) (raw ∷ raws) = IsReadAs set raw × AreReadAs sets raws

-- a set that is shown is kept
pub not_unkept : (profile : Profile) (anchor : ℕ) (past : List (Delivery Reading)) (set : Delivery Reading)
    → verdict_of profile anchor past set ≡ Some Shown → lifted_time anchor past set ≡ None → ⊥
not_unkept profile anchor past lost is none = absurd (cc)
not_unkept profile anchor past (whole time size readings) is none =
    let verdict = ap (λ found. Some (if_kept found (last_time anchor past)
    (verdict_on_kept profile (sets_since profile anchor past) readings))) none in
    let same = sym verdict ∙ is in
    absurd (cc)
not_unkept profile anchor past (refused time size fault) is none =
    broken_is_not_shown fault (lifted_behind anchor (last_time anchor past) time) (last_time anchor past) is

-- and has a segment
has_segments : (profile : Profile) (anchor time size : ℕ) (past : List (Delivery Reading)) (segments : List (List ℕ))
    (readings : List Reading) → AreReadings segments readings
    → verdict_of profile anchor past (whole time size readings) ≡ Some Shown → 1 ≤ length segments
has_segments profile anchor time size past [] [] are is =
    absurd (broken_is_not_shown NoPage (lifted_behind anchor (last_time anchor past) time) (last_time anchor past) is)
has_segments profile anchor time size past [] (reading ∷ readings) are is = absurd are
has_segments profile anchor time size past (bytes ∷ segments) readings are is = omega arith

-- what a set that is shown is as a set of its stream
pub record IsKeptSet (anchor : ℕ) (past : List (Delivery (List ℕ))) (delivery : Delivery (List ℕ))
    (readings : List (Delivery Reading)) (set : Delivery Reading) : Type 0 where
  pub raw : RawSet
  pub there : set_at (lifted_time anchor past delivery) delivery ≡ raw ∷ []
  pub kept : lifted_time anchor readings set ≡ Some raw.time
  pub read : IsReadAs set raw

pub kept_set : (profile : Profile) (anchor : ℕ) (past : List (Delivery (List ℕ))) (delivery : Delivery (List ℕ))
    (readings : List (Delivery Reading)) (set : Delivery Reading) → AreDeliveriesRead past readings
    → IsDeliveryRead delivery set → verdict_of profile anchor readings set ≡ Some Shown
    → IsKeptSet anchor past delivery readings set
kept_set profile anchor past lost readings set are is shown =
    let verdict = ap (verdict_of profile anchor readings) (sym is) ∙ shown in
    absurd (cc)
kept_set profile anchor past (refused time size fault) readings set are is shown =
    absurd (broken_is_not_shown fault (lifted_behind anchor (last_time anchor readings) time)
    (last_time anchor readings) (ap (verdict_of profile anchor readings) (sym is) ∙ shown))
kept_set profile anchor past (whole time size segments) readings set are is shown =
    by (lifted_time anchor readings set) refl
  where
    by : (lifted : Option ℕ) → lifted_time anchor readings set ≡ lifted
        → IsKeptSet anchor past (whole time size segments) readings set
    by None e = absurd (not_unkept profile anchor readings set shown e)
    by (Some at) e = record {
      raw = record { time = at; segments = segments };
      there =
          ap (λ lifted. set_at lifted (whole time size segments))
          (same_lifted anchor past readings (whole time size segments) set are is ∙ e);
      kept = e;
      read = record {
        time = time;
        size = size;
        readings = is.0;
        is = is.2;
        read = is.1;
        some = has_segments profile anchor time size readings segments is.0 is.1
            (ap (verdict_of profile anchor readings) (sym is.2) ∙ shown);
      };
    }

-- ---- by themselves

-- each of these sets is shown behind those before it
abbrev pub AreAllShown : Profile → ℕ → List (Delivery Reading) → Type 0
AreAllShown profile anchor [] = Unit {0}
AreAllShown profile anchor (set ∷ past) =
    (verdict_of profile anchor past set ≡ Some Shown) × AreAllShown profile anchor past

pub shown_behind_none : (profile : Profile) (anchor : ℕ) (sets : List (Delivery Reading))
    → AreAllShown profile anchor sets → AreShownBehind profile anchor [] sets
shown_behind_none profile anchor [] shown = tt
shown_behind_none profile anchor (set ∷ sets) shown = (
  subst (λ past. verdict_of profile anchor past set ≡ Some Shown) (sym (append-nil sets)) shown.0,
  shown_behind_none profile anchor sets shown.1,
)

-- what is known of sets that are all shown
pub record AreKeptSets (anchor : ℕ) (sets : List (Delivery Reading)) (raws : List RawSet) : Type 0 where
  pub kept : AreKeptAt anchor sets (times_of raws)
  pub read : AreReadAs sets raws

pub kept_more : (anchor : ℕ) (past : List (Delivery (List ℕ))) (delivery : Delivery (List ℕ))
    (sets : List (Delivery Reading)) (set : Delivery Reading) (raws : List RawSet)
    → (is : IsKeptSet anchor past delivery sets set) → AreKeptSets anchor sets raws
    → AreKeptSets anchor (set ∷ sets) (is.raw ∷ raws)
kept_more anchor past delivery sets set raws is are =
    record { kept = (is.kept, are.kept); read = (is.read, are.read) }

-- where all sets are shown, all are kept
pub all_kept : (profile : Profile) (anchor : ℕ) (past : List (Delivery (List ℕ))) (sets : List (Delivery Reading))
    → AreDeliveriesRead past sets → AreAllShown profile anchor sets
    → AreKeptSets anchor sets (kept_back anchor past)
all_kept profile anchor [] [] are shown = record { kept = tt; read = tt }
all_kept profile anchor [] (set ∷ sets) are shown = absurd are
all_kept profile anchor (delivery ∷ past) [] are shown = absurd are
all_kept profile anchor (delivery ∷ past) (set ∷ sets) are shown =
    let is = kept_set profile anchor past delivery sets set are.1 are.0 shown.0 in
    subst (λ here. AreKeptSets anchor (set ∷ sets) (here ++ kept_back anchor past)) (sym is.there)
    (kept_more anchor past delivery sets set (kept_back anchor past) is
    (all_kept profile anchor past sets are.1 shown.1))
