-- What a receiver of the joined streams has: the sets of both, each read as before, and kept at its new time.
use Rattle.std.proofs.Common.{◌≡◌, ◌∙◌, ℕ, ◌%◌, ◌<◌, cond, List, [], ◌∷◌, ◌++◌, filter, reverse, Some, refl, sym, ap, subst, append-nil}
use Rattle.std.specs.List.{AllByRecursion, AllZip}
use Rattle.std.proofs.lemmas.List.{reverse-append}
use Rattle.stream_syntax.specs.declared.wire.TheConstants.{TIME_ROUND}
use Rattle.sub_base.specs.declared.profile.Profile.{Profile}
use Rattle.decoder_model.specs.Frames.{is_of_pages}
use Rattle.decoder_model.specs.Kept.{lifted_time}
use Rattle.decoder_model.specs.Readings.{Reading, AreReadings, IsDeliveryRead, AreDeliveriesRead}
use Rattle.decoder_model.specs.Sets.{Delivery, whole}
use Rattle.decoder_model.specs.Shown.{view_at}
use Rattle.decoder_model.specs.declared.pages.Pages.{Pages}
use Rattle.decoder_model.proofs.MovedSets.{Got, Shift, IsSameMoment, AreMoved}
use Rattle.decoder_model.proofs.NearTimes.{AreKeptAt, AreTold}
use Rattle.decoder_model.proofs.ReceivedSegments.{IsCounted}
use Rattle.decoder_model.proofs.Views.{view_before}
use Rattle.sent_sets.specs.RawSets.{RawSet, counted_in, IsDeliveryOf}
use Rattle.splice.proofs.KeptPasts.{times_of, IsReadAs, AreReadAs}
use Rattle.splice.proofs.SplicedSets.{IsGoodRaw}

-- ---- lists side by side

zip_joined : {X Y : Type 0} (R : X → Y → Type 0) (xs others : List X) (ys more : List Y) → AllZip R xs ys
    → AllZip R others more → AllZip R (xs ++ others) (ys ++ more)
zip_joined R [] others [] more h k = k
zip_joined R [] others (y ∷ ys) more h k = absurd h
zip_joined R (x ∷ xs) others [] more h k = absurd h
zip_joined R (x ∷ xs) others (y ∷ ys) more h k = (h.0, zip_joined R xs others ys more h.1 k)

pub zip_back : {X Y : Type 0} (R : X → Y → Type 0) (xs : List X) (ys : List Y) → AllZip R xs ys
    → AllZip R (reverse xs) (reverse ys)
zip_back R [] [] h = tt
zip_back R [] (y ∷ ys) h = absurd h
zip_back R (x ∷ xs) [] h = absurd h
zip_back R (x ∷ xs) (y ∷ ys) h =
    subst (λ all. AllZip R all (reverse (y ∷ ys))) (sym (reverse-append (x ∷ []) xs))
    (subst (λ all. AllZip R (reverse xs ++ x ∷ []) all) (sym (reverse-append (y ∷ []) ys))
    (zip_joined R (reverse xs) (x ∷ []) (reverse ys) (y ∷ []) (zip_back R xs ys h.1) (h.0, tt)))

-- a list beside two, in two parts
pub record IsParted {X Y : Type 0} (R : X → Y → Type 0) (xs others : List X) (all : List Y) : Type 0 where
  pub front : List Y
  pub rest : List Y
  pub parts : all ≡ front ++ rest
  pub first : AllZip R xs front
  pub second : AllZip R others rest

pub parted : {X Y : Type 0} (R : X → Y → Type 0) (xs others : List X) (all : List Y) → AllZip R (xs ++ others) all
    → IsParted R xs others all
parted R [] others all h = record { front = []; rest = all; parts = refl; first = tt; second = h }
parted R (x ∷ xs) others [] h = absurd h
parted R (x ∷ xs) others (y ∷ all) h =
    let more = parted R xs others all h.1 in
    record {
      front = y ∷ more.front;
      rest = more.rest;
      parts = ap (λ behind. y ∷ behind) more.parts;
      first = (h.0, more.first);
      second = more.second;
    }

-- ---- what comes out

-- two whole sets with the same readings
pub record HasSameReadings (set other : Delivery Reading) : Type 0 where
  pub readings : List Reading
  pub time : ℕ
  pub size : ℕ
  pub is : set ≡ whole time size readings
  pub other_time : ℕ
  pub other_size : ℕ
  pub is_too : other ≡ whole other_time other_size readings

-- the sets of a receiver that gets the raw sets, read as those of another
pub record ComeAs (sets : List (Delivery Reading)) (raws : List RawSet)
    (deliveries : List (Delivery (List ℕ))) : Type 0 where
  pub others : List (Delivery Reading)
  pub read : AreDeliveriesRead deliveries others
  pub told : AreTold others (times_of raws)
  pub same : AllZip HasSameReadings sets others

-- all segments of a set count
all_count : (pages : Pages) (segments : List (List ℕ)) → AllByRecursion (IsCounted pages) segments
    → filter (is_of_pages pages) segments ≡ segments
all_count pages [] h = refl
all_count pages (bytes ∷ segments) h =
    ap (λ b. cond b (bytes ∷ filter (is_of_pages pages) segments) (filter (is_of_pages pages) segments)) h.0.counts
    ∙ ap (λ rest. bytes ∷ rest) (all_count pages segments h.1)

pub counted_all : (pages : Pages) (raw : RawSet) → IsGoodRaw pages raw → counted_in pages raw ≡ raw.segments
counted_all pages raw good = all_count pages raw.segments good.has.each

-- a set that is handed on is read as before
read_as_before : (pages : Pages) (set : Delivery Reading) (raw : RawSet) (delivery : Delivery (List ℕ))
    → (is : IsReadAs set raw) → IsGoodRaw pages raw → (comes : IsDeliveryOf pages raw delivery)
    → IsDeliveryRead delivery (whole (raw.time % TIME_ROUND) comes.0 is.readings)
read_as_before pages set raw delivery is good comes =
    subst (λ one. IsDeliveryRead one (whole (raw.time % TIME_ROUND) comes.0 is.readings)) (sym comes.1) (
      is.readings,
      subst (λ segments. AreReadings segments is.readings) (sym (counted_all pages raw good)) is.read,
      refl,
    )

pub come_as : (pages : Pages) (sets : List (Delivery Reading)) (raws : List RawSet)
    (deliveries : List (Delivery (List ℕ))) → AreReadAs sets raws → AllByRecursion (IsGoodRaw pages) raws
    → AllZip (IsDeliveryOf pages) raws deliveries → ComeAs sets raws deliveries
come_as pages [] [] [] are good come = record { others = []; read = tt; told = tt; same = tt }
come_as pages [] [] (delivery ∷ deliveries) are good come = absurd come
come_as pages [] (raw ∷ raws) deliveries are good come = absurd are
come_as pages (set ∷ sets) [] deliveries are good come = absurd are
come_as pages (set ∷ sets) (raw ∷ raws) [] are good come = absurd come
come_as pages (set ∷ sets) (raw ∷ raws) (delivery ∷ deliveries) are good come =
    let rest = come_as pages sets raws deliveries are.1 good.1 come.1 in
    let is = are.0 in
    let time = raw.time % TIME_ROUND in
    record {
      others = whole time come.0.0 is.readings ∷ rest.others;
      read = (read_as_before pages set raw delivery is good.0 come.0, rest.read);
      told = (refl, rest.told);
      same = (
        record {
          readings = is.readings;
          time = is.time;
          size = is.size;
          is = is.is;
          other_time = time;
          other_size = come.0.0;
          is_too = refl;
        },
        rest.same,
      );
    }

pub read_joined : (front rest : List (Delivery (List ℕ))) (sets others : List (Delivery Reading))
    → AreDeliveriesRead front sets → AreDeliveriesRead rest others → AreDeliveriesRead (front ++ rest) (sets ++ others)
read_joined [] rest [] others are more = more
read_joined [] rest (set ∷ sets) others are more = absurd are
read_joined (delivery ∷ front) rest [] others are more = absurd are
read_joined (delivery ∷ front) rest (set ∷ sets) others are more =
    (are.0, read_joined front rest sets others are.1 more)

pub told_joined : (sets others : List (Delivery Reading)) (times more : List ℕ) → AreTold sets times
    → AreTold others more → AreTold (sets ++ others) (times ++ more)
told_joined [] others [] more told rest = rest
told_joined [] others (time ∷ times) more told rest = absurd told
told_joined (set ∷ sets) others [] more told rest = absurd told
told_joined (set ∷ sets) others (time ∷ times) more told rest =
    (told.0, told_joined sets others times more told.1 rest)

-- ---- kept behind others

-- these are kept behind what came before, each at its time
abbrev pub AreKeptBehind : ℕ → List (Delivery Reading) → List (Delivery Reading) → List ℕ → Type 0
AreKeptBehind anchor before [] [] = Unit {0}
AreKeptBehind anchor before [] (time ∷ times) = ⊥
AreKeptBehind anchor before (set ∷ sets) [] = ⊥
AreKeptBehind anchor before (set ∷ sets) (time ∷ times) =
    (lifted_time anchor (sets ++ before) set ≡ Some time) × AreKeptBehind anchor before sets times

pub kept_parts : (anchor : ℕ) (sets before : List (Delivery Reading)) (times older : List ℕ) → AreTold sets times
    → AreKeptAt anchor (sets ++ before) (times ++ older)
    → AreKeptBehind anchor before sets times × AreKeptAt anchor before older
kept_parts anchor [] before [] older told kept = (tt, kept)
kept_parts anchor [] before (time ∷ times) older told kept = absurd told
kept_parts anchor (set ∷ sets) before [] older told kept = absurd told
kept_parts anchor (set ∷ sets) before (time ∷ times) older told kept =
    let rest = kept_parts anchor sets before times older told.1 kept.1 in ((kept.0, rest.0), rest.1)

pub kept_behind_none : (anchor : ℕ) (sets : List (Delivery Reading)) (times : List ℕ) → AreKeptAt anchor sets times
    → AreKeptBehind anchor [] sets times
kept_behind_none anchor [] [] kept = tt
kept_behind_none anchor [] (time ∷ times) kept = absurd kept
kept_behind_none anchor (set ∷ sets) [] kept = absurd kept
kept_behind_none anchor (set ∷ sets) (time ∷ times) kept = (
  subst (λ past. lifted_time anchor past set ≡ Some time) (sym (append-nil sets)) kept.0,
  kept_behind_none anchor sets times kept.1,
)

-- sets with the same readings that are kept at the same moments are moved
pub are_moved : (shift : Shift) (one two : Got) (sets others : List (Delivery Reading)) (times later : List ℕ)
    → AllZip HasSameReadings sets others → AreKeptBehind one.anchor one.past sets times
    → AreKeptBehind two.anchor two.past others later → AllZip (IsSameMoment shift) times later
    → AreMoved shift one two sets others
are_moved shift one two [] [] times later same kept kept_too moments = tt
are_moved shift one two [] (other ∷ others) times later same kept kept_too moments = absurd same
are_moved shift one two (set ∷ sets) [] times later same kept kept_too moments = absurd same
are_moved shift one two (set ∷ sets) (other ∷ others) [] later same kept kept_too moments = absurd kept
are_moved shift one two (set ∷ sets) (other ∷ others) (time ∷ times) [] same kept kept_too moments = absurd kept_too
are_moved shift one two (set ∷ sets) (other ∷ others) (time ∷ times) (at ∷ later) same kept kept_too moments = (
  record {
    readings = same.0.readings;
    time = same.0.time;
    size = same.0.size;
    is = same.0.is;
    other_time = same.0.other_time;
    other_size = same.0.other_size;
    is_too = same.0.is_too;
    lifted = time;
    kept = kept.0;
    later = at;
    kept_too = kept_too.0;
    same_moment = moments.0;
  },
  are_moved shift one two sets others times later same.1 kept.1 kept_too.1 moments.1,
)

-- sets whose times have not come are not seen
pub not_seen : (profile : Profile) (anchor tick : ℕ) (before sets : List (Delivery Reading)) (times : List ℕ)
    → AreKeptBehind anchor before sets times → AllByRecursion (λ time. tick < time) times
    → view_at profile anchor tick (sets ++ before) ≡ view_at profile anchor tick before
not_seen profile anchor tick before [] [] kept late = refl
not_seen profile anchor tick before [] (time ∷ times) kept late = absurd kept
not_seen profile anchor tick before (set ∷ sets) [] kept late = absurd kept
not_seen profile anchor tick before (set ∷ sets) (time ∷ times) kept late =
    view_before profile anchor tick time (sets ++ before) set kept.0 late.0
    ∙ not_seen profile anchor tick before sets times kept.1 late.1
