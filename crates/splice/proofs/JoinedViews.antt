-- What a receiver of two joined streams shows: before the cut what the first stream shows, from it on what the second
-- shows.
use Rattle.std.proofs.Common.{◌≡◌, ◌∙◌, ℕ, ◌+◌, ◌-◌, ◌<◌, ◌≤◌, true, List, [], ◌∷◌, ◌++◌, map, filter, reverse, refl, sym, ap, subst, arith, append-nil}
use Rattle.std.specs.List.{AllByRecursion, AllZip}
use Rattle.std.proofs.lemmas.List.{reverse-reverse, map-append}
use Rattle.std.proofs.lemmas.List.Elements.{recursion_from_All}
use Rattle.sub_base.specs.Profile.{profile_of}
use Rattle.sub_base.specs.declared.profile.Profile.{Profile}
use Rattle.stream_syntax.specs.declared.wire.TheConstants.{TIME_ROUND}
use Rattle.decoder_model.specs.Frames.{only}
use Rattle.decoder_model.specs.Readings.{Reading, AreDeliveriesRead}
use Rattle.decoder_model.specs.Sets.{Delivery, whole, sets_of}
use Rattle.decoder_model.specs.Shown.{view_at}
use Rattle.decoder_model.specs.declared.pages.Pages.{Pages}
use Rattle.decoder_model.proofs.MovedSets.{Shift, IsSameMoment, moved_view, same_alone}
use Rattle.decoder_model.proofs.NearTimes.{AreKeptAt, AreNear, near_kept, kept_again, IsWithinRound}
use Rattle.sent_sets.specs.RawSets.{RawSet, IsDeliveryOf}
use Rattle.splice.specs.SplicedSets.{Streams, IsSplicing, first_reception, second_reception, received_from, is_before, moved, spliced_sets}
use Rattle.splice.specs.SplicedStream.{SuitsSets, IsShownAsBefore, second_tick}
use Rattle.splice.specs.declared.splice_words.Splicing.{Splicing}
use Rattle.splice.proofs.KeptPasts.{time_of_set, times_of, shown_behind_none}
use Rattle.splice.proofs.OutPast.{zip_back, IsParted, parted, HasSameReadings, ComeAs, come_as, read_joined, told_joined, AreKeptBehind, kept_parts, kept_behind_none, are_moved, not_seen}
use Rattle.splice.proofs.SplicedSets.{all_back, IsGoodRaw, moved_read, BeginsAt, all_from}
use Rattle.splice.proofs.SplicedShown.{received_back, raws_of, shown_all, AreKnown, ComesOut}

-- ---- times

-- the times of sets suit an anchor
suits_all : (anchor : ℕ) (sets : List RawSet)
    → AllByRecursion (λ (set : RawSet). (anchor ≤ set.time) × (set.time < anchor + TIME_ROUND)) sets
    → AllByRecursion (IsWithinRound anchor) (times_of sets)
suits_all anchor [] suits = tt
suits_all anchor (set ∷ sets) suits = (suits.0, suits_all anchor sets suits.1)

-- one of them is the cut, so that the anchor is at most that
one_at_cut : (anchor cut begin : ℕ) (seconds front : List RawSet) → BeginsAt seconds begin
    → AllByRecursion (IsWithinRound anchor) (times_of (map (moved cut begin) seconds ++ front)) → anchor ≤ cut
one_at_cut anchor cut begin seconds front at suits =
    in_parts at.later
    (subst (λ raws. AllByRecursion (IsWithinRound anchor) (times_of (map (moved cut begin) raws ++ front))) at.parts
    suits)
  where
    in_parts : (later : List RawSet)
        → AllByRecursion (IsWithinRound anchor)
        (times_of (map (moved cut begin) (later ++ at.first ∷ []) ++ front)) → anchor ≤ cut
    in_parts [] within =
        let from = within.0.0 in
        let same = at.time in
        omega (arith, from, same)
    in_parts (raw ∷ later) within = in_parts later within.1

-- at the moments of the second stream, and of the joined one
moments : (cut begin : ℕ) (raws : List RawSet) → AllByRecursion (λ time. begin ≤ time) (times_of raws)
    → AllZip (IsSameMoment (record { from = begin; to = cut })) (times_of raws) (times_of (map (moved cut begin) raws))
moments cut begin [] from = tt
moments cut begin (raw ∷ raws) from =
    let one = from.0 in (omega (arith, one), moments cut begin raws from.1)

same_moments : (times : List ℕ) → AllZip (IsSameMoment (record { from = 0; to = 0 })) times times
same_moments [] = tt
same_moments (time ∷ times) = (refl, same_moments times)

-- no moved set comes before the cut
all_later : (tick cut begin : ℕ) (raws : List RawSet) → tick < cut
    → AllByRecursion (λ time. begin ≤ time) (times_of raws)
    → AllByRecursion (λ time. tick < time) (times_of (map (moved cut begin) raws))
all_later tick cut begin [] early from = tt
all_later tick cut begin (raw ∷ raws) early from =
    let one = from.0 in (omega (arith, one, early), all_later tick cut begin raws early from.1)

-- ---- the receiver of the joined streams

pub record IsOut (splicing : Splicing) (streams : Streams) (known : AreKnown splicing streams)
    (out : ComesOut splicing streams known) (anchor : ℕ) (packets : List (List ℕ)) : Type 0 where
  pub front : List (Delivery Reading)
  pub second : List (Delivery Reading)
  pub read : AreDeliveriesRead (received_back (received_from anchor splicing) packets) (second ++ front)
  pub same_first : AllZip HasSameReadings out.front.front front
  pub same_second : AllZip HasSameReadings (known.later ++ whole known.time known.size known.readings ∷ []) second
  pub kept_first : AreKeptAt anchor front
      (times_of (filter (is_before splicing.cut) (raws_of (first_reception splicing) streams.first)))
  pub kept_second : AreKeptBehind anchor front second
      (times_of (map (moved splicing.cut out.begin) (raws_of (second_reception splicing) streams.second)))

parts_of_all : {X : Type 0} (P : X → Type 0) (xs ys : List X) → AllByRecursion P (xs ++ ys)
    → AllByRecursion P xs × AllByRecursion P ys
parts_of_all P [] ys h = (tt, h)
parts_of_all P (x ∷ xs) ys h = let more = parts_of_all P xs ys h.1 in ((h.0, more.0), more.1)

pub is_out : (splicing : Splicing) (streams : Streams) (known : AreKnown splicing streams)
    (out : ComesOut splicing streams known) (anchor : ℕ) (packets : List (List ℕ)) → IsSplicing splicing
    → SuitsSets (spliced_sets splicing streams) anchor
    → AllZip (IsDeliveryOf (only splicing.page)) (spliced_sets splicing streams)
    (sets_of (profile_of splicing.profile).coded splicing.pid (only splicing.page) true packets)
    → IsOut splicing streams known out anchor packets
is_out splicing streams known out anchor packets ranges suits come = record {
  front = firsts_come.others;
  second = seconds_come.others;
  read =
      subst (λ all. AreDeliveriesRead all (seconds_come.others ++ firsts_come.others)) (sym parts.parts)
      (read_joined parts.front parts.rest seconds_come.others firsts_come.others seconds_come.read firsts_come.read);
  same_first = firsts_come.same;
  same_second = seconds_come.same;
  kept_first = kept.1;
  kept_second = kept.0;
}
  where
    pages : Pages
    pages = only splicing.page

    set : Delivery Reading
    set = whole known.time known.size known.readings

    seconds : List RawSet
    seconds = map (moved splicing.cut out.begin) (raws_of (second_reception splicing) streams.second)

    firsts : List RawSet
    firsts = filter (is_before splicing.cut) (raws_of (first_reception splicing) streams.first)

    back : reverse (spliced_sets splicing streams) ≡ seconds ++ firsts
    back = ap reverse out.turned ∙ reverse-reverse out.back ∙ out.back_is

    come_back : AllZip (IsDeliveryOf pages) (seconds ++ firsts)
        (received_back (received_from anchor splicing) packets)
    come_back =
        subst (λ raws. AllZip (IsDeliveryOf pages) raws (received_back (received_from anchor splicing) packets)) back
        (zip_back (IsDeliveryOf pages) (spliced_sets splicing streams)
        (sets_of (profile_of splicing.profile).coded splicing.pid pages true packets) come)

    parts : IsParted (IsDeliveryOf pages) seconds firsts (received_back (received_from anchor splicing) packets)
    parts = parted (IsDeliveryOf pages) seconds firsts (received_back (received_from anchor splicing) packets) come_back

    good : AllByRecursion (IsGoodRaw pages) seconds × AllByRecursion (IsGoodRaw pages) firsts
    good =
        parts_of_all (IsGoodRaw pages) seconds firsts
        (subst (AllByRecursion (IsGoodRaw pages)) out.back_is out.good)

    seconds_come : ComeAs (known.later ++ set ∷ []) seconds parts.front
    seconds_come =
        come_as pages (known.later ++ set ∷ []) seconds parts.front
        (moved_read splicing.cut out.begin (known.later ++ set ∷ [])
        (raws_of (second_reception splicing) streams.second) out.second.read) good.0 parts.first

    firsts_come : ComeAs out.front.front firsts parts.rest
    firsts_come = come_as pages out.front.front firsts parts.rest out.front.kept.read good.1 parts.second

    all_suit : AllByRecursion (IsWithinRound anchor) (times_of (seconds ++ firsts))
    all_suit =
        suits_all anchor (seconds ++ firsts)
        (subst (AllByRecursion (λ (set : RawSet). (anchor ≤ set.time) × (set.time < anchor + TIME_ROUND))) back
        (all_back (λ (set : RawSet). (anchor ≤ set.time) × (set.time < anchor + TIME_ROUND))
        (spliced_sets splicing streams)
        (recursion_from_All (λ (set : RawSet). (anchor ≤ set.time) × (set.time < anchor + TIME_ROUND))
        (spliced_sets splicing streams) suits)))

    at_most : anchor ≤ splicing.cut
    at_most =
        one_at_cut anchor splicing.cut out.begin (raws_of (second_reception splicing) streams.second) firsts
        out.begin_at all_suit

    joined_times : times_of (seconds ++ firsts) ≡ times_of seconds ++ times_of firsts
    joined_times = map-append time_of_set seconds firsts

    kept_all : AreKeptAt anchor (seconds_come.others ++ firsts_come.others) (times_of seconds ++ times_of firsts)
    kept_all =
        let low = ranges.cut in
        kept_again anchor (seconds_come.others ++ firsts_come.others) (times_of seconds ++ times_of firsts)
        (told_joined seconds_come.others firsts_come.others (times_of seconds) (times_of firsts) seconds_come.told
        firsts_come.told)
        (subst AreNear (ap times_of out.back_is ∙ joined_times) out.near)
        (subst (AllByRecursion (IsWithinRound anchor)) joined_times all_suit)
        (omega (arith, at_most, low))

    kept : AreKeptBehind anchor firsts_come.others seconds_come.others (times_of seconds)
        × AreKeptAt anchor firsts_come.others (times_of firsts)
    kept =
        kept_parts anchor seconds_come.others firsts_come.others (times_of seconds) (times_of firsts) seconds_come.told
        kept_all

-- ---- views

second_from : (splicing : Splicing) (streams : Streams) (known : AreKnown splicing streams)
    (out : ComesOut splicing streams known)
    → AllByRecursion (λ time. out.begin ≤ time) (times_of (raws_of (second_reception splicing) streams.second))
second_from splicing streams known out =
    let raws = raws_of (second_reception splicing) streams.second in
    all_from raws out.begin out.begin_at
    (near_kept 0 (known.later ++ whole known.time known.size known.readings ∷ []) (times_of raws) out.second.kept)

pub view_before_cut : (splicing : Splicing) (streams : Streams) (known : AreKnown splicing streams)
    (out : ComesOut splicing streams known) (anchor : ℕ) (packets : List (List ℕ))
    (is : IsOut splicing streams known out anchor packets) (tick : ℕ) → tick < splicing.cut
    → view_at (profile_of splicing.profile) anchor tick (is.second ++ is.front)
    ≡ view_at (profile_of splicing.profile) splicing.origin tick known.first_past
view_before_cut splicing streams known out anchor packets is tick early =
    not_seen profile anchor tick is.front is.second (times_of (map (moved splicing.cut out.begin) seconds))
    is.kept_second
    (all_later tick splicing.cut out.begin seconds early (second_from splicing streams known out))
    ∙ ap (view_at profile anchor tick) (sym (append-nil is.front))
    ∙ same_alone profile splicing.origin anchor out.front.front is.front tick
    (are_moved (record { from = 0; to = 0 }) (record { anchor = splicing.origin; past = [] })
    (record { anchor = anchor; past = [] }) out.front.front is.front (times_of firsts) (times_of firsts) is.same_first
    (kept_behind_none splicing.origin out.front.front (times_of firsts) out.front.kept.kept)
    (kept_behind_none anchor is.front (times_of firsts) is.kept_first) (same_moments (times_of firsts)))
    (shown_behind_none profile splicing.origin out.front.front out.front.shown)
    ∙ ap (view_at profile splicing.origin tick) (append-nil out.front.front)
    ∙ sym (out.front.same_view tick early)
  where
    profile : Profile
    profile = profile_of splicing.profile

    seconds : List RawSet
    seconds = raws_of (second_reception splicing) streams.second

    firsts : List RawSet
    firsts = filter (is_before splicing.cut) (raws_of (first_reception splicing) streams.first)

pub view_from_cut : (splicing : Splicing) (streams : Streams) (known : AreKnown splicing streams)
    (out : ComesOut splicing streams known) (anchor : ℕ) (packets : List (List ℕ))
    (is : IsOut splicing streams known out anchor packets) (tick : ℕ) → splicing.cut ≤ tick
    → view_at (profile_of splicing.profile) anchor tick (is.second ++ is.front)
    ≡ view_at (profile_of splicing.profile) 0 (second_tick splicing streams tick)
    (known.later ++ whole known.time known.size known.readings ∷ [])
view_from_cut splicing streams known out anchor packets is tick come =
    moved_view profile shift (record { anchor = 0; past = [] }) (record { anchor = anchor; past = is.front })
    known.later is.second set out.begin (tick - splicing.cut + out.begin) tick
    (are_moved shift (record { anchor = 0; past = [] }) (record { anchor = anchor; past = is.front })
    (known.later ++ set ∷ []) is.second (times_of seconds) (times_of (map (moved splicing.cut out.begin) seconds))
    is.same_second (kept_behind_none 0 (known.later ++ set ∷ []) (times_of seconds) out.second.kept) is.kept_second
    (moments splicing.cut out.begin seconds (second_from splicing streams known out)))
    known.begins
    (shown_behind_none profile 0 (known.later ++ set ∷ [])
    (shown_all (second_reception splicing) (known.later ++ set ∷ []) known.second_shown))
    out.begin_kept (omega arith) (omega (arith, come))
    ∙ ap (view_at profile 0 (tick - splicing.cut + out.begin)) (append-nil (known.later ++ set ∷ []))
    ∙ ap (λ begin. view_at profile 0 (tick - splicing.cut + begin) (known.later ++ set ∷ [])) (sym out.begin_found)
  where
    profile : Profile
    profile = profile_of splicing.profile

    shift : Shift
    shift = record { from = out.begin; to = splicing.cut }

    set : Delivery Reading
    set = whole known.time known.size known.readings

    seconds : List RawSet
    seconds = raws_of (second_reception splicing) streams.second

-- ---- all of it

pub shown_as_before : (splicing : Splicing) (streams : Streams) (packets : List (List ℕ)) → IsSplicing splicing
    → (known : AreKnown splicing streams) → ComesOut splicing streams known
    → AllZip (IsDeliveryOf (only splicing.page)) (spliced_sets splicing streams)
    (sets_of (profile_of splicing.profile).coded splicing.pid (only splicing.page) true packets)
    → IsShownAsBefore splicing streams packets
shown_as_before splicing streams packets ranges known out come = record {
  before_cut =
      λ anchor tick suits early. let is = is_out splicing streams known out anchor packets ranges suits come in
      record {
        shown = view_at (profile_of splicing.profile) anchor tick (is.second ++ is.front);
        is_shown = record { past = is.second ++ is.front; received = is.read; is_view = refl };
        was_shown = record {
          past = known.first_past;
          received = known.first_read;
          is_view = view_before_cut splicing streams known out anchor packets is tick early;
        };
      };
  from_cut =
      λ anchor tick suits come_to. let is = is_out splicing streams known out anchor packets ranges suits come in
      record {
        shown = view_at (profile_of splicing.profile) anchor tick (is.second ++ is.front);
        is_shown = record { past = is.second ++ is.front; received = is.read; is_view = refl };
        was_shown = record {
          past = known.later ++ whole known.time known.size known.readings ∷ [];
          received = known.second_read;
          is_view = view_from_cut splicing streams known out anchor packets is tick come_to;
        };
      };
}
