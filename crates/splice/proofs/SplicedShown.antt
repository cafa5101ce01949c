-- A receiver of two joined streams shows before the cut what the first stream shows, and from it on what the second
-- shows.
use Rattle.std.proofs.Common.{◌≡◌, ◌∙◌, ℕ, true, List, [], ◌∷◌, ◌++◌, map, filter, reverse, Some, None, refl, ap, arith}
use Rattle.std.specs.List.{AllByRecursion}
use Rattle.std.proofs.lemmas.List.{reverse-append}
use Rattle.sub_base.specs.Profile.{profile_of}
use Rattle.stream_syntax.specs.declared.page.State.TheVariants.{ModeChange}
use Rattle.decoder_model.specs.Contents.{has_state}
use Rattle.decoder_model.specs.Faults.{contents_in}
use Rattle.decoder_model.specs.Frames.{only}
use Rattle.decoder_model.specs.Kept.{lifted_time}
use Rattle.decoder_model.specs.Readings.{Reading, AreDeliveriesRead}
use Rattle.decoder_model.specs.Sets.{Delivery, whole}
use Rattle.decoder_model.specs.declared.pages.Pages.{Pages}
use Rattle.decoder_model.proofs.Lists.{all-append}
use Rattle.decoder_model.proofs.NearTimes.{AreNear, near_kept}
use Rattle.decoder_model.proofs.ReceivedSegments.{IsCounted, DeliveryHas, received_segments}
use Rattle.decoder_model.specs.Received.{Reception, sets_received}
use Rattle.sent_sets.specs.RawSets.{RawSet}
use Rattle.splice.specs.KeptSets.{kept_sets}
use Rattle.splice.specs.SplicedSets.{Streams, first_reception, second_reception, is_before, begin_of, moved, spliced, spliced_sets}
use Rattle.splice.specs.SplicedStream.{HasDistance}
use Rattle.splice.specs.StreamTests.{AreShownUpTo}
use Rattle.splice.specs.declared.splice_words.Splicing.{Splicing}
use Rattle.splice.proofs.FrontSets.{AreShownBefore, HasFront, has_front}
use Rattle.splice.proofs.KeptPasts.{times_of, kept_back, kept_is_back, AreAllShown, AreKeptSets, all_kept}
use Rattle.splice.proofs.SplicedSets.{all_back, filter_back, joined_back, spliced_is_back, begin_is, IsGoodRaw, kept_have, filter_has, good_raws, moved_good, BeginsAt, IsNearCut, joined_near}

-- ---- the streams as they are received

shown_before : (reception : Reception) (cut : ℕ) (past : List (Delivery Reading))
    → AreShownUpTo reception (Some cut) past → AreShownBefore reception.profile reception.anchor cut past
shown_before reception cut [] shown = tt
shown_before reception cut (set ∷ past) shown = (shown.0, shown_before reception cut past shown.1)

pub shown_all : (reception : Reception) (past : List (Delivery Reading)) → AreShownUpTo reception None past
    → AreAllShown reception.profile reception.anchor past
shown_all reception [] shown = tt
shown_all reception (set ∷ past) shown = (shown.0 tt, shown_all reception past shown.1)

-- what came of a stream, the latest first
abbrev pub received_back : Reception → List (List ℕ) → List (Delivery (List ℕ))
received_back reception packets = reverse (sets_received reception true packets)

abbrev pub raws_of : Reception → List (List ℕ) → List RawSet
raws_of reception packets = kept_back reception.anchor (received_back reception packets)

back_has : (reception : Reception) (packets : List (List ℕ))
    → AllByRecursion (DeliveryHas (IsCounted reception.pages)) (received_back reception packets)
back_has reception packets =
    all_back (DeliveryHas (IsCounted reception.pages)) (sets_received reception true packets)
    (received_segments reception.profile.coded reception.pid reception.pages true packets)

-- ---- both streams

-- what is known of two streams that are joined: what came of each, and that the second begins anew
pub record AreKnown (splicing : Splicing) (streams : Streams) : Type 0 where
  pub first_past : List (Delivery Reading)
  pub first_read : AreDeliveriesRead (received_back (first_reception splicing) streams.first) first_past
  pub first_shown : AreShownUpTo (first_reception splicing) (Some splicing.cut) first_past
  pub later : List (Delivery Reading)
  pub time : ℕ
  pub size : ℕ
  pub readings : List Reading
  pub second_read : AreDeliveriesRead (received_back (second_reception splicing) streams.second)
      (later ++ whole time size readings ∷ [])
  pub second_shown : AreShownUpTo (second_reception splicing) None (later ++ whole time size readings ∷ [])
  pub begins : has_state ModeChange (contents_in readings) ≡ true
  pub distance : HasDistance splicing streams

-- the last of sets in a list beside others
last_of : (sets : List (Delivery Reading)) (set : Delivery Reading) (raws : List RawSet) (anchor : ℕ)
    → AreKeptSets anchor (sets ++ set ∷ []) raws
    → (later : List RawSet) × (first : RawSet) × (raws ≡ later ++ first ∷ [])
    × (lifted_time anchor [] set ≡ Some first.time)
last_of [] set [] anchor are = absurd are.kept
last_of [] set (raw ∷ []) anchor are = ([], raw, refl, are.kept.0)
last_of [] set (raw ∷ next ∷ raws) anchor are = absurd are.kept.1
last_of (other ∷ sets) set [] anchor are = absurd are.kept
last_of (other ∷ sets) set (raw ∷ raws) anchor are =
    let rest = last_of sets set raws anchor (record { kept = are.kept.1; read = are.read.1 }) in
    (raw ∷ rest.0, rest.1, ap (λ all. raw ∷ all) rest.2, rest.3)

-- what comes out, in parts
pub record ComesOut (splicing : Splicing) (streams : Streams) (known : AreKnown splicing streams) : Type 0 where
  pub front : HasFront (profile_of splicing.profile) splicing.origin splicing.cut
      (received_back (first_reception splicing) streams.first) known.first_past
  pub second : AreKeptSets 0 (known.later ++ whole known.time known.size known.readings ∷ [])
      (raws_of (second_reception splicing) streams.second)
  pub begin : ℕ
  pub begin_at : BeginsAt (raws_of (second_reception splicing) streams.second) begin
  pub begin_found : begin_of (kept_sets (second_reception splicing) streams.second) ≡ begin
  pub begin_kept : lifted_time 0 [] (whole known.time known.size known.readings) ≡ Some begin
  pub back : List RawSet
  pub back_is : back ≡ map (moved splicing.cut begin) (raws_of (second_reception splicing) streams.second)
      ++ filter (is_before splicing.cut) (raws_of (first_reception splicing) streams.first)
  pub turned : spliced_sets splicing streams ≡ reverse back
  pub good : AllByRecursion (IsGoodRaw (only splicing.page)) back
  pub near : AreNear (times_of back)

near_cut : (splicing : Splicing) (streams : Streams) → HasDistance splicing streams → (front : List RawSet)
    → filter (is_before splicing.cut) (raws_of (first_reception splicing) streams.first) ≡ front
    → IsNearCut splicing.cut front
near_cut splicing streams distance [] is = tt
near_cut splicing streams distance (last ∷ rest) is =
    let far = distance last.time (record {
      before = reverse rest;
      set = last;
      parts =
          ap (filter (is_before splicing.cut))
          (kept_is_back splicing.origin (received_back (first_reception splicing) streams.first))
          ∙ filter_back (is_before splicing.cut) (raws_of (first_reception splicing) streams.first)
          ∙ ap reverse is
          ∙ reverse-append (last ∷ []) rest;
      time = refl;
    }) in
    let after = far.0 in
    let before = far.1 in
    (omega (arith, after), omega (arith, before))

pub comes_out : (splicing : Splicing) (streams : Streams) (known : AreKnown splicing streams)
    → ComesOut splicing streams known
comes_out splicing streams known =
    record {
      front = front;
      second = second;
      begin = begin;
      begin_at = begin_at;
      begin_found = begin_there;
      begin_kept = ends.3;
      back = joined_back splicing.cut begin firsts seconds;
      back_is = refl;
      turned =
          ap (λ first. spliced splicing.cut first (kept_sets (second_reception splicing) streams.second))
          (kept_is_back splicing.origin (received_back (first_reception splicing) streams.first))
          ∙ ap (spliced splicing.cut (reverse firsts))
          (kept_is_back 0 (received_back (second_reception splicing) streams.second))
          ∙ spliced_is_back splicing.cut firsts seconds
          ∙ ap (λ from. reverse (joined_back splicing.cut from firsts seconds)) begin_of_back;
      good =
          all-append (IsGoodRaw pages) (map (moved splicing.cut begin) seconds) (filter (is_before splicing.cut) firsts)
          (moved_good pages splicing.cut begin seconds
          (good_raws pages (known.later ++ set ∷ []) seconds second.read
          (kept_have pages 0 (received_back (second_reception splicing) streams.second)
          (back_has (second_reception splicing) streams.second))))
          (good_raws pages front.front (filter (is_before splicing.cut) firsts) front.kept.read
          (filter_has _ (is_before splicing.cut) firsts
          (kept_have pages splicing.origin (received_back (first_reception splicing) streams.first)
          (back_has (first_reception splicing) streams.first))));
      near =
          joined_near splicing.cut begin seconds (filter (is_before splicing.cut) firsts) begin_at
          (near_kept 0 (known.later ++ set ∷ []) (times_of seconds) second.kept)
          (near_kept splicing.origin front.front (times_of (filter (is_before splicing.cut) firsts)) front.kept.kept)
          (near_cut splicing streams known.distance (filter (is_before splicing.cut) firsts) refl);
    }
  where
    pages : Pages
    pages = only splicing.page

    set : Delivery Reading
    set = whole known.time known.size known.readings

    firsts : List RawSet
    firsts = raws_of (first_reception splicing) streams.first

    seconds : List RawSet
    seconds = raws_of (second_reception splicing) streams.second

    front : HasFront (profile_of splicing.profile) splicing.origin splicing.cut
        (received_back (first_reception splicing) streams.first) known.first_past
    front =
        has_front (profile_of splicing.profile) splicing.origin splicing.cut
        (received_back (first_reception splicing) streams.first) known.first_past known.first_read
        (shown_before (first_reception splicing) splicing.cut known.first_past known.first_shown)

    second : AreKeptSets 0 (known.later ++ set ∷ []) seconds
    second =
        all_kept (profile_of splicing.profile) 0 (received_back (second_reception splicing) streams.second)
        (known.later ++ set ∷ []) known.second_read
        (shown_all (second_reception splicing) (known.later ++ set ∷ []) known.second_shown)

    ends : (later : List RawSet) × (first : RawSet) × (seconds ≡ later ++ first ∷ [])
        × (lifted_time 0 [] set ≡ Some first.time)
    ends = last_of known.later set seconds 0 second

    begin : ℕ
    begin = ends.1.time

    begin_at : BeginsAt seconds begin
    begin_at = record { later = ends.0; first = ends.1; parts = ends.2; time = refl }

    begin_of_back : begin_of (reverse seconds) ≡ begin
    begin_of_back = ap (λ raws. begin_of (reverse raws)) ends.2 ∙ begin_is ends.0 ends.1

    begin_there : begin_of (kept_sets (second_reception splicing) streams.second) ≡ begin
    begin_there =
        ap begin_of (kept_is_back 0 (received_back (second_reception splicing) streams.second)) ∙ begin_of_back
