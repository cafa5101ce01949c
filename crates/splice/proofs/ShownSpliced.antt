-- The packets of two joined streams are received as the sets of both, and show what each showed on its side of the cut.
use Rattle.std.proofs.Common.{◌≡◌, ℕ, ◌∙◌, true, List, [], ◌∷◌, ◌++◌, length, All, None, sym, subst}
use Rattle.std.specs.List.{AllByRecursion, AllZip, concat}
use Rattle.sub_base.specs.Profile.{profile_of}
use Rattle.decoder_model.specs.Frames.{only}
use Rattle.decoder_model.specs.Readings.{AreDeliveriesRead}
use Rattle.decoder_model.specs.Sets.{whole, sets_of}
use Rattle.reading_laws.proofs.OneReading.{same_past}
use Rattle.sent_sets.specs.RawSets.{RawSet, IsDeliveryOf}
use Rattle.sent_sets.proofs.SentLaws.{all_come}
use Rattle.splice.specs.SplicedSets.{Streams, IsSplicing, second_reception, splice_pace, spliced_sets}
use Rattle.splice.specs.SplicedStream.{CanBeJoined, IsShownAsBefore, IsSplicedTo}
use Rattle.splice.specs.StreamTests.{AreShownUpTo}
use Rattle.splice.specs.declared.splice_words.Splicing.{Splicing}
use Rattle.splice.proofs.JoinedViews.{shown_as_before}
use Rattle.splice.proofs.SentSpliced.{all_counted, sent_for}
use Rattle.splice.proofs.SplicedSets.{IsGoodRaw, all_back}
use Rattle.splice.proofs.SplicedShown.{received_back, AreKnown, ComesOut, comes_out}

-- what is known of streams that can be joined
are_known : (splicing : Splicing) (streams : Streams) → CanBeJoined splicing streams → AreKnown splicing streams
are_known splicing streams joined = record {
  first_past = joined.good.first.past;
  first_read = joined.good.first.received;
  first_shown = joined.good.first.each;
  later = joined.anew.later;
  time = joined.anew.time;
  size = joined.anew.size;
  readings = joined.anew.readings;
  second_read =
      subst (AreDeliveriesRead (received_back (second_reception splicing) streams.second)) same
      joined.good.second.received;
  second_shown = subst (AreShownUpTo (second_reception splicing) None) same joined.good.second.each;
  begins = joined.anew.mode_change;
  distance = joined.distance;
}
  where
    same : joined.good.second.past
        ≡ joined.anew.later ++ whole joined.anew.time joined.anew.size joined.anew.readings ∷ []
    same =
        same_past (received_back (second_reception splicing) streams.second) joined.good.second.past joined.anew.past
        joined.good.second.received joined.anew.received
        ∙ joined.anew.first

-- all sets come, each with all of its segments
all_sets_come : (splicing : Splicing) (streams : Streams) (packets : List (List ℕ)) → IsSplicing splicing
    → (known : AreKnown splicing streams) → ComesOut splicing streams known
    → All (λ packet. length packet ≡ 188) packets → IsSplicedTo splicing streams (concat packets)
    → AllZip (IsDeliveryOf (only splicing.page)) (spliced_sets splicing streams)
    (sets_of (profile_of splicing.profile).coded splicing.pid (only splicing.page) true packets)
all_sets_come splicing streams packets ranges known out whole_packets h =
    subst (λ (sets : List RawSet). AllZip (IsDeliveryOf (only splicing.page)) sets
    (sets_of (profile_of splicing.profile).coded splicing.pid (only splicing.page) true packets))
    (all_counted (only splicing.page) (spliced_sets splicing streams) forward)
    (all_come (only splicing.page) (splice_pace splicing) splicing.pid (spliced_sets splicing streams) h.loads h.table
    packets
    (sent_for (only splicing.page) (splice_pace splicing) splicing.pid (spliced_sets splicing streams) out.back h.loads
    h.table packets ranges.free out.turned out.good out.near h.asked h.sent whole_packets))
  where
    forward : AllByRecursion (IsGoodRaw (only splicing.page)) (spliced_sets splicing streams)
    forward =
        subst (AllByRecursion (IsGoodRaw (only splicing.page))) (sym out.turned)
        (all_back (IsGoodRaw (only splicing.page)) out.back out.good)

pub spliced_is_shown : (splicing : Splicing) (streams : Streams) (packets : List (List ℕ)) → IsSplicing splicing
    → All (λ packet. length packet ≡ 188) packets → IsSplicedTo splicing streams (concat packets)
    → IsShownAsBefore splicing streams packets
spliced_is_shown splicing streams packets ranges whole_packets h =
    let known = are_known splicing streams h.joined in
    let out = comes_out splicing streams known in
    shown_as_before splicing streams packets ranges known out
    (all_sets_come splicing streams packets ranges known out whole_packets h)
