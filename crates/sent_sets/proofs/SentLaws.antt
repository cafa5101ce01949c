-- Sets that are sent come whole and in order; where the stream is entered late, those that are left come.
use Rattle.std.proofs.Common.{◌≡◌, ◌∙◌, ℕ, zero, suc, ◌%◌, ◌<◌, ◌≤◌, Bool, true, false, List, [], ◌∷◌, length, map, drop, filter, Some, refl, sym, ap, subst, arith}
use Rattle.std.specs.Bool.{if◌then◌else◌}
use Rattle.std.specs.Prelude.{slice_get}
use Rattle.std.specs.List.{AllZip}
use Rattle.std.proofs.lemmas.List.{drop-map, map-append, length-map}
use Rattle.std.proofs.lemmas.List.Elements.{recursion_from_All}
use Rattle.sub_base.specs.Lists.{all_of, has_some}
use Rattle.sub_base.specs.declared.load.WriteLoad.{WriteLoad}
use Rattle.sub_base.specs.declared.pace.Pace.{Pace}
use Rattle.stream_syntax.specs.declared.wire.TheConstants.{NULL_PID, TIME_ROUND}
use Rattle.schedule.specs.Slots.{Timetable, IsLoad}
use Rattle.decoder_model.specs.Frames.{is_of_pages}
use Rattle.decoder_model.specs.Sets.{whole, has_ended, sets_of}
use Rattle.decoder_model.specs.Streams.{entered_at}
use Rattle.decoder_model.specs.declared.pages.Pages.{Pages}
use Rattle.slot_stream.proofs.SentPieces.{IsFree}
use Rattle.sent_sets.specs.EnteredSets.{is_left, has_some_left, IsRest, IsEnteredLate}
use Rattle.sent_sets.specs.RawSets.{RawSet, IsSendable, has_counted, EndsLast, IsDeliveryOf}
use Rattle.sent_sets.specs.SentStream.{AreSentFor}
use Rattle.sent_sets.proofs.LateSets.{none_left, some_left}
use Rattle.sent_sets.proofs.LateSets as late
use Rattle.sent_sets.proofs.RawUnits.{IsRawSent, same_many, counted_unit, counted_of_units}
use Rattle.sent_sets.proofs.SentLate.{have_packets, HaveAsMany, AreSentSets, ComeLate, come_late}
use Rattle.sent_sets.proofs.SentLists.{counted-append, AreRawSent, raw_sent, AreKnownSets, known_sets, handable_counted, same_segments, counted_as, are_deliveries, apart_as}
use Rattle.sent_sets.proofs.SentPackets.{stream_packets, one_cutting, AreSentPackets, sent_packets, all_room}
use Rattle.sent_sets.proofs.SetEnds.{delivered}
use Rattle.sent_sets.proofs.SetsCome.{is_over, sets_come}
use Rattle.sent_sets.proofs.Units.{SetUnit, TimedSet, segments_of_units, size_of_units, has_segments, counted_sets}

-- ---- what is known of the stream

pub is_free : (pid : ℕ) → pid < NULL_PID → IsFree pid
is_free pid less = record { small = omega arith; no_null = λ e. omega (arith, e) }

have_as_many : (pages : Pages) (sets : List RawSet) (units : List (List (List ℕ))) (sent : List TimedSet)
    → AreRawSent pages sets units sent → HaveAsMany units sent
have_as_many pages [] [] [] are = tt
have_as_many pages [] [] (one ∷ sent) are = absurd are
have_as_many pages [] (packets ∷ units) sent are = absurd are
have_as_many pages (set ∷ sets) [] sent are = absurd are
have_as_many pages (set ∷ sets) (packets ∷ units) [] are = absurd are
have_as_many pages (set ∷ sets) (packets ∷ units) (one ∷ sent) are =
    (same_many pages set packets one are.0, have_as_many pages sets units sent are.1)

pub count_sets : (pages : Pages) (sets : List RawSet) (units : List (List (List ℕ))) (sent : List TimedSet)
    → AreRawSent pages sets units sent → length sets ≡ length sent
count_sets pages [] [] [] are = refl
count_sets pages [] [] (one ∷ sent) are = absurd are
count_sets pages [] (packets ∷ units) sent are = absurd are
count_sets pages (set ∷ sets) [] sent are = absurd are
count_sets pages (set ∷ sets) (packets ∷ units) [] are = absurd are
count_sets pages (set ∷ sets) (packets ∷ units) (one ∷ sent) are = ap suc (count_sets pages sets units sent are.1)

pub record IsKnownStream (pages : Pages) (pace : Pace) (pid : ℕ) (sets : List RawSet) (loads : List WriteLoad)
    (table : Timetable) (packets : List (List ℕ)) (units : List (List (List ℕ))) : Type 0 where
  pub timed : List TimedSet
  pub known : AreKnownSets pace.coded pages sets units timed
  pub stream : AreSentPackets pace.coded pid units table
  pub are : packets ≡ stream_packets pid units table
  pub sent : AreSentSets pace.coded pages loads units pace table timed

pub known_stream : (pages : Pages) (pace : Pace) (pid : ℕ) (sets : List RawSet) (loads : List WriteLoad)
    (table : Timetable) (packets : List (List ℕ)) → (h : AreSentFor pages pace pid sets loads table packets)
    → IsKnownStream pages pace pid sets loads table packets h.sent.units
known_stream pages pace pid sets loads table packets h =
    let units = h.sent.units in
    let timed = raw_sent pages sets units h.sent.carried in
    let known =
    known_sets pace.coded pages sets units h.sent.carried (recursion_from_All IsSendable sets h.sendable)
    (recursion_from_All (EndsLast pages) sets h.ends)
    (all_room pace.coded loads units h.sent.sized h.sent.on_time.fits) in
    let stream =
    sent_packets pace.coded pid pace loads units table (is_free pid h.free) known.units_are h.sent.sized
    h.sent.schedule in
    record {
      timed = timed;
      known = known;
      stream = stream;
      are =
          one_cutting packets (stream_packets pid units table)
          (recursion_from_All (λ packet. length packet ≡ 188) packets h.whole) stream.whole
          (h.sent.sent ∙ stream.joined);
      sent = record {
        units_are = known.units_are;
        sized = h.sent.sized;
        schedule = h.sent.schedule;
        some = have_packets loads units (recursion_from_All IsLoad loads h.sent.each) h.sent.sized;
        many = have_as_many pages sets units timed known.are;
        carry = known.carry;
        opens = known.open_sets;
        apart =
            apart_as pages (filter (has_counted pages) sets) (counted_sets timed)
            (counted_as pages sets units timed known.are) h.apart;
      };
    }

-- ---- all come, in order

pub all_come : (pages : Pages) (pace : Pace) (pid : ℕ) (sets : List RawSet) (loads : List WriteLoad)
    (table : Timetable) (packets : List (List ℕ)) → AreSentFor pages pace pid sets loads table packets
    → AllZip (IsDeliveryOf pages) (filter (has_counted pages) sets) (sets_of pace.coded pid pages true packets)
all_come pages pace pid sets loads table packets h =
    let stream = known_stream pages pace pid sets loads table packets h in
    let units = h.sent.units in
    let laid = stream_packets pid units table in
    let come = stream.stream.handed_out in
    let are : sets_of pace.coded pid pages true packets ≡ map delivered (counted_sets stream.timed) =
    ap (sets_of pace.coded pid pages true) stream.are
    ∙ sets_come pace.coded pid pages true laid (all_of units) stream.timed come stream.known.carry
    (handable_counted pace.coded (has_ended true pid laid) stream.timed
    (is_over pid pace.coded laid (all_of units) come) stream.known.open_sets) stream.sent.apart in
    subst (AllZip (IsDeliveryOf pages) (filter (has_counted pages) sets)) (sym are)
    (are_deliveries pages (filter (has_counted pages) sets) (counted_sets stream.timed)
    (counted_as pages sets units stream.timed stream.known.are))

-- ---- entered late

pub drop_are : (pages : Pages) (n : ℕ) (sets : List RawSet) (units : List (List (List ℕ))) (sent : List TimedSet)
    → AreRawSent pages sets units sent → AreRawSent pages (drop n sets) (drop n units) (drop n sent)
drop_are pages zero sets units sent are = are
drop_are pages (suc n) [] [] [] are = tt
drop_are pages (suc n) [] [] (one ∷ sent) are = absurd are
drop_are pages (suc n) [] (packets ∷ units) sent are = absurd are
drop_are pages (suc n) (set ∷ sets) [] sent are = absurd are
drop_are pages (suc n) (set ∷ sets) (packets ∷ units) [] are = absurd are
drop_are pages (suc n) (set ∷ sets) (packets ∷ units) (one ∷ sent) are = drop_are pages n sets units sent are.1

-- the set of a number
pub record SentNumber (pages : Pages) (number : ℕ) (sets : List RawSet) (one : TimedSet) : Type 0 where
  pub set : RawSet
  pub packets : List (List ℕ)
  pub found : slice_get sets number ≡ Some set
  pub is : IsRawSent pages set packets one

pub sent_at : (pages : Pages) (number : ℕ) (sets : List RawSet) (units : List (List (List ℕ)))
    (sent : List TimedSet) (one : TimedSet) → AreRawSent pages sets units sent → slice_get sent number ≡ Some one
    → SentNumber pages number sets one
sent_at pages number sets units [] one are found = absurd (cc)
sent_at pages number [] [] (first ∷ sent) one are found = absurd are
sent_at pages number [] (packets ∷ units) (first ∷ sent) one are found = absurd are
sent_at pages number (set ∷ sets) [] (first ∷ sent) one are found = absurd are
sent_at pages zero (set ∷ sets) (packets ∷ units) (first ∷ sent) one are found =
    let same : first ≡ one = cc in
    record { set = set; packets = packets; found = refl; is = subst (IsRawSent pages set packets) same are.0 }
sent_at pages (suc number) (set ∷ sets) (packets ∷ units) (first ∷ sent) one are found =
    let there = sent_at pages number sets units sent one are.1 found in
    record { set = there.set; packets = there.packets; found = there.found; is = there.is }

-- what comes of a set that is cut
rest_is : (pages : Pages) (missed : ℕ) (table : Timetable) (sets : List RawSet) (first : ℕ)
    (sent rest : List TimedSet)
    (units : List (List (List ℕ))) → AreRawSent pages sets units sent → late.IsRest sent first rest
    → ((number : ℕ) → number < first → is_left missed table number ≡ false)
    → ((number : ℕ) → first ≡ suc number → 1 ≤ length rest → has_some_left missed table number ≡ true)
    → IsRest pages missed table sets first (map delivered (counted_sets rest))
rest_is pages missed table sets first sent rest units are (none_left) before reached = tt
rest_is pages missed table sets first sent rest units are (some_left {n = number} {set = one} {k = k} found some few)
    before reached = by (has_some (filter has_segments (drop k one.units)))
  where
    at : SentNumber pages number sets one
    at = sent_at pages number sets units sent one are found

    its_units : List (List (List ℕ))
    its_units = at.is.units

    many : length one.units ≡ length its_units
    many = ap length at.is.each ∙ length-map its_units (counted_unit pages at.set.time)

    left : List SetUnit
    left = filter has_segments (drop k one.units)

    segments : segments_of_units left ≡ filter (is_of_pages pages) (all_of (drop k its_units))
    segments =
        same_segments (drop k one.units)
        ∙ ap (λ (all : List SetUnit). segments_of_units (drop k all)) at.is.each
        ∙ ap segments_of_units (drop-map (counted_unit pages at.set.time) k its_units)
        ∙ counted_of_units pages at.set.time (drop k its_units)

    by : (b : Bool) → IsRest pages missed table sets (suc number)
        (map delivered (if b then record { time = one.time; units = left } ∷ [] else []))
    by false = tt
    by true = (
      number,
      at.set,
      omega arith,
      at.found,
      record {
        cut = before number (omega arith);
        some_left = reached number refl (omega arith);
        units = its_units;
        shared = at.is.shared;
        later = k;
        some = some;
        few = omega (arith, few, many);
        size = size_of_units left;
        is =
            ap (λ time. whole time (size_of_units left) (segments_of_units left)) at.is.time
            ∙ ap (λ all. whole (at.set.time % TIME_ROUND) (size_of_units left) all) segments;
      },
    )

pub those_left_come : (pages : Pages) (pace : Pace) (pid : ℕ) (sets : List RawSet) (loads : List WriteLoad)
    (table : Timetable) (packets : List (List ℕ)) (missed : ℕ)
    → AreSentFor pages pace pid sets loads table packets
    → IsEnteredLate pages missed table sets (sets_of pace.coded pid pages true (entered_at missed packets))
those_left_come pages pace pid sets loads table packets missed h = record {
  first = late_sets.first;
  few = omega (arith, late_sets.few, many);
  missed_before = before;
  left = λ number from inside. (late_sets.whole number (omega (arith, inside, many))).1 from;
  rest = map delivered (counted_sets late_sets.rest);
  is_rest =
      rest_is pages missed table sets late_sets.first stream.timed late_sets.rest units stream.known.are
      late_sets.is_rest before late_sets.reached;
  come = map delivered (counted_sets (drop late_sets.first stream.timed));
  whole_sets =
      are_deliveries pages (filter (has_counted pages) (drop late_sets.first sets))
      (counted_sets (drop late_sets.first stream.timed))
      (counted_as pages (drop late_sets.first sets) (drop late_sets.first units) (drop late_sets.first stream.timed)
      (drop_are pages late_sets.first sets units stream.timed stream.known.are));
  are =
      ap (λ (all : List (List ℕ)). sets_of pace.coded pid pages true (drop missed all)) stream.are
      ∙ late_sets.come
      ∙ ap (map delivered) (counted-append late_sets.rest (drop late_sets.first stream.timed))
      ∙ map-append delivered (counted_sets late_sets.rest) (counted_sets (drop late_sets.first stream.timed));
}
  where
    units : List (List (List ℕ))
    units = h.sent.units

    stream : IsKnownStream pages pace pid sets loads table packets units
    stream = known_stream pages pace pid sets loads table packets h

    late_sets : ComeLate pace.coded pid pages units table stream.timed missed
    late_sets =
        come_late pace.coded pid pages loads units pace table stream.timed (is_free pid h.free) stream.stream
        stream.sent missed

    many : length sets ≡ length stream.timed
    many = count_sets pages sets units stream.timed stream.known.are

    before : (number : ℕ) → number < late_sets.first → is_left missed table number ≡ false
    before number early =
        let few = late_sets.few in (late_sets.whole number (omega arith)).0 early
