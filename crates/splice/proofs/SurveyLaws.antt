-- A stream gone through from its first packet to its end.
use Rattle.std.proofs.Common.{◌≡◌, ◌∙◌, ℕ, ◌+◌, ◌^◌, ◌<◌, true, false, List, [], ◌∷◌, ◌++◌, length, get_or, take, drop, length-append, length-take-le, reverse, Some, None, Result, Ok, Err, IfOk, refl, sym, ap, subst, arith, append-nil, append_assoc}
use Rattle.std.proofs.lemmas.List.{take-append-drop, take_more}
use Rattle.std.proofs.lemmas.List.Elements.{All-nil, All-push}
use Rattle.std.specs.List.{list_any}
use Rattle.stream_syntax.specs.TransportPackets.{packet_fault}
use Rattle.stream_syntax.specs.declared.page.State.TheVariants.{ModeChange}
use Rattle.stream_syntax.specs.declared.transport.PacketFault.{PacketFault}
use Rattle.decoder_model.specs.Contents.{has_state}
use Rattle.decoder_model.specs.Faults.{contents_in}
use Rattle.decoder_model.specs.Readings.{AreDeliveriesRead, Reading}
use Rattle.decoder_model.specs.Received.{Reception, sets_received}
use Rattle.decoder_model.specs.Sets.{Delivery, lost, whole, refused}
use Rattle.display_sets.specs.Gathered.{ready_sets}
use Rattle.display_sets.proofs.PacketLaws.{none_arrived}
use Rattle.reading_laws.proofs.OneReading.{same_past}
use Rattle.sent_sets.specs.RawSets.{RawSet}
use Rattle.set_receiver.specs.Receiving.{IsSameReception, SetReceiving, HasBeenFed, reception}
use Rattle.set_receiver.specs.Taking.{AllReceived, AreAllBytes}
use Rattle.splice.specs.StreamTests.{CanBeTaken, BeginsAnew, IsFirstRefused, is_lost}
use Rattle.splice.specs.Private.JoinedSets.{IsJoinedOf}
use Rattle.splice.specs.Private.Parts.{placed}
use Rattle.splice.specs.Private.Stops.{IsStopAt}
use Rattle.splice.specs.Private.Surveyed.{EndsGone, GoesThrough, HasEnded, HasGone, IsStopped}
use Rattle.splice.specs.Private.Surveys.{HasFound, IsFoundSo, IsGoodSo, IsGoodStream, IsSurveyed, TakesPacket, TakesSets, begins_anew, is_anew, nothing_found}
use Rattle.splice.specs.declared.found.Finding.{Finding}
use Rattle.splice.specs.declared.found.Finding.TheVariants.{Good, Unshown, Lost}
use Rattle.splice.specs.declared.found.Found.{Found}
use Rattle.splice.specs.declared.joined.Joined.{Joined}
use Rattle.splice.specs.declared.part.Part.{Part}
use Rattle.splice.specs.declared.part.Part.TheVariants.{Before, From}
use Rattle.splice.specs.declared.stream_reader.ReadStop.{ReadStop}
use Rattle.splice.specs.declared.stream_reader.ReadStop.TheVariants as stop
use Rattle.splice.specs.declared.found.Survey.{Survey}
use Rattle.splice.specs.declared.found.Survey.TheVariants.{Refused, Whole}

-- ---- packets

none_taken : (pid : ℕ) → CanBeTaken pid []
none_taken pid = All-nil (λ packet. packet_fault pid packet ≡ None)

-- a packet behind those that were taken can be taken
taken_more : (pid : ℕ) (packets : List (List ℕ)) (packet : List ℕ) → CanBeTaken pid packets
    → packet_fault pid packet ≡ None → CanBeTaken pid (packets ++ packet ∷ [])
taken_more pid packets packet taken none =
    All-push (λ packet. packet_fault pid packet ≡ None) packets packet taken none

-- or it is the first that cannot
first_refused : (pid : ℕ) (before : List (List ℕ)) (packet : List ℕ) (rest : List (List ℕ)) (fault : PacketFault)
    → CanBeTaken pid before → packet_fault pid packet ≡ Some fault
    → IsFirstRefused pid (before ++ packet ∷ rest) (length before) fault
first_refused pid before packet rest fault taken is = record {
  before = before;
  packet = packet;
  rest = rest;
  parts = refl;
  place_is = refl;
  taken = taken;
  is_fault = is;
}

-- it stays the first with others behind
refused_still : (pid : ℕ) (packets more : List (List ℕ)) (place : ℕ) (fault : PacketFault)
    → IsFirstRefused pid packets place fault → IsFirstRefused pid (packets ++ more) place fault
refused_still pid packets more place fault is = record {
  before = is.before;
  packet = is.packet;
  rest = is.rest ++ more;
  parts =
      ap (λ (all : List (List ℕ)). all ++ more) is.parts
      ∙ append_assoc is.before (is.packet ∷ is.rest) more;
  place_is = is.place_is;
  taken = is.taken;
  is_fault = is.is_fault;
}

-- ---- packet by packet

none_placed : (part : Part) → placed part [] ≡ []
none_placed (Before cut) = refl
none_placed (From cut) = refl

-- before the first packet
pub gone_nowhere : (made : Reception) (part : Part) (receiving : SetReceiving) (start : Joined)
    → reception receiving ≡ made → made.anchor < 2 ^ 33 → HasBeenFed false [] [] receiving
    → ready_sets receiving.collecting.sets ≡ [] → HasGone made part [] receiving nothing_found start start
gone_nowhere made part receiving start own low stands none = record {
  own = own;
  none = none;
  taken = none_taken made.pid;
  goes = λ earlier joined. record {
    own = own;
    low = low;
    few = omega arith;
    past = [];
    has = record { bytes = All-nil AreAllBytes; given = []; stands = stands; read = tt };
    so = record {
      lossless = ap (list_any is_lost) (none_arrived made.profile.coded made.pid made.pages);
      count = refl;
      shown = tt;
      anew = refl;
      begin = refl;
      joined_are =
          subst (λ (all : List RawSet). IsJoinedOf all start)
          (sym (append-nil earlier) ∙ ap (λ (more : List RawSet). earlier ++ more) (sym (none_placed part)))
          joined;
    };
  };
}

-- no packet more
pub through_none : (part : Part) (first : ℕ) (packets : List (List ℕ)) (receiving : SetReceiving) (found : Found)
    (start : Joined)
    → GoesThrough part first (take 0 packets) receiving receiving (Whole found) (Whole found) start start
through_none part first packets receiving found start = record {
  goes = λ made origin before count gone.
      subst (λ (all : List (List ℕ)). HasGone made part all receiving found origin start) (sym (append-nil before))
      gone;
}

-- one packet more, which is taken
taken_one : (made : Reception) (part : Part) (before : List (List ℕ)) (packet : List ℕ) (place : ℕ)
    (old new : SetReceiving) (was is : Found) (origin start end : Joined) → length before ≡ place
    → HasGone made part before old was origin start → TakesPacket part packet place old new was is start end
    → packet_fault (reception old).pid packet ≡ None → ready_sets new.collecting.sets ≡ [] → IsSameReception old new
    → HasGone made part (before ++ packet ∷ []) new is origin end
taken_one made part before packet place old new was is origin start end count gone takes passed none same = record {
  own = same ∙ gone.own;
  none = none;
  taken =
      taken_more made.pid before packet gone.taken
      (subst (λ (own : Reception). packet_fault own.pid packet ≡ None) gone.own passed);
  goes = λ earlier joined. takes.goes made earlier before count (gone.goes earlier joined);
}

placed_behind : (first k place : ℕ) (before packets : List (List ℕ)) → place ≡ first + k → length before ≡ first
    → k < length packets → length (before ++ take k packets) ≡ place
placed_behind first k place before packets at count inside =
    omega (arith, at, count, length-append before (take k packets), length-take-le k packets (omega (arith, inside)))

pub through_one : (part : Part) (first k place : ℕ) (packets : List (List ℕ)) (old mid new : SetReceiving)
    (was half is : Found) (start between end : Joined) → place ≡ first + k → k < length packets
    → GoesThrough part first (take k packets) old mid (Whole was) (Whole half) start between
    → TakesPacket part (get_or packets k []) place mid new half is between end
    → packet_fault (reception mid).pid (get_or packets k []) ≡ None → ready_sets new.collecting.sets ≡ []
    → IsSameReception mid new
    → GoesThrough part first (take (k + 1) packets) old new (Whole was) (Whole is) start end
through_one part first k place packets old mid new was half is start between end at inside through takes passed none
    same = record {
      goes = λ made origin before count gone.
          subst (λ (all : List (List ℕ)). HasGone made part all new is origin end)
          (append_assoc before (take k packets) (get_or packets k [] ∷ [])
          ∙ ap (λ (more : List (List ℕ)). before ++ more) (sym (take_more packets k [] inside)))
          (taken_one made part (before ++ take k packets) (get_or packets k []) place mid new half is origin between end
          (placed_behind first k place before packets at count inside) (through.goes made origin before count gone)
          takes passed none same);
    }

-- a packet that cannot be taken
through_refused : (part : Part) (first k place : ℕ) (packets : List (List ℕ)) (old mid new : SetReceiving)
    (was half : Found) (start between end : Joined) (number : ℕ) (fault : PacketFault) → place ≡ first + k
    → k < length packets → GoesThrough part first (take k packets) old mid (Whole was) (Whole half) start between
    → number ≡ place → packet_fault (reception mid).pid (get_or packets k []) ≡ Some fault
    → GoesThrough part first packets old new (Whole was) (Refused number fault) start end
through_refused part first k place packets old mid new was half start between end number fault at inside through is
    cannot = record {
      goes = λ made origin before count gone.
          let so_far = through.goes made origin before count gone in
          subst (λ (all : List (List ℕ)). IsFirstRefused made.pid all number fault)
          (append_assoc before (take k packets) (get_or packets k [] ∷ drop (k + 1) packets)
          ∙ ap (λ (more : List (List ℕ)). before ++ more) (parted packets k inside))
          (subst (λ (n : ℕ). IsFirstRefused made.pid
          ((before ++ take k packets) ++ get_or packets k [] ∷ drop (k + 1) packets) n fault)
          (placed_behind first k place before packets at count inside ∙ sym is)
          (first_refused made.pid (before ++ take k packets) (get_or packets k []) (drop (k + 1) packets) fault
          so_far.taken
          (subst (λ (own : Reception). packet_fault own.pid (get_or packets k []) ≡ Some fault) so_far.own cannot)));
    }
  where
    parted : (packets : List (List ℕ)) (k : ℕ) → k < length packets
        → take k packets ++ get_or packets k [] ∷ drop (k + 1) packets ≡ packets
    parted packets k inside =
        sym (append_assoc (take k packets) (get_or packets k [] ∷ []) (drop (k + 1) packets))
        ∙ ap (λ (front : List (List ℕ)). front ++ drop (k + 1) packets) (sym (take_more packets k [] inside))
        ∙ take-append-drop (k + 1) packets

pub through_stopped : (part : Part) (first k place : ℕ) (packets : List (List ℕ)) (old mid new : SetReceiving)
    (was half : Found) (start between end : Joined) (why : ReadStop) (is : Survey) → place ≡ first + k
    → k < length packets → GoesThrough part first (take k packets) old mid (Whole was) (Whole half) start between
    → IsStopAt (reception mid).pid place (get_or packets k []) why → IsStopped why is
    → GoesThrough part first packets old new (Whole was) is start end
through_stopped part first k place packets old mid new was half start between end stop.Memory is at inside through stops
    stopped = absurd stopped
through_stopped part first k place packets old mid new was half start between end (stop.Refused number fault) is at
    inside through stops stopped =
    subst (λ (so : Survey). GoesThrough part first packets old new (Whole was) so start end) (sym stopped)
    (through_refused part first k place packets old mid new was half start between end number fault at inside through
    stops.0 stops.1)

pub stopped_through : {E : Type 0} (part : Part) (first k place : ℕ) (packets : List (List ℕ))
    (old mid new : SetReceiving) (was half : Found) (start between end : Joined) (why : ReadStop)
    (result : Result Survey E) → place ≡ first + k → k < length packets
    → GoesThrough part first (take k packets) old mid (Whole was) (Whole half) start between
    → IsStopAt (reception mid).pid place (get_or packets k []) why → IfOk result (IsStopped why)
    → IfOk result (λ is. GoesThrough part first packets old new (Whole was) is start end)
stopped_through part first k place packets old mid new was half start between end why (Ok is) at inside through stops
    stopped =
    through_stopped part first k place packets old mid new was half start between end why is at inside through stops
    stopped
stopped_through part first k place packets old mid new was half start between end why (Err fault) at inside through
    stops stopped = tt

-- behind a packet that cannot be taken
pub through_passed : (part : Part) (first : ℕ) (more : List (List ℕ)) (receiving : SetReceiving) (number : ℕ)
    (fault : PacketFault) (start : Joined)
    → GoesThrough part first more receiving receiving (Refused number fault) (Refused number fault) start start
through_passed part first more receiving number fault start = record {
  goes = λ made origin packets count gone. refused_still made.pid packets more number fault gone;
}

-- ---- the end

-- the first set is a mode change
record IsAnew (past : List (Delivery Reading)) : Type 0 where
  later : List (Delivery Reading)
  time : ℕ
  size : ℕ
  readings : List Reading
  first : past ≡ later ++ whole time size readings ∷ []
  mode_change : has_state ModeChange (contents_in readings) ≡ true

anew_is : (past : List (Delivery Reading)) → is_anew past ≡ true → IsAnew past
anew_is [] is = absurd (cc)
anew_is (lost ∷ []) is = absurd (cc)
anew_is (refused time size fault ∷ []) is = absurd (cc)
anew_is (whole time size readings ∷ []) is =
    record { later = []; time = time; size = size; readings = readings; first = refl; mode_change = is }
anew_is (one ∷ next ∷ past) is =
    let anew = anew_is (next ∷ past) is in
    record {
      later = one ∷ anew.later;
      time = anew.time;
      size = anew.size;
      readings = anew.readings;
      first = ap (λ (all : List (Delivery Reading)). one ∷ all) anew.first;
      mode_change = anew.mode_change;
    }

first_anew : (later : List (Delivery Reading)) (one : Delivery Reading)
    → is_anew (later ++ one ∷ []) ≡ begins_anew one
first_anew [] one = refl
first_anew (next ∷ []) one = refl
first_anew (next ∷ other ∷ later) one = first_anew (other ∷ later) one

-- all that was received
abbrev received_back : Reception → List (List ℕ) → List (Delivery (List ℕ))
received_back made packets = reverse (sets_received made true packets)

begins_if : (made : Reception) (packets : List (List ℕ)) (past : List (Delivery Reading))
    → AreDeliveriesRead (received_back made packets) past → is_anew past ≡ true → BeginsAnew made packets
begins_if made packets past received is =
    let anew = anew_is past is in
    record {
      past = past;
      received = received;
      later = anew.later;
      time = anew.time;
      size = anew.size;
      readings = anew.readings;
      first = anew.first;
      mode_change = anew.mode_change;
    }

only_if : (made : Reception) (packets : List (List ℕ)) (past : List (Delivery Reading))
    → AreDeliveriesRead (received_back made packets) past → BeginsAnew made packets → is_anew past ≡ true
only_if made packets past received begins =
    ap is_anew (same_past (received_back made packets) past begins.past received begins.received ∙ begins.first)
    ∙ first_anew begins.later (whole begins.time begins.size begins.readings) ∙ begins.mode_change

good_stream : (made : Reception) (part : Part) (earlier : List RawSet) (packets : List (List ℕ))
    (past : List (Delivery Reading)) (found : Found) (joined : Joined)
    → AreDeliveriesRead (received_back made packets) past
    → IsGoodSo made part earlier packets past (received_back made packets) found joined
    → IsGoodStream made part earlier packets found joined
good_stream made part earlier packets past found joined received so = record {
  lossless = so.lossless;
  shown = record { past = past; received = received; each = so.shown };
  begins = λ anew. begins_if made packets past received (sym so.anew ∙ anew);
  only = λ begins. so.anew ∙ only_if made packets past received begins;
  joined_are = so.joined_are;
}

surveyed : (made : Reception) (part : Part) (earlier : List RawSet) (packets : List (List ℕ))
    (past : List (Delivery Reading)) (found : Found) (joined : Joined) (finding : Finding)
    → AreDeliveriesRead (received_back made packets) past
    → IsFoundSo made part earlier packets past (received_back made packets) found joined finding
    → IsSurveyed made part earlier packets found joined finding
surveyed made part earlier packets past found joined Good received so =
    good_stream made part earlier packets past found joined received so
surveyed made part earlier packets past found joined (Unshown set) received so = (
  so.0,
  record {
    past = past;
    received = received;
    later = so.1.later;
    delivery = so.1.delivery;
    before = so.1.before;
    parts = so.1.parts;
    place_is = so.1.place_is;
    looked_at = so.1.looked_at;
    not_shown = so.1.not_shown;
    first = so.1.first;
  },
  so.2,
)
surveyed made part earlier packets past found joined (Lost packet) received so = so

-- where all was taken of a stream that has ended, this was found of it
found_whole : (made : Reception) (part : Part) (earlier : List RawSet) (packets : List (List ℕ))
    (receiving : SetReceiving) (found : Found) (joined : Joined) → AllReceived receiving
    → HasFound made part earlier true packets receiving found joined
    → IsSurveyed made part earlier packets found joined found.finding
found_whole made part earlier packets receiving found joined all so =
    let given : so.has.given ≡ sets_received made true packets =
    sym (all packets true so.has.given so.has.stands) ∙ ap (λ (own : Reception). sets_received own true packets) so.own
    in
    surveyed made part earlier packets so.past found joined found.finding
    (subst (λ (sets : List (Delivery (List ℕ))). AreDeliveriesRead (reverse sets) so.past) given so.has.read)
    (subst (λ (sets : List (Delivery (List ℕ))).
    IsFoundSo made part earlier packets so.past (reverse sets) found joined found.finding) given so.so)

-- the stream has ended
ended_found : (made : Reception) (part : Part) (earlier : List RawSet) (packets : List (List ℕ))
    (old new : SetReceiving)
    (found : Found) (joined : Joined)
    → ((fed : List (List ℕ)) (given : List (Delivery (List ℕ))) → HasBeenFed false fed given old
    → HasBeenFed true fed given new)
    → IsSameReception old new → HasFound made part earlier false packets old found joined
    → HasFound made part earlier true packets new found joined
ended_found made part earlier packets old new found joined ends same so = record {
  own = same ∙ so.own;
  low = so.low;
  few = so.few;
  past = so.past;
  has = record {
    bytes = so.has.bytes;
    given = so.has.given;
    stands = ends packets so.has.given so.has.stands;
    read = so.has.read;
  };
  so = so.so;
}

pub stream_ended : (part : Part) (old mid new : SetReceiving) (was is : Found) (start end : Joined)
    → ((fed : List (List ℕ)) (given : List (Delivery (List ℕ))) → HasBeenFed false fed given old
    → HasBeenFed true fed given mid)
    → IsSameReception old mid → TakesSets part mid new was is start end → AllReceived new
    → HasEnded part old was is start end
stream_ended part old mid new was is start end ends same takes all = record {
  goes = λ made earlier packets. λ so.
      found_whole made part earlier packets new is end all
      (takes.goes made earlier true packets
      (ended_found made part earlier packets old mid was start ends same so));
}

-- what going through its packets came to, then
pub ends_gone : (part : Part) (receiving : SetReceiving) (was is : Found) (start end : Joined)
    → HasEnded part receiving was is start end → EndsGone part receiving (Whole was) (Whole is) start end
ends_gone part receiving was is start end ended = record {
  goes = λ made origin packets gone. (
    gone.taken,
    λ earlier joined. ended.goes made earlier packets (gone.goes earlier joined),
  );
}

pub ends_refused : (part : Part) (receiving : SetReceiving) (number : ℕ) (fault : PacketFault) (start : Joined)
    → EndsGone part receiving (Refused number fault) (Refused number fault) start start
ends_refused part receiving number fault start = record { goes = λ made origin packets gone. gone }
