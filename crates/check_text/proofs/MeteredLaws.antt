-- What was told of packets that came in any slots.
use Rattle.std.proofs.Common.{◌≡◌, ◌∙◌, ℕ, ◌+◌, ◌<◌, Bool, true, false, List, [], ◌∷◌, ◌++◌, length, reverse, get_or, None, append_assoc, refl, sym, ap, subst, arith}
use Rattle.std.proofs.lemmas.List.{get_or_default}
use Rattle.buffer_model.specs.Meters as meters
use Rattle.buffer_model.specs.Meters.{Meter}
use Rattle.command_text.specs.Putting.{Buffered, PutsOut}
use Rattle.command_text.proofs.PutLaws.{PutsOut-both}
use Rattle.decoder_model.specs.Arrivals.{packets_taken}
use Rattle.decoder_model.specs.PacketArrivals.{PacketArrival, packet_arrival}
use Rattle.decoder_model.specs.Readings.{AreDeliveriesRead, Reading}
use Rattle.decoder_model.specs.Received.{HasReceived, Reception}
use Rattle.decoder_model.specs.Sets.{Delivery}
use Rattle.packet_walk.specs.Told.{TellsOne}
use Rattle.set_receiver.specs.Receiving.{AreLosses, IsSameReception, SetReceiving, HasBeenFed, reception}
use Rattle.received_level_laws.specs.StreamCalls.{calls_of_packet}
use Rattle.received_level_laws.specs.ToldSets.{ToldCall, calls_told, of_no_set, told_of}
use Rattle.received_level_laws.proofs.ToldLaws.{end_tells, losses_tell, packet_tells}
use Rattle.received_level_laws.proofs.PacketCalls.{none_yet}
use Rattle.stream_syntax.specs.TransportPackets.{packet_fault}
use Rattle.stream_syntax.specs.Units.{event_at}
use Rattle.stream_syntax.specs.declared.transport.Event.{Event}
use Rattle.sub_base.specs.Endpoints.{Received}
use Rattle.sub_base.specs.declared.pace.Pace.{Pace}
use Rattle.set_receiver.proofs.PastLaws.{ended_past, fed_past, nothing_taken, past_received}
use Rattle.check_text.specs.CheckText.{check_text, end_text, sets_text}
use Rattle.set_receiver.specs.Taking.{AllReceived, AreAllBytes, AreLost}
use Rattle.check_text.specs.Checking.{Checking, HasMetered, HasMeteredIn, IsCheckedTo, PutsEnd, TakesCalls, TakesSets, told_with}
use Rattle.check_text.specs.Courses.{Course, IsTextBy, told_in_slots}
use Rattle.check_text.proofs.CourseLaws.{packet_in_slots, sets_in_slots}
use Rattle.check_text.proofs.StepLaws.{with_both}

-- ---- before the first packet

-- nothing was received
pub none_received : (reception : Reception) → HasReceived reception false [] []
none_received reception =
    subst (λ (sets : List (Delivery (List ℕ))). AreDeliveriesRead (reverse sets) [])
    (sym (none_yet reception.profile.coded reception.pid reception.pages false)) tt

pub nothing_metered : (slot_of : ℕ → ℕ) (receiving : SetReceiving) (meter : Meter) → HasBeenFed false [] [] receiving
    → meters.IsMeterOf [] meter → HasMetered slot_of (record { receiving = receiving; meter = meter }) [] []
nothing_metered slot_of receiving meter stands metered = record {
  past = [];
  told = [];
  at = record {
    own = refl;
    taken = nothing_taken receiving stands;
    pace_is = refl;
    metered = metered;
    whole = refl;
  };
  received = none_received (reception receiving);
  are = refl;
}

-- ---- a packet

-- the packet is of bytes
pub bytes_of : (packet : List ℕ) → ((k : ℕ) → get_or packet k 0 < 256) → AreAllBytes packet
bytes_of packet small k d within = omega (arith, small k, get_or_default packet k d 0 within)

-- a packet was fed
pub record IsFed (made : Reception) (pace : Pace) (receiving : SetReceiving) (meter : Meter) (packets : List (List ℕ))
    (past : List (Delivery Reading)) (told : List ToldCall) (text : List ℕ) : Type 0 where
  pub more : List (Delivery Reading)
  pub are_lost : AreLost more
  pub at : IsCheckedTo made pace false receiving meter packets (more ++ past) told text

pub fed_at : (made : Reception) (pace : Pace) (old new : SetReceiving) (meter : Meter) (packets : List (List ℕ))
    (packet : List ℕ) (past : List (Delivery Reading)) (told : List ToldCall) (text : List ℕ) → AreAllBytes packet
    → IsSameReception old new
    → ((fed : List (List ℕ)) (given : List (Delivery (List ℕ))) → HasBeenFed false fed given old
    → (losses : List (Delivery (List ℕ))) × AreLosses losses
    × HasBeenFed false (fed ++ packet ∷ []) (given ++ losses) new)
    → IsCheckedTo made pace false old meter packets past told text
    → IsFed made pace new meter (packets ++ packet ∷ []) past told text
fed_at made pace old new meter packets packet past told text bytes same feeds at =
    let fed = fed_past old new packets packet past bytes feeds at.taken in
    record {
      more = fed.more;
      are_lost = fed.are_lost;
      at = record {
        own = same ∙ at.own;
        taken = fed.has;
        pace_is = at.pace_is;
        metered = at.metered;
        whole = at.whole;
      };
    }

-- what was taken is all that was received
pub received_at : (made : Reception) (pace : Pace) (ended : Bool) (receiving : SetReceiving) (meter : Meter)
    (packets : List (List ℕ)) (past : List (Delivery Reading)) (told : List ToldCall) (text : List ℕ)
    → AllReceived receiving → IsCheckedTo made pace ended receiving meter packets past told text
    → HasReceived made ended packets past
received_at made pace ended receiving meter packets past told text all at =
    subst (λ (one : Reception). HasReceived one ended packets past) at.own
    (past_received ended packets past receiving all at.taken)

-- the calls of a packet come behind those of the packets before it
told_packet : (made : Reception) (packets : List (List ℕ)) (packet : List ℕ)
    (past lost more : List (Delivery Reading)) (event : Event) (arrival : PacketArrival) (place : ℕ)
    → packets_taken made.pid packets ≡ packets → packet_fault made.pid packet ≡ None
    → HasReceived made false packets past
    → HasReceived made false (packets ++ packet ∷ []) (more ++ (lost ++ past))
    → AreLost lost
    → event ≡ event_at made.pid made.profile.coded packets packet
    → arrival ≡ packet_arrival made.profile.coded made.pid made.pages packets packet
    → length packets ≡ place
    → told_of made 0 packets past
    ++ calls_of_packet of_no_set event arrival place (told_with made (lost ++ past) more)
    ≡ told_of made 0 (packets ++ packet ∷ []) (more ++ (lost ++ past))
told_packet made packets packet past lost more event arrival place taken sound before behind are_lost event_is
    arrival_is count =
    let calls : told_with made (lost ++ past) more ≡ told_with made past (more ++ lost) =
    sym (with_both made past lost more
    ∙ ap (λ (none : List ToldCall). none ++ told_with made (lost ++ past) more)
    (losses_tell made.profile made.anchor past lost are_lost)) in
    let own : HasReceived made false (packets ++ packet ∷ []) ((more ++ lost) ++ past) =
    subst (λ (all : List (Delivery Reading)). HasReceived made false
    (packets ++ packet ∷ []) all) (sym (append_assoc more lost past)) behind in
    let slot : place ≡ 0 + length packets = omega (arith, count) in
    (λ i. told_of made 0 packets past
    ++ calls_of_packet of_no_set (event_is i) (arrival_is i) (slot i) (calls i))
    ∙ sym (packet_tells made 0 packets packet past (more ++ lost) taken sound
    before own)
    ∙ ap (told_of made 0 (packets ++ packet ∷ []))
    (append_assoc more lost past)

module _ (old mid new : SetReceiving) (was is : Meter) (packet : List ℕ) (event : Event) (arrival : PacketArrival)
    (slot : ℕ) (before now : Received) (old_buffer new_buffer : Buffered)
    (bytes : AreAllBytes packet) (same : IsSameReception old mid)
    (sound : packet_fault (reception old).pid packet ≡ None)
    (feeds : (fed : List (List ℕ)) (given : List (Delivery (List ℕ))) → HasBeenFed false fed given old
    → (losses : List (Delivery (List ℕ))) × AreLosses losses
    × HasBeenFed false (fed ++ packet ∷ []) (given ++ losses) mid)
    (events : (fed : List (List ℕ)) (given : List (Delivery (List ℕ))) → HasBeenFed false fed given old
    → event ≡ event_at (reception old).pid (reception old).profile.coded fed packet)
    (arrivals : (fed : List (List ℕ)) (given : List (Delivery (List ℕ))) → HasBeenFed false fed given old
    → mid.collecting.arrival
    ≡ packet_arrival (reception old).profile.coded (reception old).pid (reception old).pages fed packet)
    (arrival_is : arrival ≡ mid.collecting.arrival)
    (calls : TakesCalls event arrival slot before now mid new was is old_buffer new_buffer)
    (all : AllReceived new)
    (slot_of : ℕ → ℕ) (place : ℕ) (slot_is : slot_of place ≡ slot) where
  -- what the receiver is for
  abbrev fed_for : Reception
  fed_for = reception old

  told_so : (packets : List (List ℕ)) (text : List ℕ)
      (has : HasMetered slot_of (record { receiving = old; meter = was }) packets text)
      (lost more : List (Delivery Reading))
      → length packets ≡ place → AreLost lost
      → HasReceived fed_for false (packets ++ packet ∷ [])
      (more ++ (lost ++ has.past))
      → has.told ++ calls_of_packet of_no_set event arrival slot (told_with fed_for (lost ++ has.past) more)
      ≡ told_in_slots slot_of (told_of fed_for 0
      (packets ++ packet ∷ []) (more ++ (lost ++ has.past)))
  told_so packets text has lost more count are_lost behind =
      let own : List ToldCall =
      told_of fed_for 0 packets has.past in
      (λ i. has.are i
      ++ calls_of_packet of_no_set event arrival (sym slot_is i) (told_with fed_for (lost ++ has.past) more))
      ∙ sym (packet_in_slots slot_of fed_for event arrival place own (lost ++ has.past) more)
      ∙ ap (told_in_slots slot_of)
      (told_packet fed_for packets packet has.past lost more event arrival place has.at.taken.stands.reads.taken
      sound
      has.received behind are_lost (events packets has.at.taken.given has.at.taken.stands)
      (arrival_is ∙ arrivals packets has.at.taken.given has.at.taken.stands) count)

  metered_so : (packets : List (List ℕ)) (text line : List ℕ)
      (has : HasMetered slot_of (record { receiving = old; meter = was }) packets text)
      (lost more : List (Delivery Reading))
      → length packets ≡ place → AreLost lost
      → IsCheckedTo fed_for was.pace false new is (packets ++ packet ∷ []) (more ++ (lost ++ has.past))
      (has.told ++ calls_of_packet of_no_set event arrival slot (told_with fed_for (lost ++ has.past) more))
      (text ++ line)
      → HasMetered slot_of (record { receiving = new; meter = is }) (packets ++ packet ∷ []) (text ++ line)
  metered_so packets text line has lost more count are_lost at =
      let behind = received_at fed_for was.pace false new is (packets ++ packet ∷ []) _ _ _ all at in
      subst
      (λ (pace : Pace). HasMeteredIn (reception new) pace slot_of (record { receiving = new; meter = is })
      (packets ++ packet ∷ []) (text ++ line)) (sym at.pace_is)
      (subst
      (λ (one : Reception). HasMeteredIn one was.pace slot_of (record { receiving = new; meter = is })
      (packets ++ packet ∷ []) (text ++ line)) (sym at.own)
      (record {
        past = more ++ (lost ++ has.past);
        told = has.told ++ calls_of_packet of_no_set event arrival slot (told_with fed_for (lost ++ has.past) more);
        at = at;
        received = behind;
        are = told_so packets text has lost more count are_lost behind;
      }))

  -- a packet more
  pub packet_metered : TellsOne (HasMetered slot_of) before now (record { receiving = old; meter = was })
      (record { receiving = new; meter = is }) old_buffer new_buffer place packet
  packet_metered = record {
    goes = λ packets text. λ count has.
        let fed = fed_at fed_for was.pace old mid was packets packet has.past has.told text bytes same feeds has.at in
        let taken =
        calls.goes fed_for was.pace (packets ++ packet ∷ []) (fed.more ++ has.past) has.told text fed.at in (
          taken.1,
          metered_so packets text taken.1 has fed.more taken.0 count fed.are_lost taken.2,
          taken.3,
        );
  }

-- ---- the end

-- the text with the end of the stream
ended_text : (pace : Pace) (told : List ToldCall) (text : List ℕ) → text ≡ sets_text pace told
    → text ++ end_text pace told ≡ check_text true pace told
ended_text pace told text whole = ap (λ (front : List ℕ). front ++ end_text pace told) whole

module _ (old mid new : SetReceiving) (was is : Meter) (before half now : Received)
    (old_buffer mid_buffer new_buffer : Buffered)
    (same : IsSameReception old mid)
    (ends : (fed : List (List ℕ)) (given : List (Delivery (List ℕ))) → HasBeenFed false fed given old
    → HasBeenFed true fed given mid)
    (sets : TakesSets before half mid new was is old_buffer mid_buffer)
    (all : AllReceived new)
    (last : PutsEnd is half now mid_buffer new_buffer) (slot_of : ℕ → ℕ) where
  at_end : (made : Reception) (pace : Pace) (packets : List (List ℕ)) (past : List (Delivery Reading))
      (told : List ToldCall) (text : List ℕ) → IsCheckedTo made pace false old was packets past told text
      → IsCheckedTo made pace true mid was packets past told text
  at_end made pace packets past told text at = record {
    own = same ∙ at.own;
    taken = ended_past old mid packets past ends at.taken;
    pace_is = at.pace_is;
    metered = at.metered;
    whole = at.whole;
  }

  -- what the receiver is for, and how packets come to it
  abbrev ended_for : Reception
  ended_for = reception old

  abbrev by : Course
  by = record { slot_of = slot_of; pace = was.pace }

  told_end : (packets : List (List ℕ)) (text line : List ℕ)
      (has : HasMetered slot_of (record { receiving = old; meter = was }) packets text)
      (more : List (Delivery Reading))
      → IsCheckedTo ended_for was.pace true new is packets (more ++ has.past)
      (has.told ++ told_with ended_for has.past more)
      (text ++ line)
      → IsTextBy by ended_for true packets
      (text ++ (line ++ end_text was.pace (has.told ++ told_with ended_for has.past more)))
  told_end packets text line has more at =
      let taken : packets_taken ended_for.pid packets ≡ packets = has.at.taken.stands.reads.taken in
      let own : List ToldCall =
      told_of ended_for 0 packets has.past in
      let calls : has.told ++ told_with ended_for has.past more
      ≡ told_in_slots slot_of (own ++ told_with ended_for has.past more) =
      ap (λ (front : List ToldCall). front ++ told_with ended_for has.past more) has.are
      ∙ sym (sets_in_slots slot_of ended_for own has.past more) in
      record {
        told = own ++ told_with ended_for has.past more;
        are = record {
          past = more ++ has.past;
          received = received_at ended_for was.pace true new is packets _ _ _ all at;
          are =
              sym (end_tells ended_for 0 packets has.past
              more taken has.received)
              ∙ ap (λ (all : List (List ℕ)). told_of ended_for 0 all
              (more ++ has.past)) (sym taken);
        };
        whole =
            sym (append_assoc text line (end_text was.pace (has.told ++ told_with ended_for has.past more)))
            ∙ ended_text was.pace (has.told ++ told_with ended_for has.past more) (text ++ line) at.whole
            ∙ ap (check_text true was.pace) calls;
      }

  puts_end : (made : Reception) (pace : Pace) (packets : List (List ℕ)) (past : List (Delivery Reading))
      (told : List ToldCall)
      (text line : List ℕ) → IsCheckedTo made pace true new is packets past told text
      → PutsOut before half old_buffer mid_buffer line
      → PutsOut before now old_buffer new_buffer (line ++ end_text pace told)
  puts_end made pace packets past told text line at puts =
      PutsOut-both before half now old_buffer mid_buffer new_buffer line _ puts
      (subst (λ (pace : Pace). PutsOut half now mid_buffer new_buffer (end_text pace told)) at.pace_is
      (last.puts (calls_told told) at.metered))

  -- the stream has ended
  pub end_metered : (packets : List (List ℕ)) (text : List ℕ)
      → HasMetered slot_of (record { receiving = old; meter = was }) packets text
      → (more : List ℕ) × IsTextBy by ended_for true packets (text ++ more)
      × PutsOut before now old_buffer new_buffer more
  end_metered packets text has =
      let taken =
      sets.goes ended_for was.pace true packets has.past has.told text
      (at_end ended_for was.pace packets has.past has.told text has.at) in (
        taken.1 ++ end_text was.pace (has.told ++ told_with ended_for has.past taken.0),
        told_end packets text taken.1 has taken.0 taken.3,
        puts_end ended_for was.pace packets _ _ _ taken.1 taken.3 taken.4,
      )

-- what was told of packets, where the stream does not end with them
pub metered_so_far : (slot_of : ℕ → ℕ) (checking : Checking) (packets : List (List ℕ)) (text : List ℕ)
    → HasMetered slot_of checking packets text
    → IsTextBy (record { slot_of = slot_of; pace = checking.meter.pace }) (reception checking.receiving) false packets
    text
metered_so_far slot_of checking packets text has =
    let made = reception checking.receiving in
    record {
      told = told_of made 0 packets has.past;
      are = record {
        past = has.past;
        received = has.received;
        are = ap (λ (all : List (List ℕ)). told_of made 0 all has.past)
            (sym has.at.taken.stands.reads.taken);
      };
      whole = has.at.whole ∙ ap (sets_text checking.meter.pace) has.are;
    }
