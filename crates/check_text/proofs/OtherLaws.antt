-- Packets of other PIDs bring nothing to a receiver, nor to the meter of its coded data buffer.
use Rattle.std.proofs.Common.{◌≡◌, ◌∙◌, ℕ, ◌+◌, ◌==◌, ◌||◌, false, List, [], ◌∷◌, ◌++◌, length, reverse, None, append-nil, append_assoc, option_map, refl, sym, ap, subst}
use Rattle.std.proofs.lemmas.List.Elements.{All-push}
use Rattle.decoder_model.specs.Arrivals.{Arrival, arrival_of_unit, arrivals_of, is_over, losses_at, packets_taken, units_at}
use Rattle.decoder_model.specs.PacketArrivals.{bytes_of_part, is_dropped, makes_ready, packet_arrival, run_before}
use Rattle.decoder_model.specs.Readings.{AreDeliveriesRead, Reading}
use Rattle.decoder_model.specs.Received.{HasReceived, Reception}
use Rattle.decoder_model.specs.Sets.{Delivery, runs_of, sets_in, sets_of}
use Rattle.decoder_model.specs.declared.pages.Pages.{Pages}
use Rattle.display_sets.proofs.PacketLaws.{arrivals_grow, ended_packets, sets_of_packets, taken_more}
use Rattle.display_sets.specs.Standing as sets
use Rattle.received_level_laws.specs.StreamCalls.{calls_of_packet}
use Rattle.received_level_laws.specs.ToldSets.{of_no_set, told_of}
use Rattle.received_level_laws.proofs.ToldLaws.{packet_tells}
use Rattle.set_reader.specs.Collecting.{Collecting, IsReaderOf}
use Rattle.set_receiver.specs.Receiving.{SetReceiving, reception}
use Rattle.set_receiver.specs.Taking.{AreAllBytes, HasPast}
use Rattle.stream_syntax.specs.TransportPackets.{packet_fault, pid_of}
use Rattle.stream_syntax.specs.Units.{event_at, fate_of, hand_after, joined, part_after, part_of, unit_at}
use Rattle.stream_syntax.specs.declared.transport.Event.TheVariants as event
use Rattle.ts_packets.proofs.OneStep.{other_event, other_goes_on, other_unit}
use Rattle.check_text.specs.Checking.{Checking, HasMetered}
use Rattle.check_text.specs.Courses.{told_in_slots}
use Rattle.check_text.specs.Others.{IsOther}

-- ---- what one brings

module _ (coded pid : ℕ) (pages : Pages) (before : List (List ℕ)) (packet : List ℕ)
    (other : (pid_of packet == pid) ≡ false) where
  no_part : part_of pid before packet ≡ None
  unfolding part_after
  no_part = rw other refl

  no_unit : unit_at pid coded before packet ≡ None
  no_unit = other_unit pid coded packet other before

  no_event : event_at pid coded before packet ≡ event.Other
  no_event = other_event pid coded packet other before

  -- no byte arrives, and no unit ends
  nothing_arrives : packet_arrival coded pid pages before packet
      ≡ record { bytes = 0; before = false; dropped = false }
  nothing_arrives = λ i.
      let run = run_before coded pid pages before packet in
      let ended = option_map (arrival_of_unit pages (length before)) (no_unit i) in
      record {
        bytes = bytes_of_part (hand_after pid coded before) (no_part i);
        before = makes_ready coded run ended;
        dropped =
            is_over (option_map (fate_of coded) (joined (hand_after pid coded before) (no_part i)))
            || is_dropped coded run ended;
      }

-- ---- what was received, and told

module _ (pid : ℕ) (pages : Pages) (packets : List (List ℕ)) (packet : List ℕ)
    (taken : packets_taken pid packets ≡ packets) (faultless : packet_fault pid packet ≡ None)
    (other : (pid_of packet == pid) ≡ false) where
  same_arrivals : (coded : ℕ)
      → arrivals_of coded pid pages (packets ++ packet ∷ []) ≡ arrivals_of coded pid pages packets
  same_arrivals coded =
      arrivals_grow coded pid pages packets packet taken faultless
      ∙ (λ i. arrivals_of coded pid pages packets
      ++ (losses_at (no_event coded pid pages packets packet other i)
      ++ units_at pages (length packets) (no_unit coded pid pages packets packet other i)))
      ∙ append-nil (arrivals_of coded pid pages packets)

  same_sets : (coded : ℕ)
      → sets_of coded pid pages false (packets ++ packet ∷ []) ≡ sets_of coded pid pages false packets
  same_sets coded =
      let more = taken_more pid packets packet taken faultless in
      sets_of_packets coded pid pages false (packets ++ packet ∷ [])
      ∙ (λ i. sets_in coded (ended_packets false pid (packets ++ packet ∷ []) more i)
      (runs_of (same_arrivals coded i)))
      ∙ (λ i. sets_in coded (sym (ended_packets false pid packets taken) i)
      (runs_of (arrivals_of coded pid pages packets)))
      ∙ sym (sets_of_packets coded pid pages false packets)

-- the sets and losses are as before
other_received : (made : Reception) (packets : List (List ℕ)) (packet : List ℕ) (past : List (Delivery Reading))
    → packets_taken made.pid packets ≡ packets → packet_fault made.pid packet ≡ None
    → (pid_of packet == made.pid) ≡ false → HasReceived made false packets past
    → HasReceived made false (packets ++ packet ∷ []) past
other_received made packets packet past taken faultless other received =
    subst (λ (given : List (Delivery (List ℕ))). AreDeliveriesRead (reverse given) past)
    (sym (same_sets made.pid made.pages packets packet taken faultless other made.profile.coded)) received

-- and so is what is told of them
other_told : (made : Reception) (packets : List (List ℕ)) (packet : List ℕ) (past : List (Delivery Reading))
    → packets_taken made.pid packets ≡ packets → packet_fault made.pid packet ≡ None
    → (pid_of packet == made.pid) ≡ false → HasReceived made false packets past
    → told_of made 0 (packets ++ packet ∷ []) past ≡ told_of made 0 packets past
other_told made packets packet past taken faultless other received =
    let coded = made.profile.coded in
    packet_tells made 0 packets packet past [] taken faultless received
    (other_received made packets packet past taken faultless other received)
    ∙ (λ i. told_of made 0 packets past
    ++ calls_of_packet of_no_set (no_event coded made.pid made.pages packets packet other i)
    (nothing_arrives coded made.pid made.pages packets packet other i) (0 + length packets) [])
    ∙ append-nil (told_of made 0 packets past)

-- ---- a receiver, and its meter

other_read : (collecting : Collecting) (fed : List (List ℕ)) (packet : List ℕ) (given : List (Delivery (List ℕ)))
    → packet_fault collecting.demux.pid packet ≡ None → (pid_of packet == collecting.demux.pid) ≡ false
    → IsReaderOf false fed given collecting → IsReaderOf false (fed ++ packet ∷ []) given collecting
other_read collecting fed packet given faultless other stands = record {
  taken = taken_more collecting.demux.pid fed packet stands.taken faultless;
  demux = (other_goes_on collecting.demux packet faultless other).stands fed stands.demux;
  sets =
      subst (λ (arrivals : List Arrival). sets.HasGathered arrivals false given collecting.sets)
      (sym (same_arrivals collecting.demux.pid collecting.sets.pages fed packet stands.taken faultless other
      collecting.sets.coded)) stands.sets;
}

other_fed : (receiving : SetReceiving) (fed : List (List ℕ)) (packet : List ℕ) (past : List (Delivery Reading))
    → IsOther (reception receiving).pid packet → HasPast false fed past receiving
    → HasPast false (fed ++ packet ∷ []) past receiving
other_fed receiving fed packet past is has = record {
  bytes = All-push AreAllBytes fed packet has.bytes is.bytes;
  given = has.given;
  stands = record {
    coded = has.stands.coded;
    reads = other_read receiving.collecting fed packet has.given is.faultless is.other has.stands.reads;
    holds = has.stands.holds;
  };
  read = has.read;
}

-- a packet of another PID was taken as well
pub other_metered : (slot_of : ℕ → ℕ) (checking : Checking) (packets : List (List ℕ)) (packet : List ℕ)
    (text : List ℕ) → IsOther (reception checking.receiving).pid packet → HasMetered slot_of checking packets text
    → HasMetered slot_of checking (packets ++ packet ∷ []) text
other_metered slot_of checking packets packet text is has =
    let made = reception checking.receiving in
    let taken = has.at.taken.stands.reads.taken in
    record {
      past = has.past;
      told = has.told;
      at = record {
        own = refl;
        taken = other_fed checking.receiving packets packet has.past is has.at.taken;
        pace_is = has.at.pace_is;
        metered = has.at.metered;
        whole = has.at.whole;
      };
      received = other_received made packets packet has.past taken is.faultless is.other has.received;
      are = has.are
          ∙ ap (told_in_slots slot_of)
          (sym (other_told made packets packet has.past taken is.faultless is.other has.received));
    }
