-- What a demultiplexer does at a packet of each kind.
use Rattle.std.proofs.Common.{◌≡◌, ℕ, true, false, cond, nat_eq, List, [], ◌∷◌, ◌++◌, Option, Some, None, refl, sym, ap, ◌∙◌}
use Rattle.stream_syntax.specs.declared.transport.Event.TheVariants as event
use Rattle.stream_syntax.specs.TransportPackets.{packet_fault, pid_of, has_error_flag, has_payload, has_start_flag, counter_of, payload_of}
use Rattle.stream_syntax.specs.Units.{succession, part_after, event_after, unit_after, is_payload, last_counter, hand_after, event_at, unit_at}
use Rattle.ts_packets.specs.Demuxing.{Demuxing, HasDemuxed, DemuxesOn, hand_of, next_hand, lent_bytes}
use Rattle.ts_packets.specs.Kinds.{IsPayloadOf}
use Rattle.ts_packets.specs.Private.Steps.{Answers, StepsOn}
use Rattle.ts_packets.proofs.UnitLemmas.{counter_push, hand_push}
use Rattle.ts_packets.specs.declared.demux.Step.{Step}
use Rattle.ts_packets.specs.declared.kind.Payload.{Payload}

-- ---- packets of a list

-- a demultiplexer that steps on at a packet goes on over it
pub steps_goes_on : (old new : Demuxing) (step : Step) (packet : List ℕ) → StepsOn old new step packet
    → DemuxesOn old new packet
steps_goes_on old new step packet steps = record {
  pid = steps.pid;
  size = steps.size;
  stands = λ packets stands. record {
    counter = steps.counter
        ∙ ap (λ last. cond (is_payload old.pid packet) (Some (counter_of packet)) last) stands.counter
        ∙ sym (counter_push old.pid packets packet)
        ∙ ap (λ pid. last_counter pid (packets ++ packet ∷ [])) (sym steps.pid);
    hand = steps.hand
        ∙ ap (λ hand. next_hand old.size hand (part_after old.pid old.counter packet)) stands.hand
        ∙ ap (λ last. next_hand old.size (hand_after old.pid old.size packets) (part_after old.pid last packet))
        stands.counter
        ∙ sym (hand_push old.pid old.size packets packet)
        ∙ ap (λ pid. hand_after pid old.size (packets ++ packet ∷ [])) (sym steps.pid)
        ∙ ap (λ size. hand_after new.pid size (packets ++ packet ∷ [])) (sym steps.size);
  };
}

-- its answer is that for each list that it stands for
pub steps_event : (old new : Demuxing) (step : Step) (packet : List ℕ) → StepsOn old new step packet
    → (packets : List (List ℕ)) → HasDemuxed old packets → step.event ≡ event_at old.pid old.size packets packet
steps_event old new step packet steps packets stands =
    steps.told
    ∙ ap (λ last. event_after old.pid old.size last (hand_of old) packet) stands.counter
    ∙ ap (λ hand. event_after old.pid old.size (last_counter old.pid packets) hand packet) stands.hand

pub steps_unit : (old new : Demuxing) (step : Step) (packet : List ℕ) (unit : Option (List ℕ))
    → StepsOn old new step packet → unit ≡ lent_bytes new.bytes step.unit
    → (packets : List (List ℕ)) → HasDemuxed old packets → unit ≡ unit_at old.pid old.size packets packet
steps_unit old new step packet unit steps lent packets stands =
    lent
    ∙ steps.lent
    ∙ ap (λ hand. unit_after old.size hand (part_after old.pid old.counter packet)) stands.hand
    ∙ ap (λ last. unit_after old.size (hand_after old.pid old.size packets) (part_after old.pid last packet))
    stands.counter

-- ---- kinds of packets

abbrev alone : event.the_data → Step
alone told = record { event = told; unit = None }

pub other_steps : (d : Demuxing) (packet : List ℕ) → packet_fault d.pid packet ≡ None
    → nat_eq (pid_of packet) d.pid ≡ false → StepsOn d d (alone event.Other) packet
unfolding part_after event_after
other_steps d packet takes other = record {
  takes = takes;
  pid = refl;
  size = refl;
  counter = rw other refl;
  hand = rw other refl;
  told = rw other refl;
  lent = rw other refl;
  within = λ _ e. absurd cc;
}

-- a packet of another PID changes nothing and tells nothing, whatever came before it
pub other_goes_on : (d : Demuxing) (packet : List ℕ) → packet_fault d.pid packet ≡ None
    → nat_eq (pid_of packet) d.pid ≡ false → DemuxesOn d d packet
other_goes_on d packet takes other = steps_goes_on d d (alone event.Other) packet (other_steps d packet takes other)

pub other_event : (pid size : ℕ) (packet : List ℕ) → nat_eq (pid_of packet) pid ≡ false
    → (packets : List (List ℕ)) → event_at pid size packets packet ≡ event.Other
unfolding event_after
other_event pid size packet other packets = rw other refl

pub other_unit : (pid size : ℕ) (packet : List ℕ) → nat_eq (pid_of packet) pid ≡ false
    → (packets : List (List ℕ)) → unit_at pid size packets packet ≡ None
unfolding part_after
other_unit pid size packet other packets = rw other refl

pub damaged_steps : (d : Demuxing) (packet : List ℕ) → packet_fault d.pid packet ≡ None
    → nat_eq (pid_of packet) d.pid ≡ true → has_error_flag packet ≡ true
    → StepsOn d (record d { holds = false }) (alone event.ErrorFlag) packet
unfolding part_after event_after
damaged_steps d packet takes same damaged = record {
  takes = takes;
  pid = refl;
  size = refl;
  counter = rw (same, damaged) refl;
  hand = rw (same, damaged) refl;
  told = rw (same, damaged) refl;
  lent = rw (same, damaged) refl;
  within = λ _ e. absurd cc;
}

pub empty_steps : (d : Demuxing) (packet : List ℕ) → packet_fault d.pid packet ≡ None
    → nat_eq (pid_of packet) d.pid ≡ true → has_error_flag packet ≡ false → has_payload packet ≡ false
    → StepsOn d d (alone event.NoPayload) packet
unfolding part_after event_after
empty_steps d packet takes same sound empty = record {
  takes = takes;
  pid = refl;
  size = refl;
  counter = rw (same, sound, empty) refl;
  hand = rw (same, sound, empty) refl;
  told = rw (same, sound, empty) refl;
  lent = rw (same, sound, empty) refl;
  within = λ _ e. absurd cc;
}

payload_packet_steps : (d new : Demuxing) (step : Step) (packet : List ℕ) → packet_fault d.pid packet ≡ None
    → nat_eq (pid_of packet) d.pid ≡ true → has_error_flag packet ≡ false → has_payload packet ≡ true
    → Answers d new step (succession d.counter (counter_of packet)) (has_start_flag packet) (payload_of packet)
    → new.counter ≡ Some (counter_of packet) → StepsOn d new step packet
unfolding part_after event_after
payload_packet_steps d new step packet takes same sound full answers counted = record {
  takes = takes;
  pid = answers.pid;
  size = answers.size;
  counter = rw (same, sound, full) counted;
  hand = rw (same, sound, full) answers.hand;
  told = rw (same, sound, full) answers.told;
  lent = rw (same, sound, full) answers.lent;
  within = answers.within;
}

pub payload_steps : (d new : Demuxing) (step : Step) (packet : List ℕ) (payload : Payload)
    → packet_fault d.pid packet ≡ None → nat_eq (pid_of packet) d.pid ≡ true
    → has_error_flag packet ≡ false → has_payload packet ≡ true
    → IsPayloadOf packet payload
    → Answers d new step (succession d.counter payload.counter) payload.start payload.bytes.now
    → new.counter ≡ Some payload.counter → StepsOn d new step packet
payload_steps d new step packet payload takes same sound full is answers counted =
    payload_packet_steps d new step packet takes same sound full
    (rw (is.counter, is.start, is.bytes) at answers)
    (rw is.counter at counted)
