-- A second copy right behind a payload packet brings nothing, and what comes then is as without it.
use Rattle.std.proofs.Common.{◌≡◌, ◌∙◌, ℕ, Bool, true, false, ◌&&◌, not, cond, eqb, List, [], ◌∷◌, ◌++◌, length, map, Option, Some, None, refl, sym, ap, arith}
use Rattle.std.specs.Prelude.{flat_map}
use Rattle.std.specs.List.{list_all}
use Rattle.std.specs.Option.{is_none}
use Rattle.std.proofs.lemmas.Bool.Decides.{nat_tests}
use Rattle.std.proofs.lemmas.List.{map-append}
use Rattle.std.proofs.lemmas.List.Sums.{take_while-cons}
use Rattle.stream_syntax.specs.TransportPackets.{pid_of, has_error_flag, has_payload, has_start_flag, counter_of, payload_of, packet_fault}
use Rattle.stream_syntax.specs.Units.{is_payload, last_counter, Succession, Again, Breaks, payload_part, part_after, part_of, hand_after, unit_after, unit_at, payload_event, event_after, event_at, each_after}
use Rattle.stream_syntax.specs.declared.transport.Event.TheVariants as event
use Rattle.ts_packets.specs.Demuxing.{next_hand}
use Rattle.ts_packets.proofs.UnitLemmas.{hand_push, counter_push}
use Rattle.decoder_model.specs.declared.pages.Pages.{Pages}
use Rattle.decoder_model.specs.Arrivals.{Arrival, losses_at, units_at, arrivals_at, packets_taken, arrivals_of}
use Rattle.decoder_model.specs.Sets.{has_ended, sets_of, sets_in, runs_of}
use Rattle.doubled_packet_laws.specs.Doubled.{doubled}
use Rattle.doubled_packet_laws.proofs.Places.{unplaced, arrivals_unplaced, same_sets}

-- ---- what packets depend on

-- behind the one list and the other the last counter and the unit in hand are the same
pub record Alike (pid size : ℕ) (one other : List (List ℕ)) : Type 0 where
  pub counter : last_counter pid one ≡ last_counter pid other
  pub hand : hand_after pid size one ≡ hand_after pid size other

-- behind lists that are alike a packet brings the same, but for places
pub same_arrivals : (size pid : ℕ) (pages : Pages) (one other : List (List ℕ)) (packet : List ℕ)
    → Alike pid size one other
    → map unplaced (arrivals_at size pid pages one packet) ≡ map unplaced (arrivals_at size pid pages other packet)
same_arrivals size pid pages one other packet alike =
    (λ i. map unplaced (losses_at (event_after pid size (alike.counter i) (alike.hand i) packet)
    ++ units_at pages (length one) (unit_after size (alike.hand i) (part_after pid (alike.counter i) packet))))
    ∙ arrivals_unplaced pages (length one) (length other) (event_at pid size other packet)
    (unit_at pid size other packet)

-- and leaves them alike
pub pushed : (size pid : ℕ) (one other : List (List ℕ)) (packet : List ℕ) → Alike pid size one other
    → Alike pid size (one ++ packet ∷ []) (other ++ packet ∷ [])
pushed size pid one other packet alike = record {
  counter =
      counter_push pid one packet ∙ ap (λ last. cond (is_payload pid packet) (Some (counter_of packet)) last)
      alike.counter ∙ sym (counter_push pid other packet);
  hand =
      hand_push pid size one packet ∙ (λ i. next_hand size (alike.hand i) (part_after pid (alike.counter i) packet))
      ∙ sym (hand_push pid size other packet);
}

-- ---- a copy

same_counter : (n : ℕ) → eqb n n ≡ true
same_counter n = grind (arith, nat_tests)

-- a payload packet has no part behind its own counter
copy_part : (pid : ℕ) (packet : List ℕ) → is_payload pid packet ≡ true
    → part_after pid (Some (counter_of packet)) packet ≡ None
unfolding part_after
copy_part pid packet payload =
    by (eqb (pid_of packet) pid) (has_error_flag packet) (has_payload packet)
    (eqb (counter_of packet) (counter_of packet)) _ payload (same_counter (counter_of packet))
  where
    by : (own damaged has same : Bool) (other : Succession) → (own && (not damaged && has)) ≡ true → same ≡ true
        → cond (not own) None (cond damaged (Some Breaks)
        (cond (not has) None (payload_part (cond same Again other) (has_start_flag packet) (payload_of packet))))
        ≡ None
    by true false true true other e f = refl
    by false damaged has same other e f = absurd cc
    by true true has same other e f = absurd cc
    by true false false same other e f = absurd cc
    by true false true false other e f = absurd cc

copy_event : (pid size : ℕ) (hand : Option (List ℕ)) (packet : List ℕ) → is_payload pid packet ≡ true
    → event_after pid size (Some (counter_of packet)) hand packet ≡ event.Double
unfolding event_after
copy_event pid size hand packet payload =
    by (eqb (pid_of packet) pid) (has_error_flag packet) (has_payload packet)
    (eqb (counter_of packet) (counter_of packet)) _ payload (same_counter (counter_of packet))
  where
    by : (own damaged has same : Bool) (other : Succession) → (own && (not damaged && has)) ≡ true → same ≡ true
        → cond (not own) event.Other (cond damaged event.ErrorFlag
        (cond (not has) event.NoPayload (payload_event size hand (cond same Again other) (has_start_flag packet)
        (payload_of packet)))) ≡ event.Double
    by true false true true other e f = refl
    by false damaged has same other e f = absurd cc
    by true true has same other e f = absurd cc
    by true false false same other e f = absurd cc
    by true false true false other e f = absurd cc

-- behind packets of which the last payload packet has its counter, a payload packet is a double
pub is_double : (size pid : ℕ) (before : List (List ℕ)) (packet : List ℕ) → is_payload pid packet ≡ true
    → last_counter pid before ≡ Some (counter_of packet) → event_at pid size before packet ≡ event.Double
is_double size pid before packet payload last =
    ap (λ counter. event_after pid size counter (hand_after pid size before) packet) last
    ∙ copy_event pid size (hand_after pid size before) packet payload

has_no_part : (pid : ℕ) (before : List (List ℕ)) (packet : List ℕ) → is_payload pid packet ≡ true
    → last_counter pid before ≡ Some (counter_of packet) → part_of pid before packet ≡ None
has_no_part pid before packet payload last =
    ap (λ counter. part_after pid counter packet) last ∙ copy_part pid packet payload

-- and brings nothing
pub brings_nothing : (size pid : ℕ) (pages : Pages) (before : List (List ℕ)) (packet : List ℕ)
    → is_payload pid packet ≡ true
    → last_counter pid before ≡ Some (counter_of packet) → arrivals_at size pid pages before packet ≡ []
brings_nothing size pid pages before packet payload last =
    ap (λ event. losses_at event ++ units_at pages (length before) (unit_at pid size before packet))
    (is_double size pid before packet payload last)
    ∙ ap (λ part. units_at pages (length before) (unit_after size (hand_after pid size before) part))
    (has_no_part pid before packet payload last)

-- the counter behind a payload packet is its own
pub own_counter : (pid : ℕ) (before : List (List ℕ)) (packet : List ℕ) → is_payload pid packet ≡ true
    → last_counter pid (before ++ packet ∷ []) ≡ Some (counter_of packet)
own_counter pid before packet payload =
    counter_push pid before packet ∙ ap (λ b. cond b (Some (counter_of packet)) (last_counter pid before)) payload

-- with its copy behind it, it leaves lists alike
copied : (size pid : ℕ) (one other : List (List ℕ)) (packet : List ℕ) → is_payload pid packet ≡ true
    → Alike pid size one other → Alike pid size ((one ++ packet ∷ []) ++ packet ∷ []) (other ++ packet ∷ [])
copied size pid one other packet payload alike =
    let first = pushed size pid one other packet alike in
    let last = own_counter pid one packet payload in
    record {
      counter = own_counter pid (one ++ packet ∷ []) packet payload ∙ sym last ∙ first.counter;
      hand = hand_push pid size (one ++ packet ∷ []) packet
          ∙ ap (next_hand size (hand_after pid size (one ++ packet ∷ [])))
          (has_no_part pid (one ++ packet ∷ []) packet payload last)
          ∙ first.hand;
    }

-- ---- all packets

-- what packets bring behind others
abbrev pub arrived : ℕ → ℕ → Pages → List (List ℕ) → List (List ℕ) → List Arrival
arrived size pid pages before packets =
    flat_map (λ (arrivals : List Arrival). arrivals) (each_after (arrivals_at size pid pages) before packets)

-- behind lists that are alike, doubled packets bring what they bring once, but for places
arrived_doubled : (size pid : ℕ) (pages : Pages) (one other packets : List (List ℕ)) → Alike pid size one other
    → map unplaced (arrived size pid pages one (doubled pid packets))
    ≡ map unplaced (arrived size pid pages other packets)
arrived_doubled size pid pages one other [] alike = refl
arrived_doubled size pid pages one other (packet ∷ packets) alike =
    by (is_payload pid packet) refl (λ past. λ past'. arrived_doubled size pid pages past past' packets)
    ∙ sym (map-append unplaced (arrivals_at size pid pages other packet)
    (arrived size pid pages (other ++ packet ∷ []) packets))
  where
    by : (b : Bool) → is_payload pid packet ≡ b
        → ((past past' : List (List ℕ)) → Alike pid size past past'
        → map unplaced (arrived size pid pages past (doubled pid packets))
        ≡ map unplaced (arrived size pid pages past' packets))
        → map unplaced
        (arrived size pid pages one (cond b (packet ∷ packet ∷ []) (packet ∷ []) ++ doubled pid packets))
        ≡ map unplaced (arrivals_at size pid pages other packet)
        ++ map unplaced (arrived size pid pages (other ++ packet ∷ []) packets)
    by false is behind =
        map-append unplaced (arrivals_at size pid pages one packet)
        (arrived size pid pages (one ++ packet ∷ []) (doubled pid packets))
        ∙ (λ i. same_arrivals size pid pages one other packet alike i
        ++ behind (one ++ packet ∷ []) (other ++ packet ∷ []) (pushed size pid one other packet alike) i)
    by true is behind =
        ap (λ copy. map unplaced (arrivals_at size pid pages one packet
        ++ (copy ++ arrived size pid pages ((one ++ packet ∷ []) ++ packet ∷ []) (doubled pid packets))))
        (brings_nothing size pid pages (one ++ packet ∷ []) packet is (own_counter pid one packet is))
        ∙ map-append unplaced (arrivals_at size pid pages one packet)
        (arrived size pid pages ((one ++ packet ∷ []) ++ packet ∷ []) (doubled pid packets))
        ∙ (λ i. same_arrivals size pid pages one other packet alike i
        ++ behind ((one ++ packet ∷ []) ++ packet ∷ []) (other ++ packet ∷ [])
        (copied size pid one other packet is alike) i)

-- ---- what is taken

abbrev pub is_sound : ℕ → List ℕ → Bool
is_sound pid packet = is_none (packet_fault pid packet)

-- of doubled packets those are taken that are taken of them once
taken_doubled : (pid : ℕ) (packets : List (List ℕ))
    → packets_taken pid (doubled pid packets) ≡ doubled pid (packets_taken pid packets)
taken_doubled pid [] = refl
taken_doubled pid (packet ∷ packets) =
    copies (is_payload pid packet)
    ∙ ap (λ rest. cond (is_sound pid packet)
    (cond (is_payload pid packet) (packet ∷ packet ∷ []) (packet ∷ []) ++ rest) []) (taken_doubled pid packets)
    ∙ spread (is_sound pid packet)
    ∙ sym (ap (doubled pid) (take_while-cons (is_sound pid) packet packets))
  where
    again : (passes : Bool) (rest : List (List ℕ)) → cond passes (packet ∷ cond passes (packet ∷ rest) []) []
        ≡ cond passes (packet ∷ packet ∷ rest) []
    again true rest = refl
    again false rest = refl

    copies : (payload : Bool)
        → packets_taken pid (cond payload (packet ∷ packet ∷ []) (packet ∷ []) ++ doubled pid packets)
        ≡ cond (is_sound pid packet)
        (cond payload (packet ∷ packet ∷ []) (packet ∷ []) ++ packets_taken pid (doubled pid packets)) []
    copies false = take_while-cons (is_sound pid) packet (doubled pid packets)
    copies true =
        take_while-cons (is_sound pid) packet (packet ∷ doubled pid packets)
        ∙ ap (λ rest. cond (is_sound pid packet) (packet ∷ rest) [])
        (take_while-cons (is_sound pid) packet (doubled pid packets))
        ∙ again (is_sound pid packet) (packets_taken pid (doubled pid packets))

    spread : (passes : Bool)
        → cond passes
        (cond (is_payload pid packet) (packet ∷ packet ∷ []) (packet ∷ [])
        ++ doubled pid (packets_taken pid packets))
        []
        ≡ doubled pid (cond passes (packet ∷ packets_taken pid packets) [])
    spread true = refl
    spread false = refl

-- all of doubled packets are sound where all of them are
sound_doubled : (pid : ℕ) (packets : List (List ℕ))
    → list_all (is_sound pid) (doubled pid packets) ≡ list_all (is_sound pid) packets
sound_doubled pid [] = refl
sound_doubled pid (packet ∷ packets) =
    copies (is_payload pid packet) ∙ ap (λ rest. is_sound pid packet && rest) (sound_doubled pid packets)
  where
    again : (passes rest : Bool) → (passes && (passes && rest)) ≡ (passes && rest)
    again true rest = refl
    again false rest = refl

    copies : (payload : Bool)
        → list_all (is_sound pid) (cond payload (packet ∷ packet ∷ []) (packet ∷ []) ++ doubled pid packets)
        ≡ (is_sound pid packet && list_all (is_sound pid) (doubled pid packets))
    copies false = refl
    copies true = again (is_sound pid packet) (list_all (is_sound pid) (doubled pid packets))

-- ---- sets

pub sets_doubled : (coded pid : ℕ) (pages : Pages) (ended : Bool) (packets : List (List ℕ))
    → sets_of coded pid pages ended (doubled pid packets) ≡ sets_of coded pid pages ended packets
unfolding sets_of arrivals_of has_ended
sets_doubled coded pid pages ended packets =
    let taken = packets_taken pid packets in
    ap (λ sound. sets_in coded (ended && sound)
    (runs_of (arrived coded pid pages [] (packets_taken pid (doubled pid packets))))) (sound_doubled pid packets)
    ∙ ap (λ found. sets_in coded (has_ended ended pid packets) (runs_of (arrived coded pid pages [] found)))
    (taken_doubled pid packets)
    ∙ same_sets coded (has_ended ended pid packets) (arrived coded pid pages [] (doubled pid taken))
    (arrived coded pid pages [] taken)
    (arrived_doubled coded pid pages [] [] taken (record { counter = refl; hand = refl }))
