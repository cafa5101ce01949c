-- Packets of other PIDs bring nothing, and what comes then is as without them.
use Rattle.std.proofs.Common.{◌≡◌, ◌∙◌, ℕ, suc, Bool, true, false, ◌&&◌, not, cond, eqb, List, [], ◌∷◌, ◌++◌, length, map, All, Some, None, refl, sym, ap, subst, reverse, arith}
use Rattle.std.specs.List.{list_all}
use Rattle.std.specs.Option.{is_none}
use Rattle.std.proofs.lemmas.List.{map-append}
use Rattle.std.proofs.lemmas.List.Elements.{All-cons}
use Rattle.std.proofs.lemmas.List.Sums.{take_while-cons}
use Rattle.stream_syntax.specs.TransportPackets.{pid_of, has_error_flag, has_payload, has_start_flag, counter_of, payload_of, packet_fault}
use Rattle.stream_syntax.specs.Units.{last_counter, succession, Breaks, payload_part, part_after, part_of, hand_after, unit_after, unit_at, payload_event, event_after, event_at}
use Rattle.stream_syntax.specs.declared.transport.Event.TheVariants as event
use Rattle.ts_packets.specs.Demuxing.{next_hand}
use Rattle.ts_packets.proofs.UnitLemmas.{hand_push, counter_push}
use Rattle.decoder_model.specs.declared.pages.Pages.{Pages}
use Rattle.decoder_model.specs.Arrivals.{losses_at, units_at, arrivals_at, packets_taken, arrivals_of}
use Rattle.decoder_model.specs.Readings.{Reading, AreDeliveriesRead}
use Rattle.decoder_model.specs.Received.{HasReceived, Reception}
use Rattle.decoder_model.specs.Sets.{Delivery, has_ended, sets_of, sets_in, runs_of}
use Rattle.doubled_packet_laws.specs.OfPid.{of_pid}
use Rattle.doubled_packet_laws.proofs.Places.{unplaced, same_sets}
use Rattle.doubled_packet_laws.proofs.Copies.{Alike, arrived, is_sound, pushed, same_arrivals}

-- ---- one packet of another PID

module _ (size pid : ℕ) (pages : Pages) (before : List (List ℕ)) (packet : List ℕ)
    (other : eqb (pid_of packet) pid ≡ false) where
  no_part : part_of pid before packet ≡ None
  unfolding part_after
  no_part =
      ap (λ own. cond (not own) None (cond (has_error_flag packet) (Some Breaks)
      (cond (not (has_payload packet)) None
      (payload_part (succession (last_counter pid before) (counter_of packet)) (has_start_flag packet)
      (payload_of packet))))) other

  no_event : event_at pid size before packet ≡ event.Other
  unfolding event_after
  no_event =
      ap (λ own. cond (not own) event.Other (cond (has_error_flag packet) event.ErrorFlag
      (cond (not (has_payload packet)) event.NoPayload
      (payload_event size (hand_after pid size before) (succession (last_counter pid before) (counter_of packet))
      (has_start_flag packet)
      (payload_of packet))))) other

  brings_none : arrivals_at size pid pages before packet ≡ []
  brings_none =
      ap (λ event. losses_at event ++ units_at pages (length before) (unit_at pid size before packet)) no_event
      ∙ ap (λ part. units_at pages (length before) (unit_after size (hand_after pid size before) part)) no_part

  -- it leaves lists alike
  passed : (one : List (List ℕ)) → Alike pid size one before → Alike pid size one (before ++ packet ∷ [])
  passed one alike = record {
    counter =
        alike.counter
        ∙ sym (counter_push pid before packet
        ∙ ap (λ own. cond (own && (not (has_error_flag packet) && has_payload packet)) (Some (counter_of packet))
        (last_counter pid before)) other);
    hand =
        alike.hand
        ∙ sym (hand_push pid size before packet ∙ ap (next_hand size (hand_after pid size before)) no_part);
  }

-- ---- all packets

-- behind lists that are alike, the packets of the PID bring what all bring, but for places
arrived_of_pid : (size pid : ℕ) (pages : Pages) (one other packets : List (List ℕ)) → Alike pid size one other
    → map unplaced (arrived size pid pages one (of_pid pid packets))
    ≡ map unplaced (arrived size pid pages other packets)
arrived_of_pid size pid pages one other [] alike = refl
arrived_of_pid size pid pages one other (packet ∷ packets) alike =
    by (eqb (pid_of packet) pid) refl (λ past. λ past'. arrived_of_pid size pid pages past past' packets)
    ∙ sym (map-append unplaced (arrivals_at size pid pages other packet)
    (arrived size pid pages (other ++ packet ∷ []) packets))
  where
    by : (b : Bool) → eqb (pid_of packet) pid ≡ b
        → ((past past' : List (List ℕ)) → Alike pid size past past'
        → map unplaced (arrived size pid pages past (of_pid pid packets))
        ≡ map unplaced (arrived size pid pages past' packets))
        → map unplaced (arrived size pid pages one (cond b (packet ∷ of_pid pid packets) (of_pid pid packets)))
        ≡ map unplaced (arrivals_at size pid pages other packet)
        ++ map unplaced (arrived size pid pages (other ++ packet ∷ []) packets)
    by true is behind =
        map-append unplaced (arrivals_at size pid pages one packet)
        (arrived size pid pages (one ++ packet ∷ []) (of_pid pid packets))
        ∙ (λ i. same_arrivals size pid pages one other packet alike i
        ++ behind (one ++ packet ∷ []) (other ++ packet ∷ []) (pushed size pid one other packet alike) i)
    by false is behind =
        behind one (other ++ packet ∷ []) (passed size pid pages other packet is one alike)
        ∙ sym (ap
        (λ none. map unplaced none ++ map unplaced (arrived size pid pages (other ++ packet ∷ []) packets))
        (brings_none size pid pages other packet is))

-- ---- packets that are all taken

abbrev AreTaken : ℕ → List (List ℕ) → Type 0
AreTaken pid packets = All (λ (packet : List ℕ). packet_fault pid packet ≡ None) packets

first_taken : (pid : ℕ) (packet : List ℕ) (packets : List (List ℕ)) → AreTaken pid (packet ∷ packets)
    → is_sound pid packet ≡ true
first_taken pid packet packets all = ap is_none (all 0 [] (omega arith))

others_taken : (pid : ℕ) (packet : List ℕ) (packets : List (List ℕ)) → AreTaken pid (packet ∷ packets)
    → AreTaken pid packets
others_taken pid packet packets all = λ i d h. all (suc i) d (omega arith)

taken_all : (pid : ℕ) (packets : List (List ℕ)) → AreTaken pid packets → packets_taken pid packets ≡ packets
taken_all pid [] all = refl
taken_all pid (packet ∷ packets) all =
    take_while-cons (is_sound pid) packet packets
    ∙ ap (λ sound. cond sound (packet ∷ packets_taken pid packets) []) (first_taken pid packet packets all)
    ∙ ap (λ rest. packet ∷ rest) (taken_all pid packets (others_taken pid packet packets all))

sound_all : (pid : ℕ) (packets : List (List ℕ)) → AreTaken pid packets
    → list_all (is_sound pid) packets ≡ true
sound_all pid [] all = refl
sound_all pid (packet ∷ packets) all =
    ap (λ sound. sound && list_all (is_sound pid) packets) (first_taken pid packet packets all)
    ∙ sound_all pid packets (others_taken pid packet packets all)

of_pid_taken : (pid : ℕ) (packets : List (List ℕ)) → AreTaken pid packets → AreTaken pid (of_pid pid packets)
of_pid_taken pid [] all = all
of_pid_taken pid (packet ∷ packets) all =
    by (eqb (pid_of packet) pid) (of_pid_taken pid packets (others_taken pid packet packets all))
  where
    by : (b : Bool) → AreTaken pid (of_pid pid packets)
        → AreTaken pid (cond b (packet ∷ of_pid pid packets) (of_pid pid packets))
    by true rest =
        All-cons (λ (p : List ℕ). packet_fault pid p ≡ None) packet (of_pid pid packets) (all 0 [] (omega arith))
        rest
    by false rest = rest

-- ---- sets

pub sets_of_pid : (coded pid : ℕ) (pages : Pages) (ended : Bool) (packets : List (List ℕ)) → AreTaken pid packets
    → sets_of coded pid pages ended (of_pid pid packets) ≡ sets_of coded pid pages ended packets
unfolding sets_of arrivals_of has_ended
sets_of_pid coded pid pages ended packets all =
    let own = of_pid_taken pid packets all in
    ap (λ sound. sets_in coded (ended && sound)
    (runs_of (arrived coded pid pages [] (packets_taken pid (of_pid pid packets)))))
    (sound_all pid (of_pid pid packets) own)
    ∙ ap (λ found. sets_in coded (ended && true) (runs_of (arrived coded pid pages [] found)))
    (taken_all pid (of_pid pid packets) own)
    ∙ same_sets coded (ended && true) (arrived coded pid pages [] (of_pid pid packets))
    (arrived coded pid pages [] packets)
    (arrived_of_pid coded pid pages [] [] packets (record { counter = refl; hand = refl }))
    ∙ ap (λ found. sets_in coded (ended && true) (runs_of (arrived coded pid pages [] found)))
    (sym (taken_all pid packets all))
    ∙ ap (λ sound. sets_in coded (ended && sound) (runs_of (arrived coded pid pages [] (packets_taken pid packets))))
    (sym (sound_all pid packets all))

pub received_of_pid : (reception : Reception) (ended : Bool) (packets : List (List ℕ))
    (past : List (Delivery Reading)) → AreTaken reception.pid packets
    → HasReceived reception ended packets past
    → HasReceived reception ended (of_pid reception.pid packets) past
received_of_pid reception ended packets past all h =
    subst (λ (sets : List (Delivery (List ℕ))). AreDeliveriesRead (reverse sets) past)
    (sym (sets_of_pid reception.profile.coded reception.pid reception.pages ended packets all)) h

pub received_of_all : (reception : Reception) (ended : Bool) (packets : List (List ℕ))
    (past : List (Delivery Reading)) → AreTaken reception.pid packets
    → HasReceived reception ended (of_pid reception.pid packets) past
    → HasReceived reception ended packets past
received_of_all reception ended packets past all h =
    subst (λ (sets : List (Delivery (List ℕ))). AreDeliveriesRead (reverse sets) past)
    (sets_of_pid reception.profile.coded reception.pid reception.pages ended packets all) h
