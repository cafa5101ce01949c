-- A packet of the PID with an error flag is a loss, and its counter is not looked at.
use Rattle.std.proofs.Common.{◌≡◌, ◌∙◌, ℕ, Bool, true, false, ◌&&◌, not, cond, eqb, List, [], ◌∷◌, ◌++◌, length, Option, Some, None, refl, sym, ap, append_assoc}
use Rattle.std.proofs.lemmas.Bool.{eq-eqb}
use Rattle.stream_syntax.specs.TransportPackets.{pid_of, has_error_flag, has_payload, has_start_flag, counter_of, payload_of, packet_fault}
use Rattle.stream_syntax.specs.Units.{is_payload, last_counter, succession, Breaks, payload_part, part_after, hand_after, unit_after, unit_at, payload_event, event_after, event_at}
use Rattle.stream_syntax.specs.declared.transport.Event.TheVariants as event
use Rattle.ts_packets.proofs.UnitLemmas.{counter_push}
use Rattle.decoder_model.specs.declared.pages.Pages.{Pages}
use Rattle.decoder_model.specs.Arrivals.{loss, losses_at, units_at, arrivals_at, packets_taken, arrivals_of}
use Rattle.display_sets.proofs.PacketLaws.{arrivals_grow}
use Rattle.doubled_packet_laws.proofs.Copies.{own_counter, is_double, brings_nothing}

flagged_event : (pid size : ℕ) (last : Option ℕ) (hand : Option (List ℕ)) (packet : List ℕ)
    → pid_of packet ≡ pid
    → has_error_flag packet ≡ true → event_after pid size last hand packet ≡ event.ErrorFlag
unfolding event_after
flagged_event pid size last hand packet own flag =
    ap (λ same. cond (not same) event.Other
    (cond (has_error_flag packet) event.ErrorFlag
    (cond (not (has_payload packet)) event.NoPayload
    (payload_event size hand (succession last (counter_of packet)) (has_start_flag packet) (payload_of packet)))))
    (eq-eqb (pid_of packet) pid own)
    ∙ ap (λ flagged. cond flagged event.ErrorFlag
    (cond (not (has_payload packet)) event.NoPayload
    (payload_event size hand (succession last (counter_of packet)) (has_start_flag packet) (payload_of packet))))
    flag

flagged_part : (pid : ℕ) (last : Option ℕ) (packet : List ℕ) → pid_of packet ≡ pid
    → has_error_flag packet ≡ true
    → part_after pid last packet ≡ Some Breaks
unfolding part_after
flagged_part pid last packet own flag =
    ap (λ same. cond (not same) None (cond (has_error_flag packet) (Some Breaks)
    (cond (not (has_payload packet)) None
    (payload_part (succession last (counter_of packet)) (has_start_flag packet) (payload_of packet)))))
    (eq-eqb (pid_of packet) pid own)
    ∙ ap (λ flagged. cond flagged (Some Breaks)
    (cond (not (has_payload packet)) None
    (payload_part (succession last (counter_of packet)) (has_start_flag packet) (payload_of packet)))) flag

pub flagged_arrivals : (size pid : ℕ) (pages : Pages) (before : List (List ℕ)) (packet : List ℕ)
    → pid_of packet ≡ pid
    → has_error_flag packet ≡ true → arrivals_at size pid pages before packet ≡ loss ∷ []
flagged_arrivals size pid pages before packet own flag =
    ap (λ event. losses_at event ++ units_at pages (length before) (unit_at pid size before packet))
    (flagged_event pid size (last_counter pid before) (hand_after pid size before) packet own flag)
    ∙ ap (λ part. loss ∷ units_at pages (length before) (unit_after size (hand_after pid size before) part))
    (flagged_part pid (last_counter pid before) packet own flag)

pub flagged_more : (size pid : ℕ) (pages : Pages) (before : List (List ℕ)) (packet : List ℕ)
    → packets_taken pid before ≡ before
    → packet_fault pid packet ≡ None → pid_of packet ≡ pid → has_error_flag packet ≡ true
    → arrivals_of size pid pages (before ++ packet ∷ []) ≡ arrivals_of size pid pages before ++ loss ∷ []
flagged_more size pid pages before packet taken sound own flag =
    arrivals_grow size pid pages before packet taken sound
    ∙ ap (λ last. arrivals_of size pid pages before ++ last) (flagged_arrivals size pid pages before packet own flag)

-- ---- behind it

no_payload : (pid : ℕ) (packet : List ℕ) → has_error_flag packet ≡ true → is_payload pid packet ≡ false
no_payload pid packet flag =
    ap (λ flagged. eqb (pid_of packet) pid && (not flagged && has_payload packet)) flag
    ∙ by (eqb (pid_of packet) pid)
  where
    by : (own : Bool) → (own && false) ≡ false
    by true = refl
    by false = refl

-- the counter of the payload packet before it stands
counter_stands : (pid : ℕ) (before : List (List ℕ)) (packet damaged : List ℕ) → is_payload pid packet ≡ true
    → has_error_flag damaged ≡ true
    → last_counter pid (before ++ packet ∷ damaged ∷ []) ≡ Some (counter_of packet)
counter_stands pid before packet damaged payload flag =
    ap (last_counter pid) (sym (append_assoc before (packet ∷ []) (damaged ∷ [])))
    ∙ counter_push pid (before ++ packet ∷ []) damaged
    ∙ ap (λ b. cond b (Some (counter_of damaged)) (last_counter pid (before ++ packet ∷ [])))
    (no_payload pid damaged flag)
    ∙ own_counter pid before packet payload

pub double_behind : (size pid : ℕ) (before : List (List ℕ)) (packet damaged : List ℕ)
    → is_payload pid packet ≡ true
    → has_error_flag damaged ≡ true
    → event_at pid size (before ++ packet ∷ damaged ∷ []) packet ≡ event.Double
double_behind size pid before packet damaged payload flag =
    is_double size pid (before ++ packet ∷ damaged ∷ []) packet payload
    (counter_stands pid before packet damaged payload flag)

pub nothing_behind : (size pid : ℕ) (pages : Pages) (before : List (List ℕ)) (packet damaged : List ℕ)
    → is_payload pid packet ≡ true → has_error_flag damaged ≡ true
    → arrivals_at size pid pages (before ++ packet ∷ damaged ∷ []) packet ≡ []
nothing_behind size pid pages before packet damaged payload flag =
    brings_nothing size pid pages (before ++ packet ∷ damaged ∷ []) packet payload
    (counter_stands pid before packet damaged payload flag)
