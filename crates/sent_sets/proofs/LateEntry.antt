-- Packets that add to a unit whose beginning was missed give no unit, mean no loss, and leave none in hand.
use Rattle.std.proofs.Common.{◌≡◌, ◌≢◌, ◌∙◌, ℕ, zero, suc, ◌+◌, ◌-◌, ◌%◌, Bool, false, cond, List, [], ◌∷◌, ◌++◌, replicate, Option, Some, None, inr, refl, sym, ap, subst, arith, append_assoc, append-nil}
use Rattle.std.specs.Prelude.{filter_map}
use Rattle.std.specs.List.{AllByRecursion, cons_option}
use Rattle.std.proofs.lemmas.Bool.{ne_eqb, eq-eqb}
use Rattle.stream_syntax.specs.Cutting.{units_behind, events_behind, IsUnbroken}
use Rattle.stream_syntax.specs.TransportPackets.{null_packet, pid_of, counter_of, payload_of}
use Rattle.stream_syntax.specs.Units.{last_counter, Succession, Next, Again, Missing, succession, payload_part, part_after, part_of, hand_after, unit_after, unit_at, payload_event, event_after, event_at, is_loss}
use Rattle.decoder_model.proofs.SentUnits.{no_loss_at}
use Rattle.ts_packets.specs.Demuxing.{next_hand}
use Rattle.ts_packets.proofs.UnitLemmas.{hand_push, counter_push}
use Rattle.ts_packets.proofs.WrittenPackets.{SaysWhatWasWritten}
use Rattle.slot_stream.proofs.LaidPackets.{laid}
use Rattle.slot_stream.proofs.SentPieces.{IsFree, AreFurther, FollowsOn, says, unbroken, null_is_no_payload, counter_here}
use Rattle.slot_stream.specs.SlotStream.{Piece, packet_of}

-- behind packets, a packet gives no unit, means no loss, and leaves no unit in hand
pub record GivesNothing (pid size : ℕ) (before : List (List ℕ)) (packet : List ℕ) : Type 0 where
  pub no_unit : unit_at pid size before packet ≡ None
  pub no_loss : is_loss (event_at pid size before packet) ≡ false
  pub no_hand : hand_after pid size (before ++ packet ∷ []) ≡ None

-- ---- a packet of another PID

pub other_part : (pid : ℕ) (before : List (List ℕ)) (packet : List ℕ) → pid_of packet ≢ pid
    → part_of pid before packet ≡ None
unfolding part_after
other_part pid before packet h = rw (ne_eqb (pid_of packet) pid h) refl

other_gives_nothing : (pid size : ℕ) (before : List (List ℕ)) (packet : List ℕ) → pid_of packet ≢ pid
    → hand_after pid size before ≡ None → GivesNothing pid size before packet
other_gives_nothing pid size before packet h hand = record {
  no_unit = ap (unit_after size (hand_after pid size before)) (other_part pid before packet h);
  no_loss = no_loss_at pid size before packet h;
  no_hand =
      hand_push pid size before packet
      ∙ ap (next_hand size (hand_after pid size before)) (other_part pid before packet h) ∙ hand;
}

-- ---- a packet that begins no unit, where none is in hand

its_part : (pid counter : ℕ) (before : List (List ℕ)) (piece packet : List ℕ)
    → SaysWhatWasWritten pid false counter piece packet
    → part_of pid before packet
    ≡ payload_part (succession (last_counter pid before) (counter_of packet)) false (payload_of packet)
unfolding part_after
its_part pid counter before piece packet told =
    rw (eq-eqb (pid_of packet) pid told.carries.same_pid, told.carries.sound, told.carries.full, told.carries.begins)
    refl

its_event : (pid size counter : ℕ) (before : List (List ℕ)) (piece packet : List ℕ)
    → SaysWhatWasWritten pid false counter piece packet
    → event_at pid size before packet
    ≡ payload_event size (hand_after pid size before) (succession (last_counter pid before) (counter_of packet))
    false (payload_of packet)
unfolding event_after
its_event pid size counter before piece packet told =
    rw (eq-eqb (pid_of packet) pid told.carries.same_pid, told.carries.sound, told.carries.full, told.carries.begins)
    refl

adds_no_unit : (size : ℕ) (s : Succession) (payload : List ℕ)
    → unit_after size None (payload_part s false payload) ≡ None
adds_no_unit size Next payload = refl
adds_no_unit size Again payload = refl
adds_no_unit size (Missing expected found) payload = refl

adds_no_hand : (size : ℕ) (s : Succession) (payload : List ℕ)
    → next_hand size None (payload_part s false payload) ≡ None
adds_no_hand size Next payload = refl
adds_no_hand size Again payload = refl
adds_no_hand size (Missing expected found) payload = refl

adds_no_loss : (size : ℕ) (s : Succession) (payload : List ℕ) → IsUnbroken s
    → is_loss (payload_event size None s false payload) ≡ false
adds_no_loss size Next payload h = refl
adds_no_loss size Again payload h = refl
adds_no_loss size (Missing expected found) payload h = absurd h

further_gives_nothing : (pid size counter : ℕ) (before : List (List ℕ)) (piece packet : List ℕ)
    → SaysWhatWasWritten pid false counter piece packet → hand_after pid size before ≡ None
    → IsUnbroken (succession (last_counter pid before) (counter_of packet))
    → GivesNothing pid size before packet
further_gives_nothing pid size counter before piece packet told hand unbroken =
    let s = succession (last_counter pid before) (counter_of packet) in record {
      no_unit =
          ap (unit_after size (hand_after pid size before)) (its_part pid counter before piece packet told)
          ∙ ap (λ kept. unit_after size kept (payload_part s false (payload_of packet))) hand
          ∙ adds_no_unit size s (payload_of packet);
      no_loss =
          ap is_loss (its_event pid size counter before piece packet told)
          ∙ ap (λ kept. is_loss (payload_event size kept s false (payload_of packet))) hand
          ∙ adds_no_loss size s (payload_of packet) unbroken;
      no_hand =
          hand_push pid size before packet
          ∙ ap (next_hand size (hand_after pid size before)) (its_part pid counter before piece packet told)
          ∙ ap (λ kept. next_hand size kept (payload_part s false (payload_of packet))) hand
          ∙ adds_no_hand size s (payload_of packet);
    }

-- ---- packets, one after another

-- behind packets, packets give no unit, mean no loss, and leave no unit in hand
pub record GiveNothing (pid size : ℕ) (before packets : List (List ℕ)) : Type 0 where
  pub no_units : filter_map (λ found. found) (units_behind pid size before packets) ≡ []
  pub no_losses : AllByRecursion (λ event. is_loss event ≡ false) (events_behind pid size before packets)
  pub no_hand : hand_after pid size (before ++ packets) ≡ None

nothing_of_none : (pid size : ℕ) (before : List (List ℕ)) → hand_after pid size before ≡ None
    → GiveNothing pid size before []
nothing_of_none pid size before hand =
    record { no_units = refl; no_losses = tt; no_hand = ap (hand_after pid size) (append-nil before) ∙ hand }

nothing_more : (pid size : ℕ) (before packets : List (List ℕ)) (packet : List ℕ)
    → GivesNothing pid size before packet → GiveNothing pid size (before ++ packet ∷ []) packets
    → GiveNothing pid size before (packet ∷ packets)
nothing_more pid size before packets packet first rest = record {
  no_units =
      ap (λ found. cons_option found
      (filter_map (λ found. found) (units_behind pid size (before ++ packet ∷ []) packets))) first.no_unit
      ∙ rest.no_units;
  no_losses = (first.no_loss, rest.no_losses);
  no_hand = ap (hand_after pid size) (sym (append_assoc before (packet ∷ []) packets)) ∙ rest.no_hand;
}

nulls_more : (pid size count : ℕ) (before packets : List (List ℕ)) → IsFree pid
    → hand_after pid size before ≡ None
    → ((behind : List (List ℕ)) → hand_after pid size behind ≡ None
    → last_counter pid behind ≡ last_counter pid before → GiveNothing pid size behind packets)
    → GiveNothing pid size before (replicate count null_packet ++ packets)
nulls_more pid size zero before packets free hand more = more before hand refl
nulls_more pid size (suc count) before packets free hand more =
    let first = other_gives_nothing pid size before null_packet free.no_null hand in
    let same : last_counter pid (before ++ null_packet ∷ []) ≡ last_counter pid before =
    counter_push pid before null_packet
    ∙ ap (λ payload. cond payload (Some (counter_of null_packet)) (last_counter pid before))
    (null_is_no_payload pid free) in
    nothing_more pid size before (replicate count null_packet ++ packets) null_packet first
    (nulls_more pid size count (before ++ null_packet ∷ []) packets free first.no_hand
    (λ behind hand_behind counter_behind. more behind hand_behind (counter_behind ∙ same)))

-- the packets of pieces that begin no unit give nothing where none is in hand
pub further_give_nothing : (pid size from number : ℕ) (before : List (List ℕ)) (pieces : List Piece)
    (slots : List ℕ) → IsFree pid → AreFurther pieces → hand_after pid size before ≡ None
    → FollowsOn (last_counter pid before) number
    → GiveNothing pid size before (laid pid from number pieces slots)
further_give_nothing pid size from number before [] slots free are hand follows = nothing_of_none pid size before hand
further_give_nothing pid size from number before (piece ∷ pieces) [] free are hand follows =
    nothing_of_none pid size before hand
further_give_nothing pid size from number before (piece ∷ pieces) (slot ∷ slots) free are hand follows =
    nulls_more pid size (slot - from) before
    (packet_of pid number piece ∷ laid pid (slot + 1) (number + 1) pieces slots) free hand
    (λ behind hand_behind counter_behind.
    let told =
    subst (λ (flag : Bool). SaysWhatWasWritten pid flag (number % 16) piece.bytes (packet_of pid number piece))
    are.0.1 (says pid number piece free are.0.0) in
    let first =
    further_gives_nothing pid size (number % 16) behind piece.bytes (packet_of pid number piece) told hand_behind
    (unbroken (last_counter pid behind) number (counter_of (packet_of pid number piece))
    (subst (λ (last : Option ℕ). FollowsOn last number) (sym counter_behind) follows) told.numbered) in
    nothing_more pid size behind (laid pid (slot + 1) (number + 1) pieces slots) (packet_of pid number piece) first
    (further_give_nothing pid size (slot + 1) (number + 1) (behind ++ packet_of pid number piece ∷ []) pieces slots
    free are.1 first.no_hand
    (inr (
      number % 16,
      counter_here pid (number % 16) false behind piece.bytes (packet_of pid number piece) told,
      omega
          arith,
    ))))
