-- What one packet of a stream of cut units brings: its bytes, and the unit of which it carries the last piece.
use Rattle.std.proofs.Common.{◌≡◌, ◌∙◌, ℕ, ◌+◌, ◌%◌, ◌≤◌, Bool, true, false, eqb, cond, List, [], ◌∷◌, ◌++◌, length, Option, Some, None, inl, inr, refl, sym, ap, subst, arith}
use Rattle.std.specs.Option.{option_map}
use Rattle.std.proofs.lemmas.Bool.{ne_eqb, eq-eqb}
use Rattle.stream_syntax.specs.Cutting.{IsUnit}
use Rattle.stream_syntax.specs.TransportPackets.{null_packet, pid_of, counter_of, has_start_flag, payload_of}
use Rattle.stream_syntax.specs.Units.{last_counter, Next, Again, Missing, succession, payload_part, UnitPart, Begins, Adds, Fate, Waits, Whole, fate_of, is_waiting, joined, handed_out, followed, part_after, part_of, hand_after, unit_after, unit_at, payload_event, event_after, event_at, is_loss}
use Rattle.stream_syntax.specs.declared.transport.Event.{Event}
use Rattle.stream_syntax.specs.declared.transport.Event.TheVariants as event
use Rattle.decoder_model.specs.Arrivals.{is_over, ends_too_long}
use Rattle.decoder_model.specs.PacketArrivals.{bytes_of_part, is_break}
use Rattle.decoder_model.proofs.SentUnits.{no_loss_at}
use Rattle.ts_packets.specs.Demuxing.{next_hand}
use Rattle.ts_packets.proofs.AnyCuttingLemmas.{front_waits, unit_is_whole}
use Rattle.ts_packets.proofs.UnitLemmas.{hand_push, counter_push}
use Rattle.ts_packets.proofs.WrittenPackets.{SaysWhatWasWritten}
use Rattle.slot_stream.specs.SlotStream.{Piece, packet_of, IsPiece}
use Rattle.slot_stream.proofs.SentPieces.{IsFree, FollowsOn, says, null_is_no_payload, counter_here}
use Rattle.sent_sets.proofs.LateEntry.{other_part}

-- behind packets, a packet brings so many bytes, of a unit that it begins or continues, and ends this unit or none; it
-- means no loss, and leaves that in hand
pub record Brings (pid coded : ℕ) (before : List (List ℕ)) (packet : List ℕ) (bytes : ℕ)
    (ended hand : Option (List ℕ)) (counter : Option ℕ) : Type 0 where
  pub no_loss : is_loss (event_at pid coded before packet) ≡ false
  pub bytes_are : bytes_of_part (hand_after pid coded before) (part_of pid before packet) ≡ bytes
  pub unit : unit_at pid coded before packet ≡ ended
  pub fits : ends_too_long coded pid before packet ≡ false
  pub hand_behind : hand_after pid coded (before ++ packet ∷ []) ≡ hand
  pub counter_behind : last_counter pid (before ++ packet ∷ []) ≡ counter

-- an event that is no loss breaks no unit off
pub no_break : (event : Event) → is_loss event ≡ false → is_break event ≡ false
no_break event.Followed h = refl
no_break event.Other h = refl
no_break event.NoPayload h = refl
no_break event.Double h = refl
no_break event.Dropped h = refl
no_break (event.Gap expected found) h = h
no_break event.ErrorFlag h = h
no_break (event.Short have) h = h
no_break (event.TooLong need size) h = refl

-- ---- a null packet

no_part_brings : (hand : Option (List ℕ)) (coded : ℕ) → (bytes_of_part hand None ≡ 0)
    × (unit_after coded hand None ≡ None) × (is_over (option_map (fate_of coded) (joined hand None)) ≡ false)
no_part_brings None coded = (refl, refl, refl)
no_part_brings (Some bytes) coded = (refl, refl, refl)

-- a null packet brings nothing, and what is in hand stays
pub null_brings : (pid coded : ℕ) (before : List (List ℕ)) → IsFree pid
    → Brings pid coded before null_packet 0 None (hand_after pid coded before) (last_counter pid before)
null_brings pid coded before free =
    let part = other_part pid before null_packet free.no_null in
    let none = no_part_brings (hand_after pid coded before) coded in
    record {
      no_loss = no_loss_at pid coded before null_packet free.no_null;
      bytes_are = ap (bytes_of_part (hand_after pid coded before)) part ∙ none.0;
      unit = ap (unit_after coded (hand_after pid coded before)) part ∙ none.1;
      fits =
          ap (λ found. is_over (option_map (fate_of coded) (joined (hand_after pid coded before) found))) part
          ∙ none.2;
      hand_behind = hand_push pid coded before null_packet ∙ ap (next_hand coded (hand_after pid coded before)) part;
      counter_behind =
          counter_push pid before null_packet
          ∙ ap (λ payload. cond payload (Some (counter_of null_packet)) (last_counter pid before))
          (null_is_no_payload pid free);
    }

-- ---- the packet of a piece

-- the counter of a piece's packet follows
follows_next : (last : Option ℕ) (number found : ℕ) → FollowsOn last number → found ≡ number % 16
    → succession last found ≡ Next
follows_next last number found (inl none) is = ap (λ before. succession before found) none
follows_next last number found (inr some) is =
    let due : found ≡ (some.0 + 1) % 16 = is ∙ some.2 in
    ap (λ before. succession before found) some.1
    ∙ ap (λ again. cond again Again (cond (eqb found ((some.0 + 1) % 16)) Next (Missing ((some.0 + 1) % 16) found)))
    (ne_eqb found some.0 (λ e. omega arith))
    ∙ ap (λ next. cond next Next (Missing ((some.0 + 1) % 16) found)) (eq-eqb found ((some.0 + 1) % 16) due)

abbrev piece_part : Bool → List ℕ → UnitPart
piece_part true piece = Begins piece
piece_part false piece = Adds piece

next_part : (start : Bool) (piece : List ℕ) → payload_part Next start piece ≡ Some (piece_part start piece)
next_part true piece = refl
next_part false piece = refl

-- what the packet of a piece is behind packets whose counter it follows
record IsNext (pid coded : ℕ) (before : List (List ℕ)) (packet : List ℕ) (start : Bool) (piece : List ℕ)
    (counter : ℕ) : Type 0 where
  part : part_of pid before packet ≡ Some (piece_part start piece)
  event_is : event_at pid coded before packet ≡ payload_event coded (hand_after pid coded before) Next start piece
  counter_behind : last_counter pid (before ++ packet ∷ []) ≡ Some counter

told_next : (pid coded counter : ℕ) (before : List (List ℕ)) (start : Bool) (piece packet : List ℕ)
    → SaysWhatWasWritten pid start counter piece packet
    → succession (last_counter pid before) (counter_of packet) ≡ Next
    → IsNext pid coded before packet start piece counter
unfolding part_after event_after
told_next pid coded counter before start piece packet told next = record {
  part =
      (rw (eq-eqb (pid_of packet) pid told.carries.same_pid, told.carries.sound, told.carries.full) refl)
      ∙ ap (λ order. payload_part order (has_start_flag packet) (payload_of packet)) next
      ∙ ap (λ flag. payload_part Next flag (payload_of packet)) told.carries.begins
      ∙ ap (payload_part Next start) told.carries.payload
      ∙ next_part start piece;
  event_is =
      (rw (eq-eqb (pid_of packet) pid told.carries.same_pid, told.carries.sound, told.carries.full) refl)
      ∙ ap (λ order. payload_event coded (hand_after pid coded before) order (has_start_flag packet)
      (payload_of packet)) next
      ∙ ap (λ flag. payload_event coded (hand_after pid coded before) Next flag (payload_of packet))
      told.carries.begins
      ∙ ap (payload_event coded (hand_after pid coded before) Next start) told.carries.payload;
  counter_behind = counter_here pid counter start before piece packet told;
}

its_next : (pid coded number : ℕ) (before : List (List ℕ)) (piece : Piece) → IsFree pid → IsPiece piece
    → FollowsOn (last_counter pid before) number
    → IsNext pid coded before (packet_of pid number piece) piece.starts piece.bytes (number % 16)
its_next pid coded number before piece free is follows =
    let told = says pid number piece free is in
    told_next pid coded (number % 16) before piece.starts piece.bytes (packet_of pid number piece) told
    (follows_next (last_counter pid before) number (counter_of (packet_of pid number piece)) follows told.numbered)

-- what stands in hand before a piece: nothing before the first one of a unit, and then the unit's front
abbrev pub IsReady : Bool → Option (List ℕ) → List ℕ → Type 0
IsReady true hand front = (hand ≡ None) × (front ≡ [])
IsReady false hand front = hand ≡ Some front

-- what a piece brings, by what becomes of its unit
record Gives (coded : ℕ) (hand : Option (List ℕ)) (start : Bool) (piece : List ℕ)
    (ended behind : Option (List ℕ)) : Type 0 where
  no_loss : is_loss (payload_event coded hand Next start piece) ≡ false
  bytes_are : bytes_of_part hand (Some (piece_part start piece)) ≡ length piece
  unit : unit_after coded hand (Some (piece_part start piece)) ≡ ended
  fits : is_over (option_map (fate_of coded) (joined hand (Some (piece_part start piece)))) ≡ false
  hand_behind : next_hand coded hand (Some (piece_part start piece)) ≡ behind

followed_waits : (coded : ℕ) (fate : Fate) → fate ≡ Waits → is_loss (followed coded fate) ≡ false
followed_waits coded fate e = ap (λ found. is_loss (followed coded found)) e

followed_whole : (coded : ℕ) (unit : List ℕ) (fate : Fate) → fate ≡ Whole unit
    → is_loss (followed coded fate) ≡ false
followed_whole coded unit fate e = ap (λ found. is_loss (followed coded found)) e

waits : (coded : ℕ) (hand : Option (List ℕ)) (start : Bool) (front piece : List ℕ) → IsReady start hand front
    → fate_of coded (front ++ piece) ≡ Waits → Gives coded hand start piece None (Some (front ++ piece))
waits coded None true front piece ready fate =
    let all : fate_of coded piece ≡ Waits = ap (λ begun. fate_of coded (begun ++ piece)) (sym ready.1) ∙ fate in
    record {
      no_loss = followed_waits coded (fate_of coded piece) all;
      bytes_are = refl;
      unit = ap (λ found. handed_out (Some found)) all;
      fits = ap (λ found. is_over (Some found)) all;
      hand_behind =
          ap (λ found. cond (is_waiting found) (Some piece) None) all
          ∙ ap (λ begun. Some (begun ++ piece)) (sym ready.1);
    }
waits coded (Some bytes) true front piece ready fate = absurd (cc)
waits coded hand false front piece ready fate =
    subst (λ (found : Option (List ℕ)). Gives coded found false piece None (Some (front ++ piece))) (sym ready)
    (record {
      no_loss = followed_waits coded (fate_of coded (front ++ piece)) fate;
      bytes_are = refl;
      unit = ap (λ found. handed_out (Some found)) fate;
      fits = ap (λ found. is_over (Some found)) fate;
      hand_behind = ap (λ found. cond (is_waiting found) (Some (front ++ piece)) None) fate;
    })

ends : (coded : ℕ) (hand : Option (List ℕ)) (start : Bool) (front piece : List ℕ) → IsReady start hand front
    → fate_of coded (front ++ piece) ≡ Whole (front ++ piece)
    → Gives coded hand start piece (Some (front ++ piece)) None
ends coded None true front piece ready fate =
    let all : fate_of coded piece ≡ Whole piece =
    ap (λ begun. fate_of coded (begun ++ piece)) (sym ready.1) ∙ fate
    ∙ ap (λ begun. Whole (begun ++ piece)) ready.1 in
    record {
      no_loss = followed_whole coded piece (fate_of coded piece) all;
      bytes_are = refl;
      unit = ap (λ found. handed_out (Some found)) all ∙ ap (λ begun. Some (begun ++ piece)) (sym ready.1);
      fits = ap (λ found. is_over (Some found)) all;
      hand_behind = ap (λ found. cond (is_waiting found) (Some piece) None) all;
    }
ends coded (Some bytes) true front piece ready fate = absurd (cc)
ends coded hand false front piece ready fate =
    subst (λ (found : Option (List ℕ)). Gives coded found false piece (Some (front ++ piece)) None) (sym ready)
    (record {
      no_loss = followed_whole coded (front ++ piece) (fate_of coded (front ++ piece)) fate;
      bytes_are = refl;
      unit = ap (λ found. handed_out (Some found)) fate;
      fits = ap (λ found. is_over (Some found)) fate;
      hand_behind = ap (λ found. cond (is_waiting found) (Some (front ++ piece)) None) fate;
    })

brings_by : (pid coded counter : ℕ) (before : List (List ℕ)) (packet : List ℕ) (start : Bool) (piece : List ℕ)
    (ended hand : Option (List ℕ)) → IsNext pid coded before packet start piece counter
    → Gives coded (hand_after pid coded before) start piece ended hand
    → Brings pid coded before packet (length piece) ended hand (Some counter)
brings_by pid coded counter before packet start piece ended hand next gives = record {
  no_loss = ap is_loss next.event_is ∙ gives.no_loss;
  bytes_are = ap (bytes_of_part (hand_after pid coded before)) next.part ∙ gives.bytes_are;
  unit = ap (unit_after coded (hand_after pid coded before)) next.part ∙ gives.unit;
  fits =
      ap (λ found. is_over (option_map (fate_of coded) (joined (hand_after pid coded before) found))) next.part
      ∙ gives.fits;
  hand_behind =
      hand_push pid coded before packet ∙ ap (next_hand coded (hand_after pid coded before)) next.part
      ∙ gives.hand_behind;
  counter_behind = next.counter_behind;
}

-- the packet of a piece that is not its unit's last brings its bytes, and the unit's front stays in hand
pub piece_brings : (pid coded number : ℕ) (before : List (List ℕ)) (piece : Piece) (front rest : List ℕ)
    → IsFree pid → IsPiece piece → FollowsOn (last_counter pid before) number
    → IsReady piece.starts (hand_after pid coded before) front → IsUnit coded ((front ++ piece.bytes) ++ rest)
    → 1 ≤ length rest
    → Brings pid coded before (packet_of pid number piece) (length piece.bytes) None (Some (front ++ piece.bytes))
    (Some (number % 16))
piece_brings pid coded number before piece front rest free is follows ready unit more =
    brings_by pid coded (number % 16) before (packet_of pid number piece) piece.starts piece.bytes None
    (Some (front ++ piece.bytes)) (its_next pid coded number before piece free is follows)
    (waits coded (hand_after pid coded before) piece.starts front piece.bytes ready
    (front_waits coded (front ++ piece.bytes) rest unit more))

-- the packet of its last piece brings its bytes and ends the unit, and nothing stays in hand
pub last_brings : (pid coded number : ℕ) (before : List (List ℕ)) (piece : Piece) (front : List ℕ)
    → IsFree pid → IsPiece piece → FollowsOn (last_counter pid before) number
    → IsReady piece.starts (hand_after pid coded before) front → IsUnit coded (front ++ piece.bytes)
    → Brings pid coded before (packet_of pid number piece) (length piece.bytes) (Some (front ++ piece.bytes)) None
    (Some (number % 16))
last_brings pid coded number before piece front free is follows ready unit =
    brings_by pid coded (number % 16) before (packet_of pid number piece) piece.starts piece.bytes
    (Some (front ++ piece.bytes)) None (its_next pid coded number before piece free is follows)
    (ends coded (hand_after pid coded before) piece.starts front piece.bytes ready
    (unit_is_whole coded (front ++ piece.bytes) unit))

-- the packet of a piece whose unit was not begun brings nothing
pub further_brings : (pid coded number : ℕ) (before : List (List ℕ)) (piece : Piece) → IsFree pid
    → IsPiece piece → piece.starts ≡ false → FollowsOn (last_counter pid before) number
    → hand_after pid coded before ≡ None
    → Brings pid coded before (packet_of pid number piece) 0 None None (Some (number % 16))
further_brings pid coded number before piece free is further follows hand =
    let next =
    subst (λ (flag : Bool). IsNext pid coded before (packet_of pid number piece) flag piece.bytes (number % 16))
    further (its_next pid coded number before piece free is follows) in
    record {
      no_loss =
          ap is_loss next.event_is ∙ ap (λ found. is_loss (payload_event coded found Next false piece.bytes)) hand;
      bytes_are =
          ap (bytes_of_part (hand_after pid coded before)) next.part
          ∙ ap (λ found. bytes_of_part found (Some (Adds piece.bytes))) hand;
      unit =
          ap (unit_after coded (hand_after pid coded before)) next.part
          ∙ ap (λ found. unit_after coded found (Some (Adds piece.bytes))) hand;
      fits =
          ap (λ found. is_over (option_map (fate_of coded) (joined (hand_after pid coded before) found))) next.part
          ∙ ap (λ found. is_over (option_map (fate_of coded) (joined found (Some (Adds piece.bytes))))) hand;
      hand_behind =
          hand_push pid coded before (packet_of pid number piece)
          ∙ ap (next_hand coded (hand_after pid coded before)) next.part
          ∙ ap (λ found. next_hand coded found (Some (Adds piece.bytes))) hand;
      counter_behind = next.counter_behind;
    }
