-- What arrives of a stream of which some packets are lost: by the pieces whose packets come, one after another.
use Rattle.std.proofs.Common.{◌≡◌, ◌≢◌, ◌∙◌, ℕ, zero, suc, ◌+◌, ◌-◌, ◌%◌, Bool, true, false, cond, List, [], ◌∷◌, ◌++◌, length, map, replicate, Option, Some, None, refl, sym, ap, subst, arith, append_assoc}
use Rattle.std.specs.Prelude.{flat_map, filter}
use Rattle.std.specs.Bool.{if◌then◌else◌}
use Rattle.std.specs.List.{AllByRecursion}
use Rattle.std.proofs.lemmas.List.{map-append, length-append}
use Rattle.std.proofs.lemmas.List.Elements.{filter-append}
use Rattle.std.proofs.lemmas.Bool.{eq-eqb}
use Rattle.stream_syntax.specs.TransportPackets.{null_packet, pid_of, counter_of}
use Rattle.stream_syntax.specs.Units.{is_payload, last_counter, succession, payload_part, part_after, part_of, hand_after, unit_after, unit_at, payload_event, event_after, event_at, each_after}
use Rattle.decoder_model.specs.declared.pages.Pages.{Pages}
use Rattle.decoder_model.specs.Arrivals.{Arrival, loss, losses_at, units_at, arrivals_at}
use Rattle.decoder_model.specs.Streams.{Sending, received_of, is_received_at}
use Rattle.decoder_model.proofs.SentUnits.{no_loss_at}
use Rattle.ts_packets.specs.Demuxing.{next_hand}
use Rattle.ts_packets.proofs.UnitLemmas.{hand_push, counter_push}
use Rattle.ts_packets.proofs.WrittenPackets.{SaysWhatWasWritten}
use Rattle.slot_stream.specs.SlotStream.{Piece, packet_of, IsPiece}
use Rattle.slot_stream.proofs.LaidPackets.{laid, IsAhead}
use Rattle.slot_stream.proofs.SentPieces.{IsFree, says, null_is_no_payload, counter_here}
use Rattle.sent_sets.proofs.LateEntry.{other_part}
use Rattle.sent_sets.proofs.SlotPlaces.{sooner}

-- ---- a packet

its_part : (pid counter : ℕ) (start : Bool) (before : List (List ℕ)) (piece packet : List ℕ)
    → SaysWhatWasWritten pid start counter piece packet
    → part_of pid before packet ≡ payload_part (succession (last_counter pid before) counter) start piece
unfolding part_after
its_part pid counter start before piece packet told =
    rw (
      eq-eqb (pid_of packet) pid
          told.carries.same_pid,
      told.carries.sound,
      told.carries.full,
      told.carries.begins,
      told.carries.payload,
      told.numbered,
    ) refl

its_event : (pid size counter : ℕ) (start : Bool) (before : List (List ℕ)) (piece packet : List ℕ)
    → SaysWhatWasWritten pid start counter piece packet
    → event_at pid size before packet
    ≡ payload_event size (hand_after pid size before) (succession (last_counter pid before) counter) start piece
unfolding event_after
its_event pid size counter start before piece packet told =
    rw (
      eq-eqb (pid_of packet) pid
          told.carries.same_pid,
      told.carries.sound,
      told.carries.full,
      told.carries.begins,
      told.carries.payload,
      told.numbered,
    ) refl

-- ---- packets

-- what arrives with packets behind others
abbrev pub flow : ℕ → ℕ → Pages → List (List ℕ) → List (List ℕ) → List Arrival
flow size pid pages before packets =
    flat_map (λ (arrivals : List Arrival). arrivals) (each_after (arrivals_at size pid pages) before packets)

-- what arrives with pieces of which some come, behind packets of which the last counter and the unit in hand are these
pub data Walk (size : ℕ) (pages : Pages) : Option ℕ → Option (List ℕ) → ℕ → List Piece → List Bool
    → List Arrival → Type 0 where
  no_piece_left : {last : Option ℕ} {hand : Option (List ℕ)} {number : ℕ}
      → Walk size pages last hand number [] [] []
  passes_by : {last : Option ℕ} {hand : Option (List ℕ)} {number : ℕ} {piece : Piece} {pieces : List
      Piece} {come : List Bool} {arrivals : List Arrival}
      → Walk size pages last hand (number + 1) pieces come arrivals
      → Walk size pages last hand number (piece ∷ pieces) (false ∷ come) arrivals
  comes_in : {last : Option ℕ} {hand : Option (List ℕ)} {number : ℕ} {piece : Piece} {pieces : List
      Piece} {come : List Bool} {arrivals : List Arrival} (place : ℕ)
      → Walk size pages (Some (number % 16))
      (next_hand size hand (payload_part (succession last (number % 16)) piece.starts piece.bytes)) (number + 1)
      pieces come arrivals
      → Walk size pages last hand number (piece ∷ pieces) (true ∷ come)
      ((losses_at (payload_event size hand (succession last (number % 16)) piece.starts piece.bytes)
      ++ units_at pages place
      (unit_after size hand (payload_part (succession last (number % 16)) piece.starts piece.bytes))) ++ arrivals)

-- so it is behind any packets with that counter and that unit in hand
abbrev Behind : (pid size : ℕ) (pages : Pages) (number : ℕ) (pieces : List Piece) (come : List Bool)
    (before packets : List (List ℕ)) → Type 0
Behind pid size pages number pieces come before packets =
    (behind : List (List ℕ)) → last_counter pid behind ≡ last_counter pid before
    → hand_after pid size behind ≡ hand_after pid size before
    → Walk size pages (last_counter pid before) (hand_after pid size before) number pieces come
    (flow size pid pages behind packets)

-- null packets bring nothing and change nothing
behind_nulls : (pid size : ℕ) (pages : Pages) (number : ℕ) (pieces : List Piece) (come : List Bool)
    (nulls : List Sending) (before packets : List (List ℕ)) → IsFree pid
    → AllByRecursion (λ (sending : Sending). sending.packet ≡ null_packet) nulls
    → Behind pid size pages number pieces come before packets
    → Walk size pages (last_counter pid before) (hand_after pid size before) number pieces come
    (flow size pid pages before (received_of nulls ++ packets))
behind_nulls pid size pages number pieces come [] before packets free are rest = rest before refl refl
behind_nulls pid size pages number pieces come (sending ∷ nulls) before packets free are rest =
    by sending.received refl
    (λ start h. behind_nulls pid size pages number pieces come nulls start packets free are.1 h)
  where
    behind : List (List ℕ)
    behind = before ++ sending.packet ∷ []

    no_payload : is_payload pid sending.packet ≡ false
    no_payload = ap (is_payload pid) are.0 ∙ null_is_no_payload pid free

    apart : pid_of sending.packet ≢ pid
    apart e = free.no_null (ap pid_of (sym are.0) ∙ e)

    same_counter : last_counter pid behind ≡ last_counter pid before
    same_counter =
        counter_push pid before sending.packet
        ∙ ap (λ payload. cond payload (Some (counter_of sending.packet)) (last_counter pid before)) no_payload

    no_part : part_of pid before sending.packet ≡ None
    no_part = other_part pid before sending.packet apart

    same_hand : hand_after pid size behind ≡ hand_after pid size before
    same_hand = hand_push pid size before sending.packet ∙ ap (next_hand size (hand_after pid size before)) no_part

    nothing : arrivals_at size pid pages before sending.packet ≡ []
    nothing =
        ap (λ lost. (if lost then loss ∷ [] else [])
        ++ units_at pages (length before) (unit_at pid size before sending.packet))
        (no_loss_at pid size before sending.packet apart)
        ∙ ap (λ part. units_at pages (length before) (unit_after size (hand_after pid size before) part)) no_part

    Walked : List Sending → Type 0
    Walked all =
        Walk size pages (last_counter pid before) (hand_after pid size before) number pieces come
        (flow size pid pages before (received_of all ++ packets))

    by : (received : Bool) → sending.received ≡ received
        → ((start : List (List ℕ)) → Behind pid size pages number pieces come start packets
        → Walk size pages (last_counter pid start) (hand_after pid size start) number pieces come
        (flow size pid pages start (received_of nulls ++ packets)))
        → Walked (sending ∷ nulls)
    by false is onward =
        subst (λ (come_in : Bool). Walk size pages (last_counter pid before) (hand_after pid size before) number pieces
        come (flow size pid pages before
        (map (λ (one : Sending). one.packet)
        (cond come_in (sending ∷ filter (λ (one : Sending). one.received) nulls)
        (filter (λ (one : Sending). one.received) nulls)) ++ packets)))
        (sym is) (onward before rest)
    by true is onward =
        let more : Walk size pages (last_counter pid behind) (hand_after pid size behind) number pieces come
        (flow size pid pages behind (received_of nulls ++ packets)) =
        onward behind
        (λ further counter hand. subst
        (λ (last : Option ℕ). Walk size pages last (hand_after pid size behind) number pieces come
        (flow size pid pages further packets)) (sym same_counter)
        (subst (λ (kept : Option (List ℕ)). Walk size pages (last_counter pid before) kept number pieces come
        (flow size pid pages further packets)) (sym same_hand)
        (rest further (counter ∙ same_counter) (hand ∙ same_hand)))) in
        subst (λ (come_in : Bool). Walk size pages (last_counter pid before) (hand_after pid size before) number pieces
        come (flow size pid pages before
        (map (λ (one : Sending). one.packet)
        (cond come_in (sending ∷ filter (λ (one : Sending). one.received) nulls)
        (filter (λ (one : Sending). one.received) nulls)) ++ packets)))
        (sym is)
        (subst (λ (front : List Arrival). Walk size pages (last_counter pid before) (hand_after pid size before) number
        pieces come (front ++ flow size pid pages behind (received_of nulls ++ packets))) (sym nothing)
        (subst (λ (last : Option ℕ). Walk size pages last (hand_after pid size before) number pieces come
        (flow size pid pages behind (received_of nulls ++ packets))) same_counter
        (subst (λ (kept : Option (List ℕ)). Walk size pages (last_counter pid behind) kept number pieces come
        (flow size pid pages behind (received_of nulls ++ packets))) same_hand more)))

-- a piece's packet brings what its part is, by the counter before it and the unit in hand
come_in : (pid size : ℕ) (pages : Pages) (number : ℕ) (piece : Piece) (pieces : List Piece) (come : List Bool)
    (behind rest : List (List ℕ)) (packet : List ℕ) (last : Option ℕ) (hand : Option (List ℕ))
    → SaysWhatWasWritten pid piece.starts (number % 16) piece.bytes packet
    → last_counter pid behind ≡ last → hand_after pid size behind ≡ hand
    → ((start : List (List ℕ))
    → Walk size pages (last_counter pid start) (hand_after pid size start) (number + 1) pieces come
    (flow size pid pages start rest))
    → Walk size pages last hand number (piece ∷ pieces) (true ∷ come)
    (flow size pid pages behind (packet ∷ rest))
come_in pid size pages number piece pieces come behind rest packet last hand told counter kept onward =
    let part : part_of pid behind packet ≡ payload_part (succession last (number % 16)) piece.starts piece.bytes =
    its_part pid (number % 16) piece.starts behind piece.bytes packet told
    ∙ ap (λ before. payload_part (succession before (number % 16)) piece.starts piece.bytes) counter in
    let event : event_at pid size behind packet
    ≡ payload_event size hand (succession last (number % 16)) piece.starts piece.bytes =
    its_event pid size (number % 16) piece.starts behind piece.bytes packet told
    ∙ (λ i. payload_event size (kept i) (succession (counter i) (number % 16)) piece.starts piece.bytes) in
    let front : arrivals_at size pid pages behind packet
    ≡ losses_at (payload_event size hand (succession last (number % 16)) piece.starts piece.bytes)
    ++ units_at pages (length behind)
    (unit_after size hand (payload_part (succession last (number % 16)) piece.starts piece.bytes)) =
    (λ i. losses_at (event i) ++ units_at pages (length behind) (unit_after size (kept i) (part i))) in
    let next : hand_after pid size (behind ++ packet ∷ [])
    ≡ next_hand size hand (payload_part (succession last (number % 16)) piece.starts piece.bytes) = hand_push pid
    size behind packet ∙ (λ i. next_hand size (kept i) (part i)) in
    subst (λ (first : List Arrival). Walk size pages last hand number (piece ∷ pieces) (true ∷ come)
    (first ++ flow size pid pages (behind ++ packet ∷ []) rest)) (sym front)
    (comes_in (length behind)
    (subst (λ (before : Option ℕ). Walk size pages before
    (next_hand size hand (payload_part (succession last (number % 16)) piece.starts piece.bytes)) (number + 1)
    pieces come (flow size pid pages (behind ++ packet ∷ []) rest))
    (counter_here pid (number % 16) piece.starts behind piece.bytes packet told)
    (subst (λ (now : Option (List ℕ)). Walk size pages (last_counter pid (behind ++ packet ∷ [])) now (number + 1)
    pieces come (flow size pid pages (behind ++ packet ∷ []) rest)) next (onward (behind ++ packet ∷ [])))))

-- ---- a stream

-- of a list of sendings whose packets begin with null packets and one more, these, that one and the rest
pub record IsParted (sendings : List Sending) (count : ℕ) (packet : List ℕ)
    (packets : List (List ℕ)) : Type 0 where
  pub nulls : List Sending
  pub one : Sending
  pub rest : List Sending
  pub are : sendings ≡ nulls ++ one ∷ rest
  pub many : length nulls ≡ count
  pub all_null : AllByRecursion (λ (sending : Sending). sending.packet ≡ null_packet) nulls
  pub is : one.packet ≡ packet
  pub others : packets ≡ map (λ (sending : Sending). sending.packet) rest

pub parted : (sendings : List Sending) (count : ℕ) (packet : List ℕ) (packets : List (List ℕ))
    → replicate count null_packet ++ packet ∷ packets ≡ map (λ (sending : Sending). sending.packet) sendings
    → IsParted sendings count packet packets
parted [] zero packet packets e = absurd (omega (arith, ap length e))
parted [] (suc count) packet packets e = absurd (omega (arith, ap length e))
parted (sending ∷ sendings) zero packet packets e =
    let head : packet ≡ sending.packet = cc in
    let tail : packets ≡ map (λ (sending : Sending). sending.packet) sendings = cc in
    record {
      nulls = [];
      one = sending;
      rest = sendings;
      are = refl;
      many = refl;
      all_null = tt;
      is = sym head;
      others = tail;
    }
parted (sending ∷ sendings) (suc count) packet packets e =
    let head : null_packet ≡ sending.packet = cc in
    let tail : replicate count null_packet ++ packet
    ∷ packets ≡ map (λ (sending : Sending). sending.packet) sendings = cc in
    let more = parted sendings count packet packets tail in
    record {
      nulls = sending
          ∷ more.nulls;
      one = more.one;
      rest = more.rest;
      are = ap
          (λ all. sending ∷ all) {y = more.nulls ++ more.one ∷ more.rest} more.are;
      many = ap suc more.many;
      all_null = (sym head, more.all_null);
      is = more.is;
      others = more.others;
    }

-- for each slot, from one on, whether its packet is received
abbrev pub there_at : List Sending → ℕ → List ℕ → List Bool
there_at sendings from [] = []
there_at sendings from (slot ∷ slots) = is_received_at sendings (slot - from) ∷ there_at sendings from slots

-- behind a prefix it is as in the rest
there_behind : (front rest : List Sending) (k : ℕ)
    → is_received_at (front ++ rest) (length front + k) ≡ is_received_at rest k
there_behind [] rest k = let same : 0 + k ≡ k = omega arith in ap (is_received_at rest) same
there_behind (first ∷ front) rest k =
    let same : suc (length front) + k
    ≡ suc (length front + k) = omega arith in ap (is_received_at (first ∷ (front ++ rest))) same
    ∙ there_behind front rest k

there_after : (front rest : List Sending) (from next : ℕ) (slots : List ℕ) → from + length front ≡ next
    → IsAhead next slots → there_at (front ++ rest) from slots ≡ there_at rest next slots
there_after front rest from next [] e ahead = refl
there_after front rest from next (slot ∷ slots) e ahead =
    let first = ahead.0 in
    let split : slot - from ≡ length front + (slot - next) = omega arith in
    ap (λ b. b ∷ there_at (front ++ rest) from slots)
    (ap (is_received_at (front ++ rest)) split ∙ there_behind front rest (slot - next))
    ∙ ap (λ more. is_received_at rest (slot - next) ∷ more)
    (there_after front rest from next slots e (sooner next (slot + 1) slots (omega arith) ahead.1))

received-append : (xs ys : List Sending) → received_of (xs ++ ys) ≡ received_of xs ++ received_of ys
received-append xs ys =
    ap (map (λ (sending : Sending). sending.packet)) (filter-append (λ (sending : Sending). sending.received) xs ys)
    ∙ map-append (λ (sending : Sending). sending.packet) (filter (λ (sending : Sending). sending.received) xs)
    (filter (λ (sending : Sending). sending.received) ys)

-- the first slot's packet and the others
pub there_parts : (from slot : ℕ) (slots : List ℕ) (sendings : List Sending) (packet : List ℕ)
    (packets : List (List ℕ)) (parts : IsParted sendings (slot - from) packet packets)
    → IsAhead from (slot ∷ slots)
    → there_at sendings from (slot ∷ slots) ≡ parts.one.received ∷ there_at parts.rest (slot + 1) slots
there_parts from slot slots sendings packet packets parts ahead =
    let least = ahead.0 in
    let whole : sendings ≡ (parts.nulls ++ parts.one ∷ []) ++ parts.rest =
    parts.are ∙ sym (append_assoc parts.nulls (parts.one ∷ []) parts.rest) in
    let count : from + length (parts.nulls ++ parts.one ∷ []) ≡ slot + 1 =
    omega (arith, length-append parts.nulls (parts.one ∷ []), parts.many, least) in
    let at_slot : slot - from ≡ length parts.nulls + 0 = omega (arith, parts.many) in
    ap (λ b. b ∷ there_at sendings from slots)
    (ap (λ all. is_received_at all (slot - from)) parts.are
    ∙ ap (is_received_at (parts.nulls ++ parts.one ∷ parts.rest)) at_slot
    ∙ there_behind parts.nulls (parts.one ∷ parts.rest) 0)
    ∙ ap (λ more. parts.one.received ∷ more)
    (ap (λ all. there_at all from slots) whole
    ∙ there_after (parts.nulls ++ parts.one ∷ []) parts.rest from (slot + 1) slots count ahead.1)

-- what arrives of a stream is what its pieces bring
pub walked : (pid size : ℕ) (pages : Pages) (from number : ℕ) (pieces : List Piece) (slots : List ℕ)
    (sendings : List Sending) (before : List (List ℕ)) → IsFree pid → AllByRecursion IsPiece pieces
    → length pieces ≡ length slots → IsAhead from slots
    → laid pid from number pieces slots ≡ map (λ (sending : Sending). sending.packet) sendings
    → Walk size pages (last_counter pid before) (hand_after pid size before) number pieces
    (there_at sendings from slots) (flow size pid pages before (received_of sendings))
walked pid size pages from number [] [] [] before free are same ahead e = no_piece_left
walked pid size pages from number [] [] (sending ∷ sendings) before free are same ahead e =
    absurd (omega (arith, ap length e))
walked pid size pages from number [] (slot ∷ slots) sendings before free are same ahead e = absurd (omega arith)
walked pid size pages from number (piece ∷ pieces) [] sendings before free are same ahead e = absurd (omega arith)
walked pid size pages from number (piece ∷ pieces) (slot ∷ slots) sendings before free are same ahead e =
    let parts =
    parted sendings (slot - from) (packet_of pid number piece) (laid pid (slot + 1) (number + 1) pieces slots) e in
    by parts (λ start. walked pid size pages (slot + 1) (number + 1) pieces slots parts.rest start free are.1
    (omega arith) ahead.1 parts.others)
  where
    Walked : List Bool → List Sending → Type 0
    Walked come all =
        Walk size pages (last_counter pid before) (hand_after pid size before) number (piece ∷ pieces) come
        (flow size pid pages before (received_of all))

    by : (parts : IsParted sendings (slot - from) (packet_of pid number piece)
        (laid pid (slot + 1) (number + 1) pieces slots))
        → ((start : List (List ℕ))
        → Walk size pages (last_counter pid start) (hand_after pid size start) (number + 1) pieces
        (there_at parts.rest (slot + 1) slots) (flow size pid pages start (received_of parts.rest)))
        → Walked (there_at sendings from (slot ∷ slots)) sendings
    by parts onward =
        subst (λ (come : List Bool). Walked come sendings) (sym flags)
        (subst (Walked (parts.one.received ∷ there_at parts.rest (slot + 1) slots)) (sym parts.are)
        (subst (λ (packets : List (List ℕ)). Walk size pages (last_counter pid before) (hand_after pid size before)
        number (piece ∷ pieces) (parts.one.received ∷ there_at parts.rest (slot + 1) slots)
        (flow size pid pages before packets)) (sym (received-append parts.nulls (parts.one ∷ parts.rest)))
        (behind_nulls pid size pages number (piece ∷ pieces)
        (parts.one.received ∷ there_at parts.rest (slot + 1) slots) parts.nulls before
        (received_of (parts.one ∷ parts.rest)) free parts.all_null
        (λ behind counter hand. here parts.one.received refl behind counter hand))))
      where
        flags : there_at sendings from (slot ∷ slots) ≡ parts.one.received ∷ there_at parts.rest (slot + 1) slots
        flags =
            there_parts from slot slots sendings (packet_of pid number piece)
            (laid pid (slot + 1) (number + 1) pieces slots) parts ahead

        Here : Bool → List (List ℕ) → Type 0
        Here come packets =
            Walk size pages (last_counter pid before) (hand_after pid size before) number (piece ∷ pieces)
            (come ∷ there_at parts.rest (slot + 1) slots) (flow size pid pages packets
            (map (λ (one : Sending). one.packet)
            (cond come (parts.one ∷ filter (λ (one : Sending). one.received) parts.rest)
            (filter (λ (one : Sending). one.received) parts.rest))))

        here : (come : Bool) → parts.one.received ≡ come → (behind : List (List ℕ))
            → last_counter pid behind ≡ last_counter pid before
            → hand_after pid size behind ≡ hand_after pid size before → Here parts.one.received behind
        here true is behind counter hand =
            subst (λ (come : Bool). Here come behind) (sym is)
            (come_in pid size pages number piece pieces (there_at parts.rest (slot + 1) slots) behind
            (received_of parts.rest) parts.one.packet (last_counter pid before) (hand_after pid size before)
            (subst (SaysWhatWasWritten pid piece.starts (number % 16) piece.bytes) (sym parts.is)
            (says pid number piece free are.0)) counter hand onward)
        here false is behind counter hand =
            subst (λ (come : Bool). Here come behind) (sym is)
            (passes_by
            (subst (λ (last : Option ℕ). Walk size pages last (hand_after pid size before) (number + 1) pieces
            (there_at parts.rest (slot + 1) slots) (flow size pid pages behind (received_of parts.rest))) counter
            (subst (λ (kept : Option (List ℕ)). Walk size pages (last_counter pid behind) kept (number + 1) pieces
            (there_at parts.rest (slot + 1) slots) (flow size pid pages behind (received_of parts.rest))) hand
            (onward behind))))
