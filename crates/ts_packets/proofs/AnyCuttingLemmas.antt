-- A unit comes out whole however it is cut into packets.
use Rattle.std.proofs.Common.{◌≡◌, ◌≢◌, ℕ, suc, ◌+◌, ◌-◌, ◌%◌, ◌<◌, ◌≤◌, Bool, true, false, cond, ◌||◌, not, nat_eq, nat_lt, List, [], ◌∷◌, ◌++◌, length, drop, replicate, Option, Some, None, refl, sym, ap, subst, ◌∙◌, inl, inr, arith, append_assoc, eq-eqb}
use Rattle.std.specs.List.{concat, AllByRecursion}
use Rattle.std.specs.Option.{option_map}
use Rattle.std.proofs.lemmas.Bool.{cases_lt, le-ltb, lt-ltb, ne_eqb}
use Rattle.std.proofs.lemmas.List.{append-nil, length-append, take_all}
use Rattle.byteorder.specs.Endian.{big_number}
use Rattle.stream_syntax.specs.TransportPackets.{pid_of, has_error_flag, has_payload, has_start_flag, counter_of, payload_of}
use Rattle.stream_syntax.specs.Units.{is_payload, last_counter, Succession, Next, Again, Missing, succession, payload_part, is_unbounded, UnitPart, Begins, Adds, Fate, Waits, Whole, fate_of, part_after, part_of, hand_after, is_waiting, joined, handed_out, unit_after, unit_at, followed, payload_event, event_after, is_loss}
use Rattle.stream_syntax.specs.Cutting.{IsUnit, CarriesPiece, IsBetween, HasCounter, IsCut, units_behind, AnyCutting, IsUnbroken, IsGapless, events_behind, NothingLost}
use Rattle.ts_packets.specs.Demuxing.{kept, next_hand}
use Rattle.ts_packets.proofs.UnitLemmas.{hand_push, counter_push}
use Rattle.stream_syntax.specs.Pes.{need_of}

-- ---- what becomes of the prefixes of a unit

same_head : (front rest : List ℕ) → 6 ≤ length front → (big_number 3 (front ++ rest) ≡ big_number 3 front)
    × (need_of (front ++ rest) ≡ need_of front)
same_head (a ∷ b ∷ c ∷ d ∷ e ∷ f ∷ front) rest long = (refl, refl)
same_head front rest long = absurd (omega arith)

waits_short : (size : ℕ) (bytes : List ℕ) → length bytes < 6 → fate_of size bytes ≡ Waits
unfolding fate_of
waits_short size bytes short = rw (lt-ltb (length bytes) 6 short) refl

both_tests : (a b : Bool) → a ≡ false → b ≡ false → (a || b) ≡ false
both_tests true b e f = absurd cc
both_tests false b e f = f

-- a unit with the start code prefix and a length
is_bounded : (bytes : List ℕ) → big_number 3 bytes ≡ 1 → 6 < need_of bytes → is_unbounded bytes ≡ false
is_bounded bytes prefix bounded =
    both_tests _ _ (ap not (eq-eqb (big_number 3 bytes) 1 prefix))
    (ne_eqb (big_number 2 (drop 4 bytes)) 0 (λ zero. omega arith))

-- the four tests of a unit, in order
fourth : (a b c d : Bool) (u v w x y : Fate) → a ≡ false → b ≡ false → c ≡ false → d ≡ true
    → cond a u (cond b v (cond c w (cond d x y))) ≡ x
fourth a b c d u v w x y ea eb ec ed = rw (ea, eb, ec, ed) refl

none : (a b c d : Bool) (u v w x y : Fate) → a ≡ false → b ≡ false → c ≡ false → d ≡ false
    → cond a u (cond b v (cond c w (cond d x y))) ≡ y
none a b c d u v w x y ea eb ec ed = rw (ea, eb, ec, ed) refl

waits_long : (size : ℕ) (bytes : List ℕ) → 6 ≤ length bytes → big_number 3 bytes ≡ 1 → 6 < need_of bytes
    → need_of bytes ≤ size → length bytes < need_of bytes → fate_of size bytes ≡ Waits
unfolding fate_of
waits_long size bytes long prefix bounded fits short =
    fourth (nat_lt (length bytes) 6) (is_unbounded bytes) (nat_lt size (need_of bytes))
    (nat_lt (length bytes) (need_of bytes)) _ _ _ _ _
    (le-ltb (length bytes) 6 long) (is_bounded bytes prefix bounded) (le-ltb size (need_of bytes) fits)
    (lt-ltb (length bytes) (need_of bytes) short)

pub front_waits : (size : ℕ) (front rest : List ℕ) → IsUnit size (front ++ rest) → 1 ≤ length rest
    → fate_of size front ≡ Waits
front_waits size front rest unit more =
    let lengths = length-append front rest in
    elim (cases_lt (length front) 6) [
      | inl short ↦ waits_short size front short
      | inr long ↦
          let head = same_head front rest long in
          let need : need_of front ≡ length (front ++ rest) = sym head.1 ∙ unit.whole in
          waits_long size front long (sym head.0 ∙ unit.prefix) (omega (arith, unit.bounded))
          (omega (arith, unit.fits)) (omega arith)
    ]

pub unit_is_whole : (size : ℕ) (unit : List ℕ) → IsUnit size unit → fate_of size unit ≡ Whole unit
unfolding fate_of
unit_is_whole size unit is =
    none (nat_lt (length unit) 6) (is_unbounded unit) (nat_lt size (need_of unit)) (nat_lt (length unit) (need_of unit))
    _ _ _ _ _
    (le-ltb (length unit) 6 (omega (arith, is.bounded)))
    (is_bounded unit is.prefix (omega (arith, is.bounded, is.whole)))
    (le-ltb size (need_of unit) (omega (arith, is.fits, is.whole)))
    (le-ltb (length unit) (need_of unit) (omega (arith, is.whole)))
    ∙ ap (λ bytes. Whole bytes) (take_all (need_of unit) unit (omega (arith, is.whole)))

-- ---- what becomes of a packet

payload_packet : (pid : ℕ) (last : Option ℕ) (packet : List ℕ) → pid_of packet ≡ pid
    → has_error_flag packet ≡ false → has_payload packet ≡ true
    → (part_after pid last packet
    ≡ payload_part (succession last (counter_of packet)) (has_start_flag packet) (payload_of packet))
    × (is_payload pid packet ≡ true)
unfolding part_after
payload_packet pid last packet same sound full =
    let tested : nat_eq (pid_of packet) pid ≡ true = eq-eqb (pid_of packet) pid same in
    (rw (tested, sound, full) refl, rw (tested, sound, full) refl)

again : (counter : ℕ) → succession (Some counter) counter ≡ Again
again counter = rw (eq-eqb counter counter refl) refl

other_part : (pid : ℕ) (last : Option ℕ) (packet : List ℕ) → IsBetween pid last packet
    → (part_after pid last packet ≡ None) × (cond (is_payload pid packet) (Some (counter_of packet)) last ≡ last)
unfolding part_after
other_part pid last packet (inl other) =
    let tested : nat_eq (pid_of packet) pid ≡ false = ne_eqb (pid_of packet) pid other in
    (rw tested refl, rw tested refl)
other_part pid last packet (inr (inl empty)) =
    let tested : nat_eq (pid_of packet) pid ≡ true = eq-eqb (pid_of packet) pid empty.0 in
    let sound : has_error_flag packet ≡ false = empty.1 in
    let bare : has_payload packet ≡ false = empty.2 in
    (rw (tested, sound, bare) refl, rw (tested, sound, bare) refl)
other_part pid last packet (inr (inr double)) =
    let told = payload_packet pid last packet double.0 double.1 double.2 in (
      told.0 ∙ ap
          (λ before. payload_part (succession before (counter_of packet)) (has_start_flag packet) (payload_of packet))
          double.3
          ∙ ap (λ order. payload_part order (has_start_flag packet) (payload_of packet)) (again (counter_of packet)),
      ap (λ counted. cond counted (Some (counter_of packet)) last) told.1 ∙ sym double.3,
    )

abbrev piece_part : Bool → List ℕ → UnitPart
piece_part true piece = Begins piece
piece_part false piece = Adds piece

first_order : (last : Option ℕ) (counter : ℕ) (payload : List ℕ) → last ≢ Some counter
    → payload_part (succession last counter) true payload ≡ Some (Begins payload)
first_order None counter payload other = refl
first_order (Some before) counter payload other =
    ap (λ same. payload_part
    (cond same Again (cond (nat_eq counter ((before + 1) % 16)) Next (Missing ((before + 1) % 16) counter))) true
    payload) (ne_eqb counter before (λ same. other (ap (λ n. Some n) (sym same))))
    ∙ either (nat_eq counter ((before + 1) % 16))
  where
    either : (next : Bool)
        → payload_part (cond next Next (Missing ((before + 1) % 16) counter)) true payload ≡ Some (Begins payload)
    either true = refl
    either false = refl

next_order : (before : ℕ) → succession (Some before) ((before + 1) % 16) ≡ Next
next_order before =
    let fresh : nat_eq ((before + 1) % 16) before ≡ false =
    ne_eqb ((before + 1) % 16) before (λ same. omega arith) in
    let due : nat_eq ((before + 1) % 16) ((before + 1) % 16) ≡ true =
    eq-eqb ((before + 1) % 16) ((before + 1) % 16) refl in
    rw (fresh, due) refl

piece_packet : (pid : ℕ) (last : Option ℕ) (start : Bool) (piece packet : List ℕ)
    → CarriesPiece pid start piece packet → HasCounter start last (counter_of packet)
    → part_after pid last packet ≡ Some (piece_part start piece)
piece_packet pid last true piece packet is counter =
    let told = payload_packet pid last packet is.same_pid is.sound is.full in
    told.0
    ∙ ap (λ start. payload_part (succession last (counter_of packet)) start (payload_of packet)) is.begins
    ∙ first_order last (counter_of packet) (payload_of packet) counter
    ∙ ap (λ bytes. Some (Begins bytes)) is.payload
piece_packet pid last false piece packet is counter =
    let told = payload_packet pid last packet is.same_pid is.sound is.full in
    told.0
    ∙ ap (λ start. payload_part (succession last (counter_of packet)) start (payload_of packet)) is.begins
    ∙ ap (λ before. payload_part (succession before (counter_of packet)) false (payload_of packet)) counter.1
    ∙ ap (λ found. payload_part (succession (Some counter.0) found) false (payload_of packet)) counter.2
    ∙ ap (λ order. payload_part order false (payload_of packet)) (next_order counter.0)
    ∙ ap (λ bytes. Some (Adds bytes)) is.payload

-- ---- the packets of a cut unit, one after another

-- before its first piece nothing of the unit is there, and behind that its front is in hand
abbrev IsReady : Bool → Option (List ℕ) → List ℕ → Type 0
IsReady true hand front = front ≡ []
IsReady false hand front = hand ≡ Some front

joins : (start : Bool) (hand : Option (List ℕ)) (front piece : List ℕ) → IsReady start hand front
    → joined hand (Some (piece_part start piece)) ≡ Some (front ++ piece)
joins true hand front piece ready = ap (λ xs. Some (xs ++ piece)) (sym ready)
joins false hand front piece ready = ap (λ told. option_map (λ bytes. bytes ++ piece) told) ready

piece_is_some : (pid : ℕ) (last : Option ℕ) (start : Bool) (piece : List ℕ) (pieces packets : List (List ℕ))
    → IsCut pid last start (piece ∷ pieces) packets → 1 ≤ length piece
piece_is_some pid last start piece pieces [] cut = absurd cut
piece_is_some pid last start piece pieces (packet ∷ packets) (inl between) =
    piece_is_some pid last start piece pieces packets between.1
piece_is_some pid last start piece pieces (packet ∷ packets) (inr carried) = carried.0

packet_is_there : (pid : ℕ) (last : Option ℕ) (start : Bool) (piece : List ℕ) (pieces packets : List (List ℕ))
    → IsCut pid last start (piece ∷ pieces) packets → 1 ≤ length packets
packet_is_there pid last start piece pieces [] cut = absurd cut
packet_is_there pid last start piece pieces (packet ∷ packets) cut = omega arith

-- no unit at a packet, and then one at the last of those behind it
one_earlier : (n : ℕ) (units : List (Option (List ℕ))) → 1 ≤ n
    → None ∷ (replicate (n - 1) None ++ units) ≡ replicate (suc n - 1) None ++ units
one_earlier n units some =
    let count : suc (n - 1) ≡ suc n - 1 = omega arith in ap (λ (k : ℕ). replicate k None ++ units) count

-- ---- events

payload_event_is : (pid size : ℕ) (last : Option ℕ) (hand : Option (List ℕ)) (packet : List ℕ)
    → pid_of packet ≡ pid → has_error_flag packet ≡ false → has_payload packet ≡ true
    → event_after pid size last hand packet
    ≡ payload_event size hand (succession last (counter_of packet)) (has_start_flag packet) (payload_of packet)
unfolding event_after
payload_event_is pid size last hand packet same sound full =
    let tested : nat_eq (pid_of packet) pid ≡ true = eq-eqb (pid_of packet) pid same in rw (tested, sound, full) refl

-- packets between the pieces mean no loss
between_event : (pid size : ℕ) (last : Option ℕ) (hand : Option (List ℕ)) (packet : List ℕ)
    → IsBetween pid last packet → is_loss (event_after pid size last hand packet) ≡ false
unfolding event_after
between_event pid size last hand packet (inl other) =
    let tested : nat_eq (pid_of packet) pid ≡ false = ne_eqb (pid_of packet) pid other in rw tested refl
between_event pid size last hand packet (inr (inl empty)) =
    let tested : nat_eq (pid_of packet) pid ≡ true = eq-eqb (pid_of packet) pid empty.0 in
    let sound : has_error_flag packet ≡ false = empty.1 in
    let bare : has_payload packet ≡ false = empty.2 in
    rw (tested, sound, bare) refl
between_event pid size last hand packet (inr (inr double)) =
    ap is_loss
    (payload_event_is pid size last hand packet double.0 double.1 double.2
    ∙ ap (λ before. payload_event size hand (succession before (counter_of packet)) (has_start_flag packet)
    (payload_of packet)) double.3
    ∙ ap (λ order. payload_event size hand order (has_start_flag packet) (payload_of packet))
    (again (counter_of packet)))

-- a payload packet that is no double and not behind missing ones has the next counter
next_in_order : (start : Bool) (last : Option ℕ) (counter : ℕ) → HasCounter start last counter
    → IsUnbroken (succession last counter) → succession last counter ≡ Next
next_in_order true None counter other sound = refl
next_in_order true (Some before) counter other sound =
    let fresh : nat_eq counter before ≡ false =
    ne_eqb counter before (λ same. other (ap (λ n. Some n) (sym same))) in
    let Sound : Succession → Type 0 = λ order. IsUnbroken order in
    rw fresh (either (nat_eq counter ((before + 1) % 16)) (rw fresh at sound))
  where
    either : (next : Bool) → IsUnbroken (cond next Next (Missing ((before + 1) % 16) counter))
        → cond next Next (Missing ((before + 1) % 16) counter) ≡ Next
    either true sound = refl
    either false sound = absurd sound
next_in_order false last counter due sound =
    ap (λ before. succession before counter) due.1 ∙ ap (λ found. succession (Some due.0) found) due.2
    ∙ next_order due.0

-- no unit is in hand before a unit begins, and its front is in hand behind that
abbrev IsAwaited : Bool → Option (List ℕ) → List ℕ → Type 0
IsAwaited true hand front = (front ≡ []) × (hand ≡ None)
IsAwaited false hand front = hand ≡ Some front

awaited_event : (size : ℕ) (start : Bool) (hand : Option (List ℕ)) (front piece : List ℕ)
    → IsAwaited start hand front
    → payload_event size hand Next start piece ≡ followed size (fate_of size (front ++ piece))
awaited_event size true hand front piece awaited =
    ap (λ h. payload_event size h Next true piece) awaited.1
    ∙ ap (λ xs. followed size (fate_of size (xs ++ piece))) (sym awaited.0)
awaited_event size false hand front piece awaited = ap (λ h. payload_event size h Next false piece) awaited

piece_event : (pid size : ℕ) (last : Option ℕ) (hand : Option (List ℕ)) (start : Bool)
    (front piece packet : List ℕ) → IsAwaited start hand front → CarriesPiece pid start piece packet
    → HasCounter start last (counter_of packet) → IsUnbroken (succession last (counter_of packet))
    → event_after pid size last hand packet ≡ followed size (fate_of size (front ++ piece))
piece_event pid size last hand start front piece packet awaited is counter sound =
    payload_event_is pid size last hand packet is.same_pid is.sound is.full
    ∙ ap (λ order. payload_event size hand order (has_start_flag packet) (payload_of packet))
    (next_in_order start last (counter_of packet) counter sound)
    ∙ ap (λ flag. payload_event size hand Next flag (payload_of packet)) is.begins
    ∙ ap (λ bytes. payload_event size hand Next start bytes) is.payload
    ∙ awaited_event size start hand front piece awaited

-- the front of a unit with one more piece waits where a further piece follows
piece_waits_for : (pid size : ℕ) (packets pieces : List (List ℕ)) (second front piece unit packet : List ℕ)
    → IsUnit size unit → unit ≡ (front ++ piece) ++ concat (second ∷ pieces)
    → IsCut pid (Some (counter_of packet)) false (second ∷ pieces) packets
    → fate_of size (front ++ piece) ≡ Waits
piece_waits_for pid size packets pieces second front piece unit packet is regrouped cut =
    let more : 1 ≤ length (concat (second ∷ pieces)) =
    omega (
      arith,
      length-append second (concat pieces),
      piece_is_some pid (Some (counter_of packet)) false second
          pieces packets cut,
    ) in
    let Unit_of : List ℕ → Type 0 = λ xs. IsUnit size xs in
    front_waits size (front ++ piece) (concat (second ∷ pieces)) (subst Unit_of regrouped is) more

module _ (pid size : ℕ) where
  -- what becomes of the packets of a unit, all of them or the last ones
  record Comes (before packets : List (List ℕ)) (unit : List ℕ) : Type 0 where
    units : units_behind pid size before packets ≡ replicate (length packets - 1) None ++ Some unit ∷ []
    empty : hand_after pid size (before ++ packets) ≡ None

  -- a packet at which no unit comes, before those of which the unit comes
  comes_later : (before packets : List (List ℕ)) (packet unit : List ℕ)
      → unit_at pid size before packet ≡ None → 1 ≤ length packets
      → Comes (before ++ packet ∷ []) packets unit → Comes before (packet ∷ packets) unit
  comes_later before packets packet unit nothing some later = record {
    units =
        ap (λ here. here ∷ units_behind pid size (before ++ packet ∷ []) packets) nothing
        ∙ ap (λ units. None ∷ units) later.units
        ∙ one_earlier (length packets) (Some unit ∷ []) some;
    empty = ap (λ xs. hand_after pid size xs) (sym (append_assoc before (packet ∷ []) packets)) ∙ later.empty;
  }

  -- between the pieces nothing changes
  record Stays (before : List (List ℕ)) (packet : List ℕ) : Type 0 where
    part : part_of pid before packet ≡ None
    hand : hand_after pid size (before ++ packet ∷ []) ≡ hand_after pid size before
    counter : last_counter pid (before ++ packet ∷ []) ≡ last_counter pid before

  between_stays : (before : List (List ℕ)) (packet : List ℕ) → IsBetween pid (last_counter pid before) packet
      → Stays before packet
  between_stays before packet between =
      let told = other_part pid (last_counter pid before) packet between in
      record {
        part = told.0;
        hand = hand_push pid size before packet ∙ ap (next_hand size (hand_after pid size before)) told.0;
        counter = counter_push pid before packet ∙ told.1;
      }

  -- a piece is joined to the front of the unit, and its counter is the last one
  record Joins (before : List (List ℕ)) (start : Bool) (front piece packet : List ℕ) : Type 0 where
    part : part_of pid before packet ≡ Some (piece_part start piece)
    taken : joined (hand_after pid size before) (part_of pid before packet) ≡ Some (front ++ piece)
    hand : hand_after pid size (before ++ packet ∷ []) ≡ kept size (Some (front ++ piece))
    counter : last_counter pid (before ++ packet ∷ []) ≡ Some (counter_of packet)

  piece_joins : (before : List (List ℕ)) (start : Bool) (front piece packet : List ℕ)
      → IsReady start (hand_after pid size before) front → CarriesPiece pid start piece packet
      → HasCounter start (last_counter pid before) (counter_of packet) → Joins before start front piece packet
  piece_joins before start front piece packet ready carries counter =
      let part = piece_packet pid (last_counter pid before) start piece packet carries counter in
      let taken = joins start (hand_after pid size before) front piece ready in
      let told = payload_packet pid (last_counter pid before) packet carries.same_pid carries.sound carries.full in
      record {
        part = part;
        taken = ap (joined (hand_after pid size before)) part ∙ taken;
        hand =
            hand_push pid size before packet ∙ ap (next_hand size (hand_after pid size before)) part
            ∙ ap (kept size) taken;
        counter =
            counter_push pid before packet
            ∙ ap (λ counted. cond counted (Some (counter_of packet)) (last_counter pid before)) told.1;
      }

  cut_comes : (packets pieces before : List (List ℕ)) (piece : List ℕ) (start : Bool) (front unit : List ℕ)
      → IsUnit size unit → unit ≡ front ++ concat (piece ∷ pieces)
      → IsReady start (hand_after pid size before) front
      → IsCut pid (last_counter pid before) start (piece ∷ pieces) packets → Comes before packets unit
  cut_comes [] pieces before piece start front unit is whole ready cut = absurd cut
  cut_comes (packet ∷ packets) pieces before piece start front unit is whole ready (inl between) =
      let stays = between_stays before packet between.0 in
      let Ready : Option (List ℕ) → Type 0 = λ h. IsReady start h front in
      let Cut : Option ℕ → Type 0 = λ last. IsCut pid last start (piece ∷ pieces) packets in
      comes_later before packets packet unit
      (ap (unit_after size (hand_after pid size before)) stays.part)
      (packet_is_there pid (last_counter pid before) start piece pieces packets between.1)
      (cut_comes packets pieces (before ++ packet ∷ []) piece start front unit is whole
      (subst Ready (sym stays.hand) ready) (subst Cut (sym stays.counter) between.1))
  cut_comes (packet ∷ []) [] before piece start front unit is whole ready (inr carried) =
      let join = piece_joins before start front piece packet ready carried.1 carried.2 in
      let bytes : front ++ piece ≡ unit = ap (λ xs. front ++ xs) (sym (append-nil piece)) ∙ sym whole in
      let fate : fate_of size (front ++ piece) ≡ Whole unit =
      ap (fate_of size) bytes ∙ unit_is_whole size unit is in
      record {
        units =
            ap (λ here. here ∷ [])
            (ap (λ taken. handed_out (option_map (fate_of size) taken)) join.taken
            ∙ ap (λ f. handed_out (Some f)) fate);
        empty = join.hand ∙ ap (λ f. cond (is_waiting f) (Some (front ++ piece)) None) fate;
      }
  cut_comes (packet ∷ next ∷ packets) [] before piece start front unit is whole ready (inr carried) =
      absurd carried.3
  cut_comes (packet ∷ packets) (second ∷ pieces) before piece start front unit is whole ready (inr carried) =
      let join = piece_joins before start front piece packet ready carried.1 carried.2 in
      let regrouped : unit ≡ (front ++ piece) ++ concat (second ∷ pieces) =
      whole ∙ sym (append_assoc front piece (concat (second ∷ pieces))) in
      let waits = piece_waits_for pid size packets pieces second front piece unit packet is regrouped carried.3 in
      let hand : hand_after pid size (before ++ packet ∷ []) ≡ Some (front ++ piece) =
      join.hand ∙ ap (λ f. cond (is_waiting f) (Some (front ++ piece)) None) waits in
      let Cut : Option ℕ → Type 0 = λ last. IsCut pid last false (second ∷ pieces) packets in
      comes_later before packets packet unit
      (ap (λ taken. handed_out (option_map (fate_of size) taken)) join.taken ∙ ap (λ f. handed_out (Some f)) waits)
      (packet_is_there pid (Some (counter_of packet)) false second pieces packets carried.3)
      (cut_comes packets pieces (before ++ packet ∷ []) second false (front ++ piece) unit is regrouped hand
      (subst Cut (sym join.counter) carried.3))

  -- a unit that is cut in any way comes out whole, once, at the last of its packets
  pub any_cutting : AnyCutting pid size
  any_cutting before packets [] unit is whole cut = absurd (omega (arith, ap length whole, is.bounded))
  any_cutting before packets (piece ∷ pieces) unit is whole cut =
      let comes = cut_comes packets pieces before piece true [] unit is whole refl cut in (comes.units, comes.empty)

  awaited_ready : (start : Bool) (hand : Option (List ℕ)) (front : List ℕ) → IsAwaited start hand front
      → IsReady start hand front
  awaited_ready true hand front awaited = awaited.0
  awaited_ready false hand front awaited = awaited

  cut_loses_nothing : (packets pieces before : List (List ℕ)) (piece : List ℕ) (start : Bool)
      (front unit : List ℕ) → IsUnit size unit → unit ≡ front ++ concat (piece ∷ pieces)
      → IsAwaited start (hand_after pid size before) front
      → IsCut pid (last_counter pid before) start (piece ∷ pieces) packets
      → IsGapless pid (last_counter pid before) packets
      → AllByRecursion (λ told. is_loss told ≡ false) (events_behind pid size before packets)
  cut_loses_nothing [] pieces before piece start front unit is whole awaited cut gapless = absurd cut
  cut_loses_nothing (packet ∷ packets) pieces before piece start front unit is whole awaited (inl between) gapless =
      let stays = between_stays before packet between.0 in
      let told = other_part pid (last_counter pid before) packet between.0 in
      let Awaited : Option (List ℕ) → Type 0 = λ h. IsAwaited start h front in
      let Cut : Option ℕ → Type 0 = λ last. IsCut pid last start (piece ∷ pieces) packets in
      let Gapless : Option ℕ → Type 0 = λ last. IsGapless pid last packets in (
        between_event pid size (last_counter pid before) (hand_after pid size before) packet between.0,
        cut_loses_nothing packets pieces (before ++ packet ∷ []) piece start front unit is whole
            (subst Awaited (sym stays.hand) awaited) (subst Cut (sym stays.counter) between.1)
            (subst Gapless (told.1 ∙ sym stays.counter) gapless.1),
      )
  cut_loses_nothing (packet ∷ []) [] before piece start front unit is whole awaited (inr carried) gapless =
      let told =
      payload_packet pid (last_counter pid before) packet carried.1.same_pid carried.1.sound carried.1.full in
      let bytes : front ++ piece ≡ unit = ap (λ xs. front ++ xs) (sym (append-nil piece)) ∙ sym whole in (
        ap is_loss
            (piece_event pid size (last_counter pid before) (hand_after pid size before) start front piece packet
            awaited carried.1 carried.2 (gapless.0 told.1)
            ∙ ap (λ f. followed size f) (ap (fate_of size) bytes ∙ unit_is_whole size unit is)),
        tt,
      )
  cut_loses_nothing (packet ∷ next ∷ packets) [] before piece start front unit is whole awaited (inr carried)
      gapless = absurd carried.3
  cut_loses_nothing (packet ∷ packets) (second ∷ pieces) before piece start front unit is whole awaited
      (inr carried) gapless =
      let told =
      payload_packet pid (last_counter pid before) packet carried.1.same_pid carried.1.sound carried.1.full in
      let join =
      piece_joins before start front piece packet (awaited_ready start (hand_after pid size before) front awaited)
      carried.1 carried.2 in
      let regrouped : unit ≡ (front ++ piece) ++ concat (second ∷ pieces) =
      whole ∙ sym (append_assoc front piece (concat (second ∷ pieces))) in
      let waits = piece_waits_for pid size packets pieces second front piece unit packet is regrouped carried.3 in
      let hand : hand_after pid size (before ++ packet ∷ []) ≡ Some (front ++ piece) =
      join.hand ∙ ap (λ f. cond (is_waiting f) (Some (front ++ piece)) None) waits in
      let Cut : Option ℕ → Type 0 = λ last. IsCut pid last false (second ∷ pieces) packets in
      let Gapless : Option ℕ → Type 0 = λ last. IsGapless pid last packets in
      let counted = ap (λ (full : Bool). cond full (Some (counter_of packet)) (last_counter pid before)) told.1 in (
        ap is_loss
            (piece_event pid size (last_counter pid before) (hand_after pid size before) start front piece packet
            awaited carried.1 carried.2 (gapless.0 told.1)
            ∙ ap (λ f. followed size f) waits),
        cut_loses_nothing packets pieces (before ++ packet ∷ []) second false (front ++ piece) unit is regrouped hand
            (subst Cut (sym join.counter) carried.3) (subst Gapless (counted ∙ sym join.counter) gapless.1),
      )

  -- none of the packets of a cut unit means a loss where nothing was lost before
  pub nothing_lost : NothingLost pid size
  nothing_lost before packets [] unit is whole cut gapless empty = absurd (omega (arith, ap length whole, is.bounded))
  nothing_lost before packets (piece ∷ pieces) unit is whole cut gapless empty =
      cut_loses_nothing packets pieces before piece true [] unit is whole (refl, empty) cut gapless
