-- The units of packets of bytes are of bytes.
use Rattle.std.proofs.Common.{ℕ, ◌+◌, ◌<◌, ◌==◌, Bool, true, false, ltb, not, List, [], ◌∷◌, ◌++◌, length, take, drop, Option, Some, None, All}
use Rattle.std.specs.Bool.{if◌then◌else◌}
use Rattle.std.specs.List.{AllByRecursion, filter_map, list_any}
use Rattle.std.specs.Option.{option_map}
use Rattle.std.proofs.lemmas.List.Elements.{All-nil, All-append, All-take, All-drop}
use Rattle.stream_syntax.specs.TransportPackets.{has_error_flag, has_start_flag, has_payload, pid_of, counter_of, control_of, field_length_of, payload_of}
use Rattle.stream_syntax.specs.Units.{Succession, Next, Again, Missing, succession, UnitPart, Begins, Adds, Breaks, payload_part, part_after, part_of, last_counter, each_after, parts_of, begins_unit, bytes_in, Fate, Waits, Whole, Over, is_unbounded, fate_of, last_unit, gathered, stays_in_hand, unit_in_hand, hand_after, joined, handed_out, unit_at}
use Rattle.decoder_model.proofs.Lists.{all-append}
use Rattle.stream_syntax.specs.Pes.{need_of}

-- ---- of any items

-- both answers of a choice
pub either_way : {X : Type 0} (P : X → Type 0) (b : Bool) (x y : X) → P x → P y → P (if b then x else y)
either_way P true x y hx hy = hx
either_way P false x y hx hy = hy

-- something that is there
abbrev pub OfSome : {X : Type 0} → (X → Type 0) → Option X → Type 0
OfSome P None = Unit {0}
OfSome P (Some x) = P x

-- what is given among options
given_all : {X : Type 0} (P : X → Type 0) (xs : List (Option X)) → AllByRecursion (OfSome P) xs
    → AllByRecursion P (filter_map (λ found. found) xs)
given_all P [] h = tt
given_all P (None ∷ xs) h = given_all P xs h.1
given_all P (Some x ∷ xs) h = (h.0, given_all P xs h.1)

-- ---- packets

-- each number is a byte
abbrev pub OfBytes : List ℕ → Type 0
OfBytes bytes = All (λ (byte : ℕ). byte < 256) bytes

no_bytes : OfBytes []
no_bytes = All-nil (λ (byte : ℕ). byte < 256)

pub bytes_behind : (n : ℕ) (bytes : List ℕ) → OfBytes bytes → OfBytes (drop n bytes)
bytes_behind n bytes h = All-drop (λ (byte : ℕ). byte < 256) n bytes h

pub bytes_ahead : (n : ℕ) (bytes : List ℕ) → OfBytes bytes → OfBytes (take n bytes)
bytes_ahead n bytes h = All-take (λ (byte : ℕ). byte < 256) n bytes h

bytes_joined : (bytes others : List ℕ) → OfBytes bytes → OfBytes others → OfBytes (bytes ++ others)
bytes_joined bytes others h k = All-append (λ (byte : ℕ). byte < 256) bytes others h k

payload_bytes : (packet : List ℕ) → OfBytes packet → OfBytes (payload_of packet)
payload_bytes packet h =
    either_way OfBytes (control_of packet == 3) (drop (5 + field_length_of packet) packet) (drop 4 packet)
    (bytes_behind (5 + field_length_of packet) packet h) (bytes_behind 4 packet h)

-- what holds of f at each packet of bytes behind packets of bytes
pub each_all : {X : Type 0} (P : X → Type 0) (f : List (List ℕ) → List ℕ → X)
    → ((before : List (List ℕ)) (packet : List ℕ) → AllByRecursion OfBytes before → OfBytes packet
    → P (f before packet))
    → (before packets : List (List ℕ)) → AllByRecursion OfBytes before → AllByRecursion OfBytes packets
    → AllByRecursion P (each_after f before packets)
each_all P f holds before [] earlier h = tt
each_all P f holds before (packet ∷ packets) earlier h = (
  holds before packet earlier h.0,
  each_all P f holds (before ++ packet ∷ []) packets (all-append OfBytes before (packet ∷ []) earlier (h.0, tt))
      h.1,
)

-- ---- parts

abbrev IsPart : UnitPart → Type 0
IsPart part = OfBytes (bytes_in part)

begun_part : (payload : List ℕ) (other : UnitPart) (start : Bool) → OfBytes payload → IsPart other
    → IsPart (if start then Begins payload else other)
begun_part payload other true h k = h
begun_part payload other false h k = k

part_by : (next : Succession) (start : Bool) (payload : List ℕ) → OfBytes payload
    → OfSome IsPart (payload_part next start payload)
part_by Again start payload h = tt
part_by Next start payload h = begun_part payload (Adds payload) start h h
part_by (Missing expected found) start payload h = begun_part payload Breaks start h no_bytes

part_bytes : (pid : ℕ) (last : Option ℕ) (packet : List ℕ) → OfBytes packet
    → OfSome IsPart (part_after pid last packet)
unfolding part_after
part_bytes pid last packet h =
    either_way (OfSome IsPart) (not (pid_of packet == pid)) None _ tt
    (either_way (OfSome IsPart) (has_error_flag packet) (Some Breaks) _ no_bytes
    (either_way (OfSome IsPart) (not (has_payload packet)) None _ tt
    (part_by (succession last (counter_of packet)) (has_start_flag packet) (payload_of packet)
    (payload_bytes packet h))))

parts_bytes : (pid : ℕ) (packets : List (List ℕ)) → AllByRecursion OfBytes packets
    → AllByRecursion IsPart (parts_of pid packets)
unfolding parts_of
parts_bytes pid packets h =
    given_all IsPart (each_after (part_of pid) [] packets)
    (each_all (OfSome IsPart) (part_of pid)
    (λ before packet earlier own. part_bytes pid (last_counter pid before) packet own) [] packets tt h)

last_parts : (parts : List UnitPart) → AllByRecursion IsPart parts → AllByRecursion IsPart (last_unit parts)
last_parts [] h = tt
last_parts (part ∷ parts) h =
    either_way (AllByRecursion IsPart) (list_any begins_unit parts) (last_unit parts) _ (last_parts parts h.1)
    (either_way (AllByRecursion IsPart) (begins_unit part) (part ∷ parts) [] h tt)

-- ---- units

gathered_bytes : (parts : List UnitPart) → AllByRecursion IsPart parts → OfBytes (gathered parts)
gathered_bytes [] h = no_bytes
gathered_bytes (part ∷ parts) h = bytes_joined (bytes_in part) (gathered parts) h.0 (gathered_bytes parts h.1)

in_hand : (size : ℕ) (parts : List UnitPart) → AllByRecursion IsPart parts
    → OfSome OfBytes (unit_in_hand size parts)
in_hand size [] h = tt
in_hand size (part ∷ parts) h =
    either_way (OfSome OfBytes) (stays_in_hand size (part ∷ parts)) (Some (gathered (part ∷ parts))) None
    (gathered_bytes (part ∷ parts) h) tt

hand_bytes : (pid size : ℕ) (packets : List (List ℕ)) → AllByRecursion OfBytes packets
    → OfSome OfBytes (hand_after pid size packets)
unfolding hand_after
hand_bytes pid size packets h =
    in_hand size (last_unit (parts_of pid packets)) (last_parts (parts_of pid packets) (parts_bytes pid packets h))

more_bytes : (hand : Option (List ℕ)) (payload : List ℕ) → OfSome OfBytes hand → OfBytes payload
    → OfSome OfBytes (option_map (λ bytes. bytes ++ payload) hand)
more_bytes None payload h k = tt
more_bytes (Some bytes) payload h k = bytes_joined bytes payload h k

joined_bytes : (hand : Option (List ℕ)) (part : Option UnitPart) → OfSome OfBytes hand → OfSome IsPart part
    → OfSome OfBytes (joined hand part)
joined_bytes hand None h k = tt
joined_bytes hand (Some (Begins payload)) h k = k
joined_bytes hand (Some (Adds payload)) h k = more_bytes hand payload h k
joined_bytes hand (Some Breaks) h k = tt

abbrev IsFate : Fate → Type 0
IsFate Waits = Unit {0}
IsFate (Whole bytes) = OfBytes bytes
IsFate (Over need) = Unit {0}

fate_bytes : (size : ℕ) (bytes : List ℕ) → OfBytes bytes → IsFate (fate_of size bytes)
unfolding fate_of
fate_bytes size bytes h =
    either_way IsFate (ltb (length bytes) 6) Waits _ tt
    (either_way IsFate (is_unbounded bytes) (Whole bytes) _ h
    (either_way IsFate (ltb size (need_of bytes)) (Over (need_of bytes)) _ tt
    (either_way IsFate (ltb (length bytes) (need_of bytes)) Waits (Whole (take (need_of bytes) bytes)) tt
    (bytes_ahead (need_of bytes) bytes h))))

out_bytes : (fate : Fate) → IsFate fate → OfSome OfBytes (handed_out (Some fate))
out_bytes Waits h = tt
out_bytes (Whole bytes) h = h
out_bytes (Over need) h = tt

ended_bytes : (size : ℕ) (all : Option (List ℕ)) → OfSome OfBytes all
    → OfSome OfBytes (handed_out (option_map (fate_of size) all))
ended_bytes size None h = tt
ended_bytes size (Some bytes) h = out_bytes (fate_of size bytes) (fate_bytes size bytes h)

-- the unit that a packet ends is of bytes
pub unit_bytes : (pid size : ℕ) (before : List (List ℕ)) (packet : List ℕ) → AllByRecursion OfBytes before
    → OfBytes packet → OfSome OfBytes (unit_at pid size before packet)
unit_bytes pid size before packet earlier h =
    ended_bytes size (joined (hand_after pid size before) (part_of pid before packet))
    (joined_bytes (hand_after pid size before) (part_of pid before packet) (hand_bytes pid size before earlier)
    (part_bytes pid (last_counter pid before) packet h))
