-- The units of a PID in a list of transport packets, and what becomes of each packet (ISO/IEC 13818-1, 2.4.3). The list
-- has no packet that cannot be taken. Units are looked for in the whole list.
use Rattle.std.specs.Prelude.{ℕ, ◌+◌, ◌%◌, Bool, true, false, ◌==◌, ◌||◌, ◌&&◌, not, nat_lt, if◌then◌else◌, List, [], ◌∷◌, ◌++◌, length, take, reverse, find, Option, Some, None}
use Rattle.std.specs.Option.{option_map}
use Rattle.std.specs.List.{list_any, list_all, flat_map, filter_map}
use Rattle.sub_base.specs.Lists.{prefixes}
use Rattle.stream_syntax.specs.declared.transport.Event.{Event}
use Rattle.stream_syntax.specs.declared.transport.Event.TheVariants as event
use Rattle.stream_syntax.specs.Pes.{has_prefix, length_in, need_of}
use Rattle.stream_syntax.specs.TransportPackets.{has_error_flag, has_start_flag, has_payload, pid_of, counter_of, payload_of}

-- ---- counters

-- a packet of the PID that has a payload and is not marked as damaged
abbrev pub is_payload : ℕ → List ℕ → Bool
is_payload pid packet = (pid_of packet == pid) && (not (has_error_flag packet) && has_payload packet)

-- the counter of the last payload packet of these
unfoldable pub last_counter : ℕ → List (List ℕ) → Option ℕ
last_counter pid packets = option_map counter_of (find (is_payload pid) (reverse packets))

-- how the counter of a payload packet stands to the one before it: the next one modulo 16, the same, or another one
pub data Succession : Type 0 where
  Next : Succession
  Again : Succession
  Missing : ℕ → ℕ → Succession

-- the first payload packet follows whatever its counter is
abbrev pub succession : Option ℕ → ℕ → Succession
succession None found = Next
succession (Some last) found =
    if found == last then Again else if found == (last + 1) % 16 then Next else Missing ((last + 1) % 16) found

-- ---- the parts of units

-- a packet's part in units: it begins one, adds to one, or breaks one off
pub data UnitPart : Type 0 where
  Begins : List ℕ → UnitPart
  Adds : List ℕ → UnitPart
  Breaks : UnitPart

-- behind missing packets a unit can begin, and none goes on
abbrev pub payload_part : Succession → Bool → List ℕ → Option UnitPart
payload_part Again start payload = None
payload_part Next start payload = Some (if start then Begins payload else Adds payload)
payload_part (Missing expected found) start payload = Some (if start then Begins payload else Breaks)

-- the part of a packet by the counter of the payload packet before it. Packets of another PID, packets without payload
-- and doubles have no part; a damaged packet breaks a unit off
unfoldable pub part_after : ℕ → Option ℕ → List ℕ → Option UnitPart
part_after pid last packet =
    if not (pid_of packet == pid) then None
    else if has_error_flag packet then Some Breaks
    else if not (has_payload packet) then None
    else payload_part (succession last (counter_of packet)) (has_start_flag packet) (payload_of packet)

-- the part of a packet by the packets before it
abbrev pub part_of : ℕ → List (List ℕ) → List ℕ → Option UnitPart
part_of pid before packet = part_after pid (last_counter pid before) packet

-- what f gives at each packet of a list, from the packets before it and the packet
abbrev pub each_after : {X : Type 0} → (List (List ℕ) → List ℕ → X) → List (List ℕ) → List (List ℕ)
    → List X
each_after f before [] = []
each_after f before (packet ∷ packets) = f before packet ∷ each_after f (before ++ packet ∷ []) packets

-- the parts that the packets of a list have, in order
unfoldable pub parts_of : ℕ → List (List ℕ) → List UnitPart
parts_of pid packets = filter_map (λ part. part) (each_after (part_of pid) [] packets)

-- the part is the beginning of a unit
abbrev pub begins_unit : UnitPart → Bool
begins_unit (Begins payload) = true
begins_unit (Adds payload) = false
begins_unit Breaks = false

-- the part breaks off a unit
abbrev pub breaks_unit : UnitPart → Bool
breaks_unit (Begins payload) = false
breaks_unit (Adds payload) = false
breaks_unit Breaks = true

-- the bytes that a part puts into a unit
abbrev pub bytes_in : UnitPart → List ℕ
bytes_in (Begins payload) = payload
bytes_in (Adds payload) = payload
bytes_in Breaks = []

-- ---- the unit in hand

-- what becomes of a unit of which so many bytes are there: it waits for more, is handed out, or is dropped for its need
pub data Fate : Type 0 where
  Waits : Fate
  Whole : List ℕ → Fate
  Over : ℕ → Fate

-- another beginning than the start code prefix, or a length of 0, which leaves the end open
abbrev pub is_unbounded : List ℕ → Bool
is_unbounded bytes = not (has_prefix bytes) || (length_in bytes == 0)

-- what becomes of the bytes of a unit so far: they wait for more, are whole up to the length that they tell, or tell of
-- more than there is room for
unfoldable pub fate_of : ℕ → List ℕ → Fate
fate_of size bytes =
    if nat_lt (length bytes) 6 then Waits
    else if is_unbounded bytes then Whole bytes
    else if nat_lt size (need_of bytes) then Over (need_of bytes)
    else if nat_lt (length bytes) (need_of bytes) then Waits
    else Whole (take (need_of bytes) bytes)

-- the unit waits for more bytes
abbrev pub is_waiting : Fate → Bool
is_waiting Waits = true
is_waiting (Whole bytes) = false
is_waiting (Over need) = false

-- the parts from the last one on that begins a unit
abbrev pub last_unit : List UnitPart → List UnitPart
last_unit [] = []
last_unit (part ∷ parts) =
    if list_any begins_unit parts then last_unit parts else if begins_unit part then part ∷ parts else []

-- the bytes of parts, one part after another
abbrev pub gathered : List UnitPart → List ℕ
gathered parts = flat_map bytes_in parts

-- the unit that these parts are is in hand: nothing breaks it off, and with no part of it was it handed out or dropped
unfoldable pub stays_in_hand : ℕ → List UnitPart → Bool
stays_in_hand size unit =
    list_all (λ part. not (breaks_unit part)) unit
    && list_all (λ front. is_waiting (fate_of size (gathered front))) (prefixes unit)

-- the bytes of the unit that these parts are, where it is in hand; a unit has room for so many bytes
abbrev pub unit_in_hand : ℕ → List UnitPart → Option (List ℕ)
unit_in_hand size [] = None
unit_in_hand size (part ∷ parts) =
    if stays_in_hand size (part ∷ parts) then Some (gathered (part ∷ parts)) else None

-- the bytes of the unit in hand after the packets of a list
unfoldable pub hand_after : ℕ → ℕ → List (List ℕ) → Option (List ℕ)
hand_after pid size packets = unit_in_hand size (last_unit (parts_of pid packets))

-- ---- what is answered at a packet

-- the bytes of the unit to which a packet belongs, up to this packet, where a unit is there for it
abbrev pub joined : Option (List ℕ) → Option UnitPart → Option (List ℕ)
joined hand None = None
joined hand (Some (Begins payload)) = Some payload
joined hand (Some (Adds payload)) = option_map (λ bytes. bytes ++ payload) hand
joined hand (Some Breaks) = None

-- the unit that its fate hands out, if it does
abbrev pub handed_out : Option Fate → Option (List ℕ)
handed_out None = None
handed_out (Some Waits) = None
handed_out (Some (Whole bytes)) = Some bytes
handed_out (Some (Over need)) = None

-- the unit that a packet with this part ends, as it is handed out
abbrev pub unit_after : ℕ → Option (List ℕ) → Option UnitPart → Option (List ℕ)
unit_after size hand part = handed_out (option_map (fate_of size) (joined hand part))

-- the unit that a packet ends, by the packets before it
abbrev pub unit_at : ℕ → ℕ → List (List ℕ) → List ℕ → Option (List ℕ)
unit_at pid size before packet = unit_after size (hand_after pid size before) (part_of pid before packet)

-- a packet that follows, by what becomes of its unit
abbrev pub followed : ℕ → Fate → Event
followed size Waits = event.Followed
followed size (Whole bytes) = event.Followed
followed size (Over need) = event.TooLong need size

-- a packet that begins a unit where another one is in hand, and one that begins a unit where none is
abbrev pub begun : ℕ → Option (List ℕ) → List ℕ → Event
begun size None payload = followed size (fate_of size payload)
begun size (Some bytes) payload = event.Short (length bytes)

-- a packet that adds to the unit in hand, and one that finds none
abbrev pub added : ℕ → Option (List ℕ) → List ℕ → Event
added size None payload = event.Dropped
added size (Some bytes) payload = followed size (fate_of size (bytes ++ payload))

-- what becomes of a payload packet, by the unit in hand, how its counter stands to the one before it, its start flag
-- and its payload
abbrev pub payload_event : ℕ → Option (List ℕ) → Succession → Bool → List ℕ → Event
payload_event size hand Again start payload = event.Double
payload_event size hand (Missing expected found) start payload = event.Gap expected found
payload_event size hand Next start payload = if start then begun size hand payload else added size hand payload

-- what becomes of a packet, by the counter of the payload packet before it and the unit in hand
unfoldable pub event_after : ℕ → ℕ → Option ℕ → Option (List ℕ) → List ℕ → Event
event_after pid size last hand packet =
    if not (pid_of packet == pid) then event.Other
    else if has_error_flag packet then event.ErrorFlag
    else if not (has_payload packet) then event.NoPayload
    else payload_event size hand (succession last (counter_of packet)) (has_start_flag packet) (payload_of packet)

-- what becomes of a packet, by the packets before it
abbrev pub event_at : ℕ → ℕ → List (List ℕ) → List ℕ → Event
event_at pid size before packet = event_after pid size (last_counter pid before) (hand_after pid size before) packet

-- the event and the unit at each packet of a list
abbrev pub events_of : ℕ → ℕ → List (List ℕ) → List (Event × Option (List ℕ))
events_of pid size packets =
    each_after (λ before packet. (event_at pid size before packet, unit_at pid size before packet)) [] packets

-- the events that mean a loss
abbrev pub is_loss : Event → Bool
is_loss event.Followed = false
is_loss event.Other = false
is_loss event.NoPayload = false
is_loss event.Double = false
is_loss event.Dropped = false
is_loss (event.Gap expected found) = true
is_loss event.ErrorFlag = true
is_loss (event.Short have) = true
is_loss (event.TooLong need size) = true
