-- A unit that is cut into packets of a PID, in any way (ISO/IEC 13818-1, 2.4.3.2 to 2.4.3.6).
use Rattle.std.specs.Prelude.{◌≡◌, ◌≢◌, ℕ, ◌+◌, ◌-◌, ◌%◌, ◌<◌, ◌≤◌, ◌⊎◌, Bool, true, false, if◌then◌else◌, List, [], ◌∷◌, ◌++◌, length, replicate, Option, Some, None, ⊤}
use Rattle.std.specs.List.{concat, AllByRecursion}
use Rattle.byteorder.specs.Endian.{big_number}
use Rattle.stream_syntax.specs.declared.transport.Event.{Event}
use Rattle.stream_syntax.specs.Pes.{need_of}
use Rattle.stream_syntax.specs.TransportPackets.{pid_of, has_error_flag, has_payload, has_start_flag, counter_of, payload_of}
use Rattle.stream_syntax.specs.Units.{is_payload, last_counter, Succession, Next, Again, Missing, succession, each_after, hand_after, unit_at, event_at, is_loss}

-- a unit that a demultiplexer of this size hands out whole: it has the start code prefix, and as many bytes as its
-- length says
pub record IsUnit (size : ℕ) (unit : List ℕ) : Type 0 where
  pub prefix : big_number 3 unit ≡ 1
  pub bounded : 6 < length unit
  pub whole : need_of unit ≡ length unit
  pub fits : length unit ≤ size

-- a packet of the PID that carries a piece
pub record CarriesPiece (pid : ℕ) (start : Bool) (piece packet : List ℕ) : Type 0 where
  pub same_pid : pid_of packet ≡ pid
  pub sound : has_error_flag packet ≡ false
  pub full : has_payload packet ≡ true
  pub begins : has_start_flag packet ≡ start
  pub payload : payload_of packet ≡ piece

-- a packet of another PID, as a null packet is; one without payload; and a double of the payload packet before it
abbrev pub IsBetween : ℕ → Option ℕ → List ℕ → Type 0
IsBetween pid last packet =
    (pid_of packet ≢ pid)
    ⊎ (((pid_of packet ≡ pid) × (has_error_flag packet ≡ false) × (has_payload packet ≡ false))
    ⊎ ((pid_of packet ≡ pid) × (has_error_flag packet ≡ false) × (has_payload packet ≡ true)
    × (last ≡ Some (counter_of packet))))

-- the first piece's packet is no double; each further one has the next counter
abbrev pub HasCounter : Bool → Option ℕ → ℕ → Type 0
HasCounter true last counter = last ≢ Some counter
HasCounter false last counter = (before : ℕ) × (last ≡ Some before) × (counter ≡ (before + 1) % 16)

-- behind a payload packet with this counter the packets carry these pieces, one after another, the first of them with
-- the start flag or not; other packets stand anywhere between, and the last packet carries the last piece
abbrev pub IsCut : ℕ → Option ℕ → Bool → List (List ℕ) → List (List ℕ) → Type 0
IsCut pid last start [] [] = ⊤
IsCut pid last start (piece ∷ pieces) [] = ⊥
IsCut pid last start [] (packet ∷ packets) = ⊥
IsCut pid last start (piece ∷ pieces) (packet ∷ packets) =
    (IsBetween pid last packet × IsCut pid last start (piece ∷ pieces) packets)
    ⊎ ((1 ≤ length piece) × CarriesPiece pid start piece packet × HasCounter start last (counter_of packet)
    × IsCut pid (Some (counter_of packet)) false pieces packets)

-- the units at the packets of a list behind others
abbrev pub units_behind : ℕ → ℕ → List (List ℕ) → List (List ℕ) → List (Option (List ℕ))
units_behind pid size before packets = each_after (unit_at pid size) before packets

-- however a unit is cut, and whatever came before, it comes out whole, once, at the last of its packets, and no unit is
-- in hand behind them
abbrev pub AnyCutting : ℕ → ℕ → Type 0
AnyCutting pid size =
    (before packets pieces : List (List ℕ)) (unit : List ℕ) → IsUnit size unit → unit ≡ concat pieces
    → IsCut pid (last_counter pid before) true pieces packets
    → (units_behind pid size before packets ≡ replicate (length packets - 1) None ++ Some unit ∷ [])
    × (hand_after pid size (before ++ packets) ≡ None)

-- the packet is not behind missing ones
abbrev pub IsUnbroken : Succession → Type 0
IsUnbroken Next = ⊤
IsUnbroken Again = ⊤
IsUnbroken (Missing expected found) = ⊥

-- behind a payload packet with this counter no counter is missing
abbrev pub IsGapless : ℕ → Option ℕ → List (List ℕ) → Type 0
IsGapless pid last [] = ⊤
IsGapless pid last (packet ∷ packets) =
    (is_payload pid packet ≡ true → IsUnbroken (succession last (counter_of packet)))
    × IsGapless pid (if is_payload pid packet then Some (counter_of packet) else last) packets

-- the events at the packets of a list behind others
abbrev pub events_behind : ℕ → ℕ → List (List ℕ) → List (List ℕ) → List Event
events_behind pid size before packets = each_after (event_at pid size) before packets

-- where no unit is in hand and no counter is missing, none of the packets of a cut unit means a loss
abbrev pub NothingLost : ℕ → ℕ → Type 0
NothingLost pid size =
    (before packets pieces : List (List ℕ)) (unit : List ℕ) → IsUnit size unit → unit ≡ concat pieces
    → IsCut pid (last_counter pid before) true pieces packets → IsGapless pid (last_counter pid before) packets
    → hand_after pid size before ≡ None
    → AllByRecursion (λ event. is_loss event ≡ false) (events_behind pid size before packets)
