-- What one packet brings to the buffers of a receiver (EN 300 743, clause 5.2), behind the packets before it.
use Rattle.std.specs.Prelude.{ℕ, ◌==◌, ◌&&◌, ◌||◌, not, Bool, false, true, List, [], ◌∷◌, ◌++◌, length, filter, reverse, Option, Some, None, option_map}
use Rattle.std.specs.List.{list_any}
use Rattle.stream_syntax.specs.Units.{UnitPart, Begins, Adds, Breaks, event_at, unit_at, hand_after, part_of}
use Rattle.stream_syntax.specs.declared.transport.Event.{Event}
use Rattle.stream_syntax.specs.declared.transport.Event.TheVariants as event
use Rattle.decoder_model.specs.declared.pages.Pages.{Pages}
use Rattle.decoder_model.specs.Arrivals.{PesUnit, Arrival, loss, refused_unit, aside, unit, arrival_of_unit, losses_at, arrivals_of, ends_too_long}
use Rattle.decoder_model.specs.Sets.{is_ended, frames_in}

-- ---- the run in hand

-- the units of that time
abbrev pub of_time : ℕ → List PesUnit → List PesUnit
of_time time units = filter (λ (one : PesUnit). one.time == time) units

-- the last run of arrivals, the latest first: the units behind the last loss that have the time of the last one
abbrev pub last_run : List Arrival → List PesUnit
last_run [] = []
last_run (loss ∷ before) = []
last_run (refused_unit ∷ before) = []
last_run (aside ∷ before) = last_run before
last_run (unit one ∷ before) = of_time one.time (last_run before) ++ one ∷ []

-- the set of a run is in hand: there is a unit of it, and its end has not come
abbrev pub is_in_hand : ℕ → List PesUnit → Bool
is_in_hand coded [] = false
is_in_hand coded (one ∷ units) = not (is_ended coded (frames_in (one ∷ units)))

-- ---- a packet

-- how many bytes of a payload begin or continue a unit
abbrev pub bytes_of_part : Option (List ℕ) → Option UnitPart → ℕ
bytes_of_part hand None = 0
bytes_of_part hand (Some (Begins payload)) = length payload
bytes_of_part None (Some (Adds payload)) = 0
bytes_of_part (Some bytes) (Some (Adds payload)) = length payload
bytes_of_part hand (Some Breaks) = 0

-- a unit of another time than that of a set in hand makes this set ready
abbrev pub makes_ready : ℕ → List PesUnit → Option Arrival → Bool
makes_ready coded run (Some (unit one)) =
    is_in_hand coded run && not (list_any (λ (other : PesUnit). other.time == one.time) run)
makes_ready coded run other = false

-- a unit is dropped: it is refused, passed over, or stands behind the end of its set
abbrev pub is_dropped : ℕ → List PesUnit → Option Arrival → Bool
is_dropped coded run None = false
is_dropped coded run (Some loss) = false
is_dropped coded run (Some refused_unit) = true
is_dropped coded run (Some aside) = true
is_dropped coded run (Some (unit one)) = is_ended coded (frames_in (of_time one.time run))

-- what a packet brings: how many bytes; whether its unit makes the set in hand ready before them, since it has another
-- time; and whether its unit is dropped behind them
pub record PacketArrival : Type 0 where
  pub bytes : ℕ
  pub before : Bool
  pub dropped : Bool

-- the run in hand as the packet's unit comes: none where the packet means a loss
abbrev pub run_before : ℕ → ℕ → Pages → List (List ℕ) → List ℕ → List PesUnit
run_before coded pid pages before packet =
    last_run (losses_at (event_at pid coded before packet) ++ reverse (arrivals_of coded pid pages before))

-- the unit that the packet ends
abbrev pub unit_ended : ℕ → ℕ → Pages → List (List ℕ) → List ℕ → Option Arrival
unit_ended coded pid pages before packet =
    option_map (arrival_of_unit pages (length before)) (unit_at pid coded before packet)

-- what a packet brings to a receiver with so many bytes of coded data, behind packets that were all taken
abbrev pub packet_arrival : ℕ → ℕ → Pages → List (List ℕ) → List ℕ → PacketArrival
packet_arrival coded pid pages before packet = record {
  bytes = bytes_of_part (hand_after pid coded before) (part_of pid before packet);
  before = makes_ready coded (run_before coded pid pages before packet) (unit_ended coded pid pages before packet);
  dropped =
      ends_too_long coded pid before packet
      || is_dropped coded (run_before coded pid pages before packet) (unit_ended coded pid pages before packet);
}

-- the packet breaks off a unit in hand, so that its bytes are dropped before the packet's arrive
abbrev pub is_break : Event → Bool
is_break event.Followed = false
is_break event.Other = false
is_break event.NoPayload = false
is_break event.Double = false
is_break event.Dropped = false
is_break (event.Gap expected found) = true
is_break event.ErrorFlag = true
is_break (event.Short have) = true
is_break (event.TooLong need size) = false
