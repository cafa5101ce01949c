-- The calls of the buffer levels that a stream gives, packet by packet (EN 300 743, clause 5.2): packets that arrive,
-- sets that are whole, and bytes that are dropped. What stands for a call may be the call itself, or tell more of it.
use Rattle.std.specs.Prelude.{◌≡◌, ℕ, ◌+◌, ◌-◌, ◌==◌, Bool, false, if◌then◌else◌, List, [], ◌∷◌, ◌++◌, length, map, take, drop, reverse, Option, Some, None}
use Rattle.sub_base.specs.declared.load.SetLoad.{SetLoad}
use Rattle.sub_base.specs.declared.profile.Profile.{Profile}
use Rattle.stream_syntax.specs.Units.{event_at}
use Rattle.stream_syntax.specs.declared.transport.Event.{Event}
use Rattle.buffer_model.specs.Calls.{Call, Arrived, SetWhole, Dropped}
use Rattle.decoder_model.specs.declared.pages.Pages.{Pages}
use Rattle.decoder_model.specs.Arrivals.{packets_taken}
use Rattle.decoder_model.specs.Kept.{lifted_time}
use Rattle.sub_base.specs.Lists.{with_earlier, all_of}
use Rattle.decoder_model.specs.PacketArrivals.{PacketArrival, packet_arrival, is_break}
use Rattle.decoder_model.specs.Painting.{set_load}
use Rattle.decoder_model.specs.Readings.{Reading}
use Rattle.decoder_model.specs.Received.{HasReceived, Reception}
use Rattle.decoder_model.specs.Sets.{Delivery, sets_of}

-- ---- sets

-- the call of a set with that lifted time and load: a set that is not kept is dropped, and a loss has no call
abbrev pub call_by : Option ℕ → Option SetLoad → List Call
call_by lifted None = []
call_by None (Some load) = Dropped ∷ []
call_by (Some time) (Some load) = SetWhole load ∷ []

-- the call of a set or loss behind this past
abbrev pub set_call : Profile → ℕ → List (Delivery Reading) → Delivery Reading → List Call
set_call profile anchor past delivery = call_by (lifted_time anchor past delivery)
    (set_load profile anchor past delivery)

-- what is given for each of the sets and losses in their order, by those before it, which are these and then older
-- ones
abbrev pub each_behind : {Y : Type 0} → (List (Delivery Reading) → Delivery Reading → Y)
    → List (Delivery Reading) → List (Delivery Reading) → List Y
each_behind given older received =
    map (λ (placed : Delivery Reading × List (Delivery Reading)). given placed.1 placed.0)
    (with_earlier older received)

-- the calls of sets and losses in their order, each behind those before it
abbrev pub set_calls : Profile → ℕ → List (Delivery Reading) → List (List Call)
set_calls profile anchor received = each_behind (set_call profile anchor) [] received

-- ---- a packet

-- how many sets and losses come with a packet
abbrev pub count_with : ℕ → ℕ → Pages → List (List ℕ) → List ℕ → ℕ
count_with coded pid pages before packet =
    length (sets_of coded pid pages false (before ++ packet ∷ [])) - length (sets_of coded pid pages false before)

-- a call stands for itself
abbrev pub itself : Call → Call
itself call = call

-- what stands for the call that drops bytes, where they are dropped
abbrev pub drop_where : {X : Type 0} → (Call → X) → Bool → List X
drop_where of dropped = if dropped then of Dropped ∷ [] else []

-- what stands for the call of so many bytes that arrive in a slot; nothing where none do
abbrev pub arrived_in : {X : Type 0} → (Call → X) → ℕ → ℕ → List X
arrived_in of slot bytes = if bytes == 0 then [] else of (Arrived slot bytes) ∷ []

-- the calls of a packet in a slot, in their order, by its event, what it brings, and the calls of the sets that come
-- with it: the first of these stands before the packet's bytes where a unit of another time makes it ready. The
-- packet's own calls are what stands for them
abbrev pub calls_of_packet : {X : Type 0} → (Call → X) → Event → PacketArrival → ℕ → List X → List X
calls_of_packet of event arrival slot sets =
    drop_where of (is_break event)
    ++ ((if arrival.before then take 1 sets else [])
    ++ (arrived_in of slot arrival.bytes
    ++ ((if arrival.before then drop 1 sets else sets) ++ drop_where of arrival.dropped)))

-- ---- a stream

-- the calls of packets behind others, the first of them in that slot, by the calls of the sets and losses that are
-- left: those that no packet makes ready come last, with the end of the stream
abbrev pub calls_from : {X : Type 0} → (Call → X) → ℕ → ℕ → Pages → ℕ
    → List (List ℕ) → List (List ℕ) → List (List X) → List X
calls_from of coded pid pages slot before [] left = all_of left
calls_from of coded pid pages slot before (packet ∷ packets) left =
    calls_of_packet of (event_at pid coded before packet) (packet_arrival coded pid pages before packet) slot
    (all_of (take (count_with coded pid pages before packet) left))
    ++ calls_from of coded pid pages (slot + 1) (before ++ packet ∷ []) packets
    (drop (count_with coded pid pages before packet) left)

-- these are the calls, the latest first, that packets give to a receiver, the first of which stands in that slot; the
-- stream ends with the packets or not
pub record AreCallsOf (reception : Reception) (slot : ℕ) (ended : Bool) (packets : List (List ℕ))
    (calls : List Call) : Type 0 where
  pub past : List (Delivery Reading)
  pub received : HasReceived reception ended packets past
  pub are : calls ≡ reverse (calls_from itself reception.profile.coded reception.pid reception.pages slot []
      (packets_taken reception.pid packets) (set_calls reception.profile reception.anchor (reverse past)))
