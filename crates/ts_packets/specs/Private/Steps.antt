-- What a demultiplexer does at one packet, by what it keeps.
use Rattle.std.specs.Prelude.{◌≡◌, ℕ, ◌≤◌, Bool, if◌then◌else◌, List, length, Some, None}
use Rattle.std.specs.Option.{ForSome}
use Rattle.stream_syntax.specs.declared.transport.Event.{Event}
use Rattle.stream_syntax.specs.declared.transport.Event.TheVariants as event
use Rattle.stream_syntax.specs.TransportPackets.{packet_fault, counter_of}
use Rattle.stream_syntax.specs.Units.{Succession, is_payload, part_after, event_after, unit_after, payload_part, payload_event}
use Rattle.ts_packets.specs.Demuxing.{Demuxing, hand_of, next_hand, lent_bytes}
use Rattle.ts_packets.specs.declared.demux.Step.{Step}
use Rattle.ts_packets.specs.declared.demux.Fate.{Fate}
use Rattle.ts_packets.specs.declared.demux.Fate.TheVariants as fate

-- a packet that follows is too long where its unit is; another event stays
abbrev pub over : ℕ → ℕ → Event → Event
over size need event.Followed = event.TooLong need size
over size need other = other

-- what is answered at a packet, by its event without regard to the room and by what becomes of its unit: the event, and
-- how many bytes of a unit are handed out
abbrev pub answered : ℕ → Event → Fate → Step
answered size told fate.Waits = record { event = told; unit = None }
answered size told (fate.Whole count) = record { event = told; unit = Some count }
answered size told (fate.Over need) = record { event = over size need told; unit = None }

-- what a payload packet of this succession does and answers
pub record Answers (old new : Demuxing) (step : Step) (order : Succession) (start : Bool)
    (payload : List ℕ) : Type 0 where
  pub pid : new.pid ≡ old.pid
  pub size : new.size ≡ old.size
  pub hand : hand_of new ≡ next_hand old.size (hand_of old) (payload_part order start payload)
  pub told : step.event ≡ payload_event old.size (hand_of old) order start payload
  pub lent : lent_bytes new.bytes step.unit ≡ unit_after old.size (hand_of old) (payload_part order start payload)
  pub within : ForSome step.unit (λ count. count ≤ length new.bytes)

-- what a packet that can be taken does and answers
pub record StepsOn (old new : Demuxing) (step : Step) (packet : List ℕ) : Type 0 where
  pub takes : packet_fault old.pid packet ≡ None
  pub pid : new.pid ≡ old.pid
  pub size : new.size ≡ old.size
  pub counter : new.counter ≡ (if is_payload old.pid packet then Some (counter_of packet) else old.counter)
  pub hand : hand_of new ≡ next_hand old.size (hand_of old) (part_after old.pid old.counter packet)
  pub told : step.event ≡ event_after old.pid old.size old.counter (hand_of old) packet
  pub lent : lent_bytes new.bytes step.unit
      ≡ unit_after old.size (hand_of old) (part_after old.pid old.counter packet)
  pub within : ForSome step.unit (λ count. count ≤ length new.bytes)
