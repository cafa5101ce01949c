-- The packets of a stream that were passed, one after the other.
use Rattle.std.specs.Prelude.{◌≡◌, ℕ, ◌<◌, ◌≤◌, Bool, true, false, not, List, [], ◌∷◌, ◌++◌, length, take, slice_get, Option, Some, None, if◌then◌else◌}
use Rattle.std.specs.Io.KnownBytes.{IsAtEnd}
use Rattle.sub_base.specs.Counts.{HasRisenPast}
use Rattle.sub_base.specs.Endpoints.{HasReadFault, Supplied}
use Rattle.packet_source.specs.InHand.{InHand, read_count, whole_packets}
use Rattle.packet_source.specs.Packets.{HasGivenInHand}
use Rattle.packet_source.specs.declared.limits.TheConstants.{STREAM_LIMIT}
use Rattle.stream_syntax.specs.TransportPackets.{has_sync}
use Rattle.stream_syntax.specs.declared.wire.TheConstants.{PACKET_LENGTH}
use Rattle.service_mux.specs.declared.lane.Lane.{Lane}
use Rattle.service_mux.specs.declared.lane.LaneStop.{LaneStop}
use Rattle.service_mux.specs.declared.lane.LaneStop.TheVariants as stop

-- no more packets were passed than are in hand, and the stream is within its limit
pub record IsSound (lane : Lane) : Type 0 where
  pub within : lane.next ≤ length (whole_packets lane.packets.bytes)
  pub limit : read_count lane.packets ≤ STREAM_LIMIT

-- the stream has ended: no whole packet is in hand
pub record HasEnded (now : Supplied) (hand : InHand) : Type 0 where
  pub end : IsAtEnd now.left
  pub short : length hand.bytes < PACKET_LENGTH

-- the source gave these packets, which were passed, and then those in hand that were not, and a rest
pub record HasPassed (before now : Supplied) (lane : Lane) (packets : List (List ℕ)) : Type 0 where
  pub earlier : List (List ℕ)
  pub stands : HasGivenInHand before now lane.packets earlier
  pub passed : packets ≡ earlier ++ take lane.next (whole_packets lane.packets.bytes)
  pub ended : lane.is_ended ≡ true → HasEnded now lane.packets

-- whichever packets were passed: the same were passed after the call
abbrev pub Keeps : Supplied → Supplied → Lane → Lane → Type 0
Keeps was is old new = (before : Supplied) (packets : List (List ℕ)) → HasPassed before was old packets
    → HasPassed before is new packets

-- whether there is a packet that was not passed; where there is none, the stream has ended
pub record Reaches (lane : Lane) (more : Bool) : Type 0 where
  pub there : more ≡ true → lane.next < length (whole_packets lane.packets.bytes)
  pub ended : more ≡ false → lane.is_ended ≡ true

-- a packet, if there is one, as a list
abbrev pub as_list : Option (List ℕ) → List (List ℕ)
as_list None = []
as_list (Some packet) = packet ∷ []

-- the packet that was reached, where there is one
abbrev pub reached : Lane → Bool → Option (List ℕ)
reached lane more = if more then slice_get (whole_packets lane.packets.bytes) lane.next else None

-- a packet was reached that does not begin with the sync byte
abbrev pub lacks_sync : Option (List ℕ) → Bool
lacks_sync None = false
lacks_sync (Some packet) = not (has_sync packet)

-- whichever packets were passed: one more was passed
abbrev pub Passes : Lane → Lane → Type 0
Passes old new =
    (before now : Supplied) (packets : List (List ℕ)) (packet : List ℕ) → HasPassed before now old packets
    → slice_get (whole_packets old.packets.bytes) old.next ≡ Some packet
    → HasPassed before now new (packets ++ packet ∷ [])

-- whichever packets were passed: the one that was reached was passed too, where there is one
abbrev pub PassesReached : Lane → Lane → Bool → Type 0
PassesReached old new more = (before now : Supplied) (packets : List (List ℕ)) → HasPassed before now old packets
    → HasPassed before now new (packets ++ as_list (reached old more))

-- why a stream gives no packet more
abbrev pub IsLaneStop : Supplied → Supplied → Supplied → LaneStop → Type 0
IsLaneStop before was is stop.Unread = HasReadFault was is
IsLaneStop before was is stop.TooLong = HasRisenPast STREAM_LIMIT before.given is.given
