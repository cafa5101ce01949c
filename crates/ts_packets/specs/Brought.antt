-- What a packet brings to a unit, by its event: its bytes that begin or continue one, and whether the unit is dropped
-- with them as too long.
use Rattle.std.specs.Prelude.{ℕ, ◌&&◌, Bool, true, false, if◌then◌else◌, List, length}
use Rattle.stream_syntax.specs.TransportPackets.{payload_of, has_start_flag}
use Rattle.stream_syntax.specs.Units.{Fate, Waits, Whole, Over, fate_of}
use Rattle.stream_syntax.specs.declared.transport.Event.{Event}
use Rattle.stream_syntax.specs.declared.transport.Event.TheVariants as event

-- a unit with this fate needs more bytes than are taken
abbrev pub is_over_fate : Fate → Bool
is_over_fate Waits = false
is_over_fate (Whole bytes) = false
is_over_fate (Over need) = true

-- the bytes of a packet where it begins a unit
abbrev pub bytes_at_start : List ℕ → ℕ
bytes_at_start packet = if has_start_flag packet then length (payload_of packet) else 0

-- how many bytes of a packet begin or continue a unit, by its event: behind missing packets, or where a unit is in
-- hand, only one that begins a unit has any
abbrev pub bytes_by : Event → List ℕ → ℕ
bytes_by event.Followed packet = length (payload_of packet)
bytes_by event.Other packet = 0
bytes_by event.NoPayload packet = 0
bytes_by event.Double packet = 0
bytes_by event.Dropped packet = 0
bytes_by (event.Gap expected found) packet = bytes_at_start packet
bytes_by event.ErrorFlag packet = 0
bytes_by (event.Short have) packet = bytes_at_start packet
bytes_by (event.TooLong need size) packet = length (payload_of packet)

-- a packet begins a unit that needs more bytes than are taken
abbrev pub too_long_at_start : ℕ → List ℕ → Bool
too_long_at_start size packet = has_start_flag packet && is_over_fate (fate_of size (payload_of packet))

-- whether a unit is dropped as too long with a packet, by its event
abbrev pub too_long_by : ℕ → Event → List ℕ → Bool
too_long_by size event.Followed packet = false
too_long_by size event.Other packet = false
too_long_by size event.NoPayload packet = false
too_long_by size event.Double packet = false
too_long_by size event.Dropped packet = false
too_long_by size (event.Gap expected found) packet = too_long_at_start size packet
too_long_by size event.ErrorFlag packet = false
too_long_by size (event.Short have) packet = too_long_at_start size packet
too_long_by size (event.TooLong need most) packet = true
