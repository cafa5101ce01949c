-- Why a stream is not gone through to its end.
use Rattle.std.specs.Prelude.{◌≡◌, ℕ, List, Some}
use Rattle.stream_syntax.specs.TransportPackets.{packet_fault}
use Rattle.splice.specs.declared.stream_reader.ReadStop.{ReadStop}
use Rattle.splice.specs.declared.stream_reader.ReadStop.TheVariants as stop

-- the packet of that place cannot be taken; want of memory has no cause
abbrev pub IsStopAt : ℕ → ℕ → List ℕ → ReadStop → Type 0
IsStopAt pid place packet stop.Memory = Unit {0}
IsStopAt pid place packet (stop.Refused number fault) = (number ≡ place) × (packet_fault pid packet ≡ Some fault)
