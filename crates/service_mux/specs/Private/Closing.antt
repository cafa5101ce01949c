-- How `take` ends once its walk over the stream has ended.
use Rattle.std.specs.Prelude.{◌≡◌, ℕ, Bool, if◌then◌else◌}
use Rattle.sub_base.specs.Endpoints.{Received}
use Rattle.sub_base.specs.declared.status.ToolStatus.{ToolStatus}
use Rattle.sub_base.specs.declared.status.ToolStatus.TheVariants as tool
use Rattle.sub_base.specs.declared.status.Which.TheVariants as which
use Rattle.command_text.specs.Closing.{Closes}
use Rattle.command_text.specs.Putting.{Buffered}
use Rattle.packet_source.specs.declared.stream_end.StreamEnd.{StreamEnd}
use Rattle.packet_source.specs.declared.stream_end.StreamEnd.TheVariants as stream
use Rattle.packet_walk.specs.declared.walk.Refused.{Refused}
use Rattle.packet_walk.specs.declared.walk.WalkEnd.{WalkEnd}
use Rattle.packet_walk.specs.declared.walk.WalkEnd.TheVariants as end
use Rattle.stream_syntax.specs.declared.transport.PacketFault.{PacketFault}
use Rattle.stream_syntax.specs.declared.transport.PacketFault.TheVariants as packet_faults
use Rattle.service_mux.specs.declared.take_fault.TakeFault.{TakeFault}
use Rattle.service_mux.specs.declared.take_fault.TakeFault.TheVariants as fault

-- how it ends where the source gives no packet more and the output is written
abbrev pub status_at : ℕ → Bool → StreamEnd → ToolStatus TakeFault
status_at service found (stream.Whole cut) = if found then tool.Done else tool.Refused (fault.NoService service)
status_at service found stream.Unread = tool.ReadFault which.First
status_at service found stream.TooLong = tool.InputTooLong which.First

-- how it ends at a packet that cannot be taken and the output is written. A packet is refused for its sync byte alone:
-- no packet of bytes has the taker's PID
abbrev pub status_by : ℕ → PacketFault → ToolStatus TakeFault
status_by packet packet_faults.NoSync = tool.Refused (fault.NoSync packet)
status_by packet packet_faults.Scrambled = tool.Memory
status_by packet packet_faults.ReservedControl = tool.Memory
status_by packet packet_faults.BadAdaptation = tool.Memory

-- how it ends where the walk has refused a packet and the output is written
abbrev pub status_of_refused : Refused → ToolStatus TakeFault
status_of_refused refused = status_by refused.packet refused.fault

-- by the end of the walk
abbrev pub ClosesTake : Received → Received → Buffered → ℕ → Bool → WalkEnd → ToolStatus TakeFault
    → Type 0
ClosesTake before now buffer service found (end.Stream ended) answer =
    Closes before now buffer (status_at service found ended) answer
ClosesTake before now buffer service found (end.Refused refused) answer =
    Closes before now buffer (status_of_refused refused) answer
ClosesTake before now buffer service found end.Unwritten answer =
    (answer ≡ tool.WriteFault which.Out) × (now ≡ before)
