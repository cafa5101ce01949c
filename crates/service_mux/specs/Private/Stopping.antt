-- What stops a run of `mux` before the end of its streams.
use Rattle.sub_base.specs.declared.status.ToolStatus.{ToolStatus}
use Rattle.sub_base.specs.declared.status.ToolStatus.TheVariants as tool
use Rattle.sub_base.specs.declared.status.Which.{Which}
use Rattle.service_mux.specs.declared.lane.LaneStop.{LaneStop}
use Rattle.service_mux.specs.declared.lane.LaneStop.TheVariants as stop
use Rattle.service_mux.specs.declared.mux_fault.MuxFault.{MuxFault}

-- the status that tells what stopped a stream
abbrev pub stop_status : LaneStop → Which → ToolStatus MuxFault
stop_status stop.Unread source = tool.ReadFault source
stop_status stop.TooLong source = tool.InputTooLong source
