-- How a tool that tells of one stream ends, and what its output has received then; whatever it tells.
use Rattle.std.specs.Prelude.{◌≡◌, ℕ, ◌⊎◌, List, None, codes}
use Rattle.packet_source.specs.declared.limits.TheConstants.{STREAM_LIMIT}
use Rattle.packet_walk.specs.ToldEnds.{IsFront, IsToldEnd, IsUpToFailure, IsUpToFault, IsWhole, Telling}
use Rattle.packet_walk.specs.declared.told_end.ToldEnd.{ToldEnd}
use Rattle.packet_walk.specs.declared.told_end.ToldEnd.TheVariants as told_end
use Rattle.sub_base.specs.Endpoints.{Received, Supplied, WroteNothing}
use Rattle.sub_base.specs.Seen.{Seen, seen}
use Rattle.sub_base.specs.ToolOutcome.{Causes}
use Rattle.sub_base.specs.declared.status.ToolStatus.{ToolStatus}
use Rattle.sub_base.specs.declared.status.ToolStatus.TheVariants as tool
use Rattle.sub_base.specs.declared.status.Which.TheVariants as which
use Rattle.stream_report.specs.declared.report_fault.ReportFault.{ReportFault}
use Rattle.stream_report.specs.declared.report_fault.ReportFault.TheVariants as fault

-- the name of a fault in the notes
abbrev pub report_fault_name : ReportFault → List ℕ
report_fault_name (fault.Stream packet why) = codes "Stream"

-- what is seen of the source and the sink of a tool that reads one stream: there is no second source
abbrev pub seen_of_stream : Supplied → Received → Seen
seen_of_stream stream out = seen stream (record { left = None; given = 0; faults = 0 }) out

-- the status of each end of a telling; a rest that is shorter than a packet is passed over
abbrev pub report_status : ToldEnd → ToolStatus ReportFault
report_status (told_end.Done cut) = tool.Done
report_status (told_end.Refused refused) = tool.Refused (fault.Stream refused.packet refused.fault)
report_status told_end.Unread = tool.ReadFault which.First
report_status told_end.TooLong = tool.InputTooLong which.First
report_status told_end.Unwritten = tool.WriteFault which.Out
report_status told_end.Memory = tool.Memory

-- the stream was read to its end, and the output has received the text of its packets
abbrev pub IsReported : Telling → ℕ → Seen → Seen → Type 0
IsReported Told pid before now = (cut : ℕ) × IsWhole Told pid before.first now.first before.out now.out cut

-- the packet at a place is the first that is refused, and the output has received the text of those before it
abbrev pub IsReportRefused : Telling → ℕ → Seen → Seen → ReportFault → Type 0
IsReportRefused Told pid before now (fault.Stream packet why) =
    IsUpToFault Told pid before.first now.first before.out now.out packet why

-- nothing was written, or a prefix of the text of packets that the source gave
abbrev pub IsReportStopped : Telling → ℕ → Seen → Seen → Type 0
IsReportStopped Told pid before now =
    WroteNothing before.out now.out ⊎ IsFront Told pid before.first now.first before.out now.out

-- the causes of the statuses of a tool that tells so of the packets of a PID
abbrev pub report_causes : Telling → ℕ → Seen → Seen → Causes ReportFault
report_causes Told pid before now = record {
  IsDone = IsReported Told pid before now;
  IsRefused = IsReportRefused Told pid before now;
  IsStopped = IsReportStopped Told pid before now;
  limit = STREAM_LIMIT;
}

-- where the stream could not be read on, the output has received the text of the packets that were read whole; where
-- memory is wanting, nothing was read or written
abbrev pub HasReportedRead : Telling → ℕ → Seen → Seen → ToolStatus ReportFault → Type 0
HasReportedRead Told pid before now (tool.ReadFault which) =
    IsUpToFailure Told pid before.first now.first before.out now.out
HasReportedRead Told pid before now tool.Memory = (now.first ≡ before.first) × WroteNothing before.out now.out
HasReportedRead Told pid before now tool.Done = Unit {0}
HasReportedRead Told pid before now tool.Usage = Unit {0}
HasReportedRead Told pid before now (tool.Refused fault) = Unit {0}
HasReportedRead Told pid before now (tool.WriteFault which) = Unit {0}
HasReportedRead Told pid before now (tool.InputTooLong which) = Unit {0}

-- ---- memory that is taken as the stream is read

-- the cause of each end of a telling that takes memory in the middle of the stream: where it is wanting, nothing was
-- written, or a prefix of the text of packets that the source gave
abbrev pub IsLaterEnd : Telling → ℕ → Supplied → Supplied → Received → Received → ToldEnd → Type 0
IsLaterEnd Told pid before now out_before out_now (told_end.Done cut) =
    IsToldEnd Told pid before now out_before out_now (told_end.Done cut)
IsLaterEnd Told pid before now out_before out_now (told_end.Refused refused) =
    IsToldEnd Told pid before now out_before out_now (told_end.Refused refused)
IsLaterEnd Told pid before now out_before out_now told_end.Unread =
    IsToldEnd Told pid before now out_before out_now told_end.Unread
IsLaterEnd Told pid before now out_before out_now told_end.TooLong =
    IsToldEnd Told pid before now out_before out_now told_end.TooLong
IsLaterEnd Told pid before now out_before out_now told_end.Unwritten =
    IsToldEnd Told pid before now out_before out_now told_end.Unwritten
IsLaterEnd Told pid before now out_before out_now told_end.Memory =
    WroteNothing out_before out_now ⊎ IsFront Told pid before now out_before out_now

-- where the stream could not be read on, the output has received the text of the packets that were read whole; where
-- memory is wanting, nothing or a prefix
abbrev pub HasReportedLater : Telling → ℕ → Seen → Seen → ToolStatus ReportFault → Type 0
HasReportedLater Told pid before now (tool.ReadFault which) =
    IsUpToFailure Told pid before.first now.first before.out now.out
HasReportedLater Told pid before now tool.Memory = IsReportStopped Told pid before now
HasReportedLater Told pid before now tool.Done = Unit {0}
HasReportedLater Told pid before now tool.Usage = Unit {0}
HasReportedLater Told pid before now (tool.Refused fault) = Unit {0}
HasReportedLater Told pid before now (tool.WriteFault which) = Unit {0}
HasReportedLater Told pid before now (tool.InputTooLong which) = Unit {0}
