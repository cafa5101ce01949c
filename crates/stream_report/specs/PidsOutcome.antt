-- How `pids` ends.
use Rattle.std.specs.Prelude.{Option, Some, None}
use Rattle.packet_walk.specs.ToldEnds.{IsToldEnd, IsUpToFailure, Telling}
use Rattle.packet_walk.specs.declared.told_end.ToldEnd.{ToldEnd}
use Rattle.packet_walk.specs.declared.told_end.ToldEnd.TheVariants as told_end
use Rattle.pid_text.specs.PidText.{NO_PID}
use Rattle.service_text.specs.Telling.{IsStreamText}
use Rattle.sub_base.specs.Endpoints.{Received, Supplied, WroteNothing}
use Rattle.sub_base.specs.Seen.{Seen}
use Rattle.sub_base.specs.ToolOutcome.{Causes}
use Rattle.sub_base.specs.declared.status.ToolStatus.{ToolStatus}
use Rattle.sub_base.specs.declared.status.ToolStatus.TheVariants as tool
use Rattle.stream_report.specs.ReportOutcome.{report_causes}
use Rattle.stream_report.specs.declared.pids_words.PidsReport.{PidsReport}
use Rattle.stream_report.specs.declared.report_fault.ReportFault.{ReportFault}

-- what `pids` tells of packets, whether the stream ends with them or not
abbrev pub tells_pids : Telling
tells_pids ended packets text = IsStreamText packets text

-- the causes of its statuses: a packet is refused for its sync byte alone
abbrev pub pids_causes : PidsReport → Seen → Seen → Causes ReportFault
pids_causes report before now = report_causes tells_pids NO_PID before now

-- the cause of each end of the telling. A PID and a programme take memory as they are met, so that memory may be
-- wanting in the middle of the stream: nothing was written then
abbrev pub IsPidsEnd : Supplied → Supplied → Received → Received → ToldEnd → Type 0
IsPidsEnd before now out_before out_now (told_end.Done cut) =
    IsToldEnd tells_pids NO_PID before now out_before out_now (told_end.Done cut)
IsPidsEnd before now out_before out_now (told_end.Refused refused) =
    IsToldEnd tells_pids NO_PID before now out_before out_now (told_end.Refused refused)
IsPidsEnd before now out_before out_now told_end.Unread =
    IsToldEnd tells_pids NO_PID before now out_before out_now told_end.Unread
IsPidsEnd before now out_before out_now told_end.TooLong =
    IsToldEnd tells_pids NO_PID before now out_before out_now told_end.TooLong
IsPidsEnd before now out_before out_now told_end.Unwritten =
    IsToldEnd tells_pids NO_PID before now out_before out_now told_end.Unwritten
IsPidsEnd before now out_before out_now told_end.Memory = WroteNothing out_before out_now

-- where the stream could not be read on, the output has received the text of the packets that were read whole; where
-- memory is wanting, nothing was written
abbrev pub HasToldPids : Seen → Seen → ToolStatus ReportFault → Type 0
HasToldPids before now (tool.ReadFault which) =
    IsUpToFailure tells_pids NO_PID before.first now.first before.out now.out
HasToldPids before now tool.Memory = WroteNothing before.out now.out
HasToldPids before now tool.Done = Unit {0}
HasToldPids before now tool.Usage = Unit {0}
HasToldPids before now (tool.Refused fault) = Unit {0}
HasToldPids before now (tool.WriteFault which) = Unit {0}
HasToldPids before now (tool.InputTooLong which) = Unit {0}

-- what the output of `pids` has received where the stream could not be read on, or memory is wanting; of words that
-- are no command nothing is said
abbrev pub HasPidsRead : Option PidsReport → Seen → Seen → ToolStatus ReportFault → Type 0
HasPidsRead None before now status = Unit {0}
HasPidsRead (Some report) before now status = HasToldPids before now status
