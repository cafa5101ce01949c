-- How `levels` ends.
use Rattle.std.specs.Prelude.{Option, Some, None}
use Rattle.decoder_model.specs.Received.{Reception, for_page}
use Rattle.level_text.specs.ClockText.{IsClockText}
use Rattle.level_text.specs.LevelText.{IsLevelText}
use Rattle.level_text.specs.ProgrammeClock.{samples_of}
use Rattle.packet_walk.specs.ToldEnds.{IsToldEnd, Telling}
use Rattle.packet_walk.specs.declared.told_end.ToldEnd.{ToldEnd}
use Rattle.sub_base.specs.Endpoints.{Received, Supplied}
use Rattle.sub_base.specs.Seen.{Seen}
use Rattle.sub_base.specs.ToolOutcome.{Causes}
use Rattle.sub_base.specs.declared.status.ToolStatus.{ToolStatus}
use Rattle.stream_report.specs.ReportOutcome.{HasReportedLater, HasReportedRead, IsLaterEnd, report_causes}
use Rattle.stream_report.specs.declared.levels_words.Arrival.{Arrival}
use Rattle.stream_report.specs.declared.levels_words.Arrival.TheVariants as arrival
use Rattle.stream_report.specs.declared.levels_words.LevelReport.{LevelReport}
use Rattle.stream_report.specs.declared.report_fault.ReportFault.{ReportFault}

-- what is told of packets that arrive so: by a rate in a receiver whose lifted times begin at 0, and by the clock of
-- the programme that lists the PID in one whose lifted times begin with the stream
abbrev pub tells_of : Arrival → Reception → Telling
tells_of (arrival.Rate bits) made ended packets text = IsLevelText bits made ended packets text
tells_of arrival.Clock made ended packets text =
    IsClockText (samples_of made.pid packets) made ended packets text

-- what `levels` tells by its words
abbrev pub tells_levels : LevelReport → Telling
tells_levels report = tells_of report.arrival (for_page report.profile report.pid report.page 0)

-- the causes of its statuses
abbrev pub levels_causes : LevelReport → Seen → Seen → Causes ReportFault
levels_causes report before now = report_causes (tells_levels report) report.pid before now

-- the cause of each end of the telling: by the clock a receiver takes its memory once the tick of the first packet is
-- known
abbrev pub IsLevelsEnd : Arrival → Reception → Supplied → Supplied → Received → Received → ToldEnd → Type 0
IsLevelsEnd (arrival.Rate bits) made before now out_before out_now end =
    IsToldEnd (tells_of (arrival.Rate bits) made) made.pid before now out_before out_now end
IsLevelsEnd arrival.Clock made before now out_before out_now end =
    IsLaterEnd (tells_of arrival.Clock made) made.pid before now out_before out_now end

-- what the output has received where the stream could not be read, or memory is wanting
abbrev pub HasLevelsTold : Arrival → Reception → Seen → Seen → ToolStatus ReportFault → Type 0
HasLevelsTold (arrival.Rate bits) made before now status =
    HasReportedRead (tells_of (arrival.Rate bits) made) made.pid before now status
HasLevelsTold arrival.Clock made before now status =
    HasReportedLater (tells_of arrival.Clock made) made.pid before now status

-- what the output of `levels` has received where the stream could not be read on, or memory is wanting; of words that
-- are no command nothing is said
abbrev pub HasLevelsRead : Option LevelReport → Seen → Seen → ToolStatus ReportFault → Type 0
HasLevelsRead None before now status = Unit {0}
HasLevelsRead (Some report) before now status =
    HasLevelsTold report.arrival (for_page report.profile report.pid report.page 0) before now status
