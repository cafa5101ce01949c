-- What `levels` answers.
use Rattle.std.proofs.Common.{ℕ, List, Option, Some, None}
use Rattle.decoder_model.specs.Received.{Reception, for_page}
use Rattle.packet_walk.specs.declared.told_end.ToldEnd.{ToldEnd}
use Rattle.sub_base.specs.Endpoints.{Received, Supplied}
use Rattle.sub_base.specs.Seen.{Seen}
use Rattle.sub_base.specs.ToolOutcome.{IsToolCause, TellsTool}
use Rattle.sub_base.specs.declared.status.ToolStatus.{ToolStatus}
use Rattle.sub_base.specs.declared.status.ToolStatus.TheVariants as tool
use Rattle.sub_base.specs.declared.status.Which.TheVariants as which
use Rattle.stream_report.specs.LevelsOutcome.{HasLevelsRead, HasLevelsTold, IsLevelsEnd, tells_of}
use Rattle.stream_report.specs.ReportOutcome.{report_causes, report_status, seen_of_stream}
use Rattle.stream_report.specs.declared.levels_words.Arrival.{Arrival}
use Rattle.stream_report.specs.declared.levels_words.Arrival.TheVariants as arrival
use Rattle.stream_report.specs.declared.levels_words.LevelReport.{LevelReport}
use Rattle.stream_report.specs.declared.report_fault.ReportFault.{ReportFault}
use Rattle.stream_report.proofs.EndLaws.{answered, later_cause, later_read, report_cause, report_read}

module _ (by : Arrival) (made : Reception) (before now : Supplied) (start next : Received) where
  -- each end of the telling is the cause of its status
  pub levels_cause : (end : ToldEnd) → IsLevelsEnd by made before now start next end
      → IsToolCause (report_causes (tells_of by made) made.pid (seen_of_stream before start) (seen_of_stream now next))
      (seen_of_stream before start) (seen_of_stream now next) (report_status end)
  levels_cause end is = by_arrival by is
    where
      by_arrival : (one : Arrival) → IsLevelsEnd one made before now start next end
          → IsToolCause (report_causes (tells_of one made) made.pid (seen_of_stream before start)
          (seen_of_stream now next)) (seen_of_stream before start) (seen_of_stream now next) (report_status end)
      by_arrival (arrival.Rate bits) is =
          report_cause (tells_of (arrival.Rate bits) made) made.pid before now start next end is
      by_arrival arrival.Clock is = later_cause (tells_of arrival.Clock made) made.pid before now start next end is

  pub levels_read : (end : ToldEnd) → IsLevelsEnd by made before now start next end
      → HasLevelsTold by made (seen_of_stream before start) (seen_of_stream now next) (report_status end)
  levels_read end is = by_arrival by is
    where
      by_arrival : (one : Arrival) → IsLevelsEnd one made before now start next end
          → HasLevelsTold one made (seen_of_stream before start) (seen_of_stream now next) (report_status end)
      by_arrival (arrival.Rate bits) is =
          report_read (tells_of (arrival.Rate bits) made) made.pid before now start next end is
      by_arrival arrival.Clock is = later_read (tells_of arrival.Clock made) made.pid before now start next end is

notes_failed : (by : Arrival) (made : Reception) (before now : Seen)
    → HasLevelsTold by made before now (tool.WriteFault which.Notes)
notes_failed (arrival.Rate bits) made before now = tt
notes_failed arrival.Clock made before now = tt

-- what holds of the status of a run holds of the answer of the tool
pub levels_answered : (asked : Option LevelReport) (before now : Seen) (name : ReportFault → List ℕ)
    (notes_before notes_now : Received) (run answer : ToolStatus ReportFault) → HasLevelsRead asked before now run
    → TellsTool name notes_before notes_now run answer → HasLevelsRead asked before now answer
levels_answered None before now name notes_before notes_now run answer held tells = tt
levels_answered (Some report) before now name notes_before notes_now run answer held tells =
    answered (HasLevelsRead (Some report) before now) name notes_before notes_now run answer
    (notes_failed report.arrival (for_page report.profile report.pid report.page 0) before now) held tells
