-- How `pictures` ends.
use Rattle.std.specs.Prelude.{Option, Some, None}
use Rattle.sub_base.specs.Seen.{Seen}
use Rattle.sub_base.specs.ToolOutcome.{Causes}
use Rattle.sub_base.specs.declared.status.ToolStatus.{ToolStatus}
use Rattle.stream_report.specs.PicturesText.{tells_pictures}
use Rattle.stream_report.specs.ReportOutcome.{HasReportedRead, report_causes}
use Rattle.stream_report.specs.declared.pictures_words.PictureReport.{PictureReport}
use Rattle.stream_report.specs.declared.report_fault.ReportFault.{ReportFault}

-- the causes of its statuses
abbrev pub pictures_causes : PictureReport → Seen → Seen → Causes ReportFault
pictures_causes report before now = report_causes (tells_pictures report) report.pid before now

-- what its output has received where the stream could not be read, or memory is wanting
abbrev pub HasPicturesRead : Option PictureReport → Seen → Seen → ToolStatus ReportFault → Type 0
HasPicturesRead None before now status = Unit {0}
HasPicturesRead (Some report) before now status =
    HasReportedRead (tells_pictures report) report.pid before now status
