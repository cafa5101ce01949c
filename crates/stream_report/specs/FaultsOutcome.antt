-- How `faults` ends.
use Rattle.std.specs.Prelude.{Option, Some, None}
use Rattle.decoder_model.specs.Received.{for_page}
use Rattle.fault_text.specs.FaultText.{IsFaultsText}
use Rattle.packet_walk.specs.ToldEnds.{Telling}
use Rattle.sub_base.specs.Seen.{Seen}
use Rattle.sub_base.specs.ToolOutcome.{Causes}
use Rattle.sub_base.specs.declared.status.ToolStatus.{ToolStatus}
use Rattle.stream_report.specs.ReportOutcome.{HasReportedRead, report_causes}
use Rattle.stream_report.specs.declared.faults_words.FaultReport.{FaultReport}
use Rattle.stream_report.specs.declared.report_fault.ReportFault.{ReportFault}

-- what it tells by its words, in a receiver whose lifted times begin at 0
abbrev pub tells_faults : FaultReport → Telling
tells_faults report ended packets text =
    IsFaultsText (for_page report.profile report.pid report.page 0) ended packets text

-- the causes of its statuses
abbrev pub faults_causes : FaultReport → Seen → Seen → Causes ReportFault
faults_causes report before now = report_causes (tells_faults report) report.pid before now

-- what its output has received where the stream could not be read, or memory is wanting
abbrev pub HasFaultsRead : Option FaultReport → Seen → Seen → ToolStatus ReportFault → Type 0
HasFaultsRead None before now status = Unit {0}
HasFaultsRead (Some report) before now status =
    HasReportedRead (tells_faults report) report.pid before now status
