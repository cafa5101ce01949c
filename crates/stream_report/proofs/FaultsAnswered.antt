-- What holds of the status of a run of `faults` holds of its answer.
use Rattle.std.proofs.Common.{ℕ, List, Option, Some, None}
use Rattle.sub_base.specs.Endpoints.{Received}
use Rattle.sub_base.specs.Seen.{Seen}
use Rattle.sub_base.specs.ToolOutcome.{TellsTool}
use Rattle.sub_base.specs.declared.status.ToolStatus.{ToolStatus}
use Rattle.stream_report.specs.FaultsOutcome.{HasFaultsRead}
use Rattle.stream_report.specs.declared.faults_words.FaultReport.{FaultReport}
use Rattle.stream_report.specs.declared.report_fault.ReportFault.{ReportFault}
use Rattle.stream_report.proofs.EndLaws.{answered}

pub faults_answered : (asked : Option FaultReport) (before now : Seen) (name : ReportFault → List ℕ)
    (notes_before notes_now : Received) (run answer : ToolStatus ReportFault) → HasFaultsRead asked before now run
    → TellsTool name notes_before notes_now run answer → HasFaultsRead asked before now answer
faults_answered None before now name notes_before notes_now run answer held tells = tt
faults_answered (Some report) before now name notes_before notes_now run answer held tells =
    answered (HasFaultsRead (Some report) before now) name notes_before notes_now run answer tt held tells
