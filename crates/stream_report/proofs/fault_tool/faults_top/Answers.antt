use Rattle.command_text.proofs.ToolLaws.{tool_whole}
use Rattle.stream_report.specs.FaultsOutcome.{faults_causes}
use Rattle.stream_report.specs.FaultsWords.{faults_words}
use Rattle.stream_report.specs.ReportOutcome.{report_fault_name}
use Rattle.stream_report.proofs.FaultsAnswered.{faults_answered}
use Rattle.stream_report.proofs.fault_tool.faults_top.Goals as goal

pub returns-clause-cause : goal.returns-clause-cause
returns-clause-cause g c = (c.run-status.result, c.run-status.ensures.cause, c.tell_tool.ensures)

pub returns-clause-complete : goal.returns-clause-complete
returns-clause-complete g c =
    tool_whole report_fault_name faults_causes (faults_words c.args.words.now) _ _ _ _ _ _
    c.run-status.ensures.cause c.tell_tool.ensures

pub returns-clause-told : goal.returns-clause-told
returns-clause-told g c =
    faults_answered (faults_words c.args.words.now) _ _ report_fault_name _ _ _ _ c.run-status.ensures.told
    c.tell_tool.ensures
