use Rattle.std.proofs.Common.{None}
use Rattle.stream_report.specs.FaultsOutcome.{faults_causes}
use Rattle.stream_report.specs.FaultsWords.{faults_words}
use Rattle.stream_report.specs.ReportOutcome.{report_fault_name}
use Rattle.tool_files.proofs.EndLaws.{may_end}
use Rattle.tool_files.proofs.reports.faults.Goals as goal

pub returns : goal.returns
returns c =
    may_end report_fault_name faults_causes (faults_words c.args.words.now) c.end.result (record {
      before = _;
      now = _;
      notes_before = record { written = None; faults = c.make-2.result.faults };
      notes_now = record { written = None; faults = c.faults_top-status.new.notes.faults };
      answer = c.faults_top-status.result;
      has_written = _;
      cause = c.faults_top-status.ensures.cause;
      told = c.end.ensures;
    })
