use Rattle.std.proofs.Common.{None}
use Rattle.stream_report.specs.PidsOutcome.{pids_causes}
use Rattle.stream_report.specs.PidsWords.{pids_words}
use Rattle.stream_report.specs.ReportOutcome.{report_fault_name}
use Rattle.tool_files.proofs.EndLaws.{may_end}
use Rattle.tool_files.proofs.reports.pids.Goals as goal

pub returns : goal.returns
returns c =
    may_end report_fault_name pids_causes (pids_words c.args.words.now) c.end.result (record {
      before = _;
      now = _;
      notes_before = record { written = None; faults = c.make-2.result.faults };
      notes_now = record { written = None; faults = c.pids_top-status.new.notes.faults };
      answer = c.pids_top-status.result;
      has_written = _;
      cause = c.pids_top-status.ensures.cause;
      told = c.end.ensures;
    })
