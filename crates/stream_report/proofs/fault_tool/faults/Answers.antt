use Rattle.std.proofs.Common.{sym, subst}
use Rattle.stream_report.specs.FaultsOutcome.{faults_causes, tells_faults}
use Rattle.stream_report.specs.ReportOutcome.{HasReportedRead, seen_of_stream}
use Rattle.stream_report.proofs.EndLaws.{report_cause, report_read}
use Rattle.sub_base.specs.ToolOutcome.{IsToolCause}
use Rattle.stream_report.proofs.fault_tool.faults.Goals as goal

pub returns-clause-cause : goal.returns-clause-cause
returns-clause-cause g c =
    let before = seen_of_stream (g.A.Source.supplied c.args.stream.now) (g.K.Sink.received c.args.out.now) in
    let now =
    seen_of_stream (g.A.Source.supplied c.tell_faults.new.stream) (g.K.Sink.received c.tell_faults.new.out) in
    subst (IsToolCause (faults_causes c.args.report before now) before now) (sym c.report_status.ensures)
    (report_cause (tells_faults c.args.report) c.args.report.pid _ _ _ _ c.tell_faults.result
    c.tell_faults.ensures)

pub returns-clause-told : goal.returns-clause-told
returns-clause-told g c =
    let before = seen_of_stream (g.A.Source.supplied c.args.stream.now) (g.K.Sink.received c.args.out.now) in
    let now =
    seen_of_stream (g.A.Source.supplied c.tell_faults.new.stream) (g.K.Sink.received c.tell_faults.new.out) in
    subst (HasReportedRead (tells_faults c.args.report) c.args.report.pid before now) (sym c.report_status.ensures)
    (report_read (tells_faults c.args.report) c.args.report.pid _ _ _ _ c.tell_faults.result
    c.tell_faults.ensures)
