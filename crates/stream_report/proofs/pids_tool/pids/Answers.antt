use Rattle.std.proofs.Common.{sym, subst}
use Rattle.stream_report.specs.PidsOutcome.{HasToldPids, pids_causes}
use Rattle.stream_report.specs.ReportOutcome.{seen_of_stream}
use Rattle.stream_report.proofs.PidsLaws.{pids_cause, pids_read}
use Rattle.sub_base.specs.ToolOutcome.{IsToolCause}
use Rattle.stream_report.proofs.pids_tool.pids.Goals as goal

pub returns-clause-cause : goal.returns-clause-cause
returns-clause-cause g c =
    let before = seen_of_stream (g.A.Source.supplied c.args.stream.now) (g.K.Sink.received c.args.out.now) in
    let now = seen_of_stream (g.A.Source.supplied c.tell_pids.new.stream) (g.K.Sink.received c.tell_pids.new.out) in
    subst (IsToolCause (pids_causes (record {}) before now) before now) (sym c.report_status.ensures)
    (pids_cause _ _ _ _ c.tell_pids.result c.tell_pids.ensures)

pub returns-clause-told : goal.returns-clause-told
returns-clause-told g c =
    let before = seen_of_stream (g.A.Source.supplied c.args.stream.now) (g.K.Sink.received c.args.out.now) in
    let now = seen_of_stream (g.A.Source.supplied c.tell_pids.new.stream) (g.K.Sink.received c.tell_pids.new.out) in
    subst (HasToldPids before now) (sym c.report_status.ensures)
    (pids_read _ _ _ _ c.tell_pids.result c.tell_pids.ensures)
