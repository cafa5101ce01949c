use Rattle.std.proofs.Common.{Some, sym, subst}
use Rattle.decoder_model.specs.Received.{for_page}
use Rattle.stream_report.specs.LevelsOutcome.{HasLevelsRead, levels_causes}
use Rattle.stream_report.specs.ReportOutcome.{seen_of_stream}
use Rattle.stream_report.proofs.LevelLaws.{levels_cause, levels_read}
use Rattle.sub_base.specs.ToolOutcome.{IsToolCause}
use Rattle.stream_report.proofs.level_tool.levels.Goals as goal

pub returns-clause-cause : goal.returns-clause-cause
returns-clause-cause g c =
    let before = seen_of_stream (g.A.Source.supplied c.args.stream.now) (g.K.Sink.received c.args.out.now) in
    let now =
    seen_of_stream (g.A.Source.supplied c.tell_levels.new.stream) (g.K.Sink.received c.tell_levels.new.out) in
    subst (IsToolCause (levels_causes c.args.report before now) before now) (sym c.report_status.ensures)
    (levels_cause c.args.report.arrival
    (for_page c.args.report.profile c.args.report.pid c.args.report.page 0) _ _ _ _ c.tell_levels.result
    c.tell_levels.ensures)

pub returns-clause-told : goal.returns-clause-told
returns-clause-told g c =
    let before = seen_of_stream (g.A.Source.supplied c.args.stream.now) (g.K.Sink.received c.args.out.now) in
    let now =
    seen_of_stream (g.A.Source.supplied c.tell_levels.new.stream) (g.K.Sink.received c.tell_levels.new.out) in
    subst (HasLevelsRead (Some c.args.report) before now) (sym c.report_status.ensures)
    (levels_read c.args.report.arrival
    (for_page c.args.report.profile c.args.report.pid c.args.report.page 0) _ _ _ _ c.tell_levels.result
    c.tell_levels.ensures)
