-- What `levels` tells, however packets arrive.
use Rattle.std.proofs.Common.{sym, subst}
use Rattle.decoder_model.specs.Received.{for_page}
use Rattle.stream_report.specs.LevelsOutcome.{IsLevelsEnd}
use Rattle.stream_report.specs.LevelsWords.{MayArrive}
use Rattle.stream_report.specs.declared.levels_words.Arrival.{Arrival}
use Rattle.stream_report.proofs.level_tool.tell_levels.Goals as goal

pub tell_by_rate-requires-clause-least : goal.tell_by_rate-requires-clause-least
tell_by_rate-requires-clause-least g c = (subst MayArrive c.in-Rate.is c.requires.arrival).0

pub tell_by_rate-requires-clause-most : goal.tell_by_rate-requires-clause-most
tell_by_rate-requires-clause-most g c = (subst MayArrive c.in-Rate.is c.requires.arrival).1

pub returns-in-Rate : goal.returns-in-Rate
returns-in-Rate g c =
    subst (λ (by : Arrival). IsLevelsEnd by
    (for_page c.args.report.profile c.args.report.pid c.args.report.page 0) (g.A.Source.supplied c.args.stream.now)
    (g.A.Source.supplied c.tell_by_rate.new.stream) (g.K.Sink.received c.args.out.now)
    (g.K.Sink.received c.tell_by_rate.new.out) c.tell_by_rate.result) (sym c.in-Rate.is) c.tell_by_rate.ensures

pub returns-in-Clock : goal.returns-in-Clock
returns-in-Clock g c =
    subst (λ (by : Arrival). IsLevelsEnd by
    (for_page c.args.report.profile c.args.report.pid c.args.report.page 0) (g.A.Source.supplied c.args.stream.now)
    (g.A.Source.supplied c.tell_by_clock.new.stream) (g.K.Sink.received c.args.out.now)
    (g.K.Sink.received c.tell_by_clock.new.out) c.tell_by_clock.result) (sym c.in-Clock.is) c.tell_by_clock.ensures
