use Rattle.std.proofs.Common.{◌∙◌, sym}
use Rattle.live_plan.proofs.RunLaws.{finished_halfway, finished_whole, finished_without}
use Rattle.live_plan.proofs.run.Run.finish.Goals as goal

pub returns-then-not-has_epoch : goal.returns-then-not-has_epoch
returns-then-not-has_epoch g c =
    λ begun earlier further notes paid.
    finished_without begun earlier further (g.K.Sink.received c.args.out.now) notes c.args.self.now paid
    (sym (c.has_epoch-has_epoch.ensures paid.0.past paid.0.let_in) ∙ c.if-not-has_epoch.true)

pub returns-in-Ok : goal.returns-in-Ok
returns-in-Ok g c =
    λ begun earlier further notes paid.
    finished_whole begun earlier further (g.K.Sink.received c.args.out.now) notes c.args.self.now paid
    (g.K.Sink.received c.finish.new.out)
    (sym (c.has_epoch-has_epoch.ensures paid.0.past paid.0.let_in) ∙ c.if-not-has_epoch.false)
    c.in-Ok.ensures.writes

pub returns-in-Err : goal.returns-in-Err
returns-in-Err g c =
    λ begun earlier further notes paid.
    finished_halfway begun earlier further (g.K.Sink.received c.args.out.now) notes c.args.self.now paid
    (g.K.Sink.received c.finish.new.out) c.in-Err.field-0 c.in-Err.ensures.writes
