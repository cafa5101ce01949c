use Rattle.std.proofs.Common.{subst}
use Rattle.live_plan.specs.LiveCalls.{LiveState, WritesRestOf}
use Rattle.live_plan.specs.Private.Accepting.{live_of}
use Rattle.live_plan.proofs.LiveWrites.{writes_rest_of}
use Rattle.live_plan.proofs.live.Live.finish.Goals as goal

pub returns-clause-writes : goal.returns-clause-writes
returns-clause-writes g c =
    let live = live_of c.self.inside.accepted c.self.inside.last c.self.inside.outlet in
    subst (λ (old : LiveState). WritesRestOf old (g.K.Sink.received c.args.out.now)
    (g.K.Sink.received c.finish.new.out) c.finish.result) c.self.view_is
    (writes_rest_of live (g.K.Sink.received c.args.out.now) (g.K.Sink.received c.finish.new.out) c.finish.result
    c.finish.ensures.writes)
