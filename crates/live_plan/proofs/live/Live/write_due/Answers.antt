use Rattle.std.proofs.Common.{subst}
use Rattle.live_plan.specs.LiveCalls.{LiveState, WritesDueOf}
use Rattle.live_plan.specs.Private.Accepting.{live_of}
use Rattle.live_plan.proofs.LiveWrites.{live_written, writes_due_of}
use Rattle.live_plan.proofs.live.Live.write_due.Goals as goal

pub invariant_of-self : goal.invariant_of-self
invariant_of-self g c =
    live_written (live_of c.self.inside.accepted c.self.inside.last c.self.inside.outlet) c.write_due.new.self
    (g.K.Sink.received c.args.out.now) (g.K.Sink.received c.write_due.new.out) c.write_due.result
    c.write_due.ensures.writes c.write_due.ensures.good c.write_due.ensures.failed c.self.invariant

pub returns-clause-writes : goal.returns-clause-writes
returns-clause-writes g c =
    let live = live_of c.self.inside.accepted c.self.inside.last c.self.inside.outlet in
    let now = live_of c.self.inside.accepted c.self.inside.last c.write_due.new.self in
    subst (λ (old : LiveState). WritesDueOf old now (g.K.Sink.received c.args.out.now)
    (g.K.Sink.received c.write_due.new.out) c.write_due.result) c.self.view_is
    (writes_due_of live c.write_due.new.self (g.K.Sink.received c.args.out.now) (g.K.Sink.received c.write_due.new.out)
    c.write_due.result c.write_due.ensures.writes c.write_due.ensures.good c.write_due.ensures.failed)
