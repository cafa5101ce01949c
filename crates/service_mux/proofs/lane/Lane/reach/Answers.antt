use Rattle.service_mux.proofs.LaneLaws.{stopped_since}
use Rattle.service_mux.proofs.lane.Lane.reach.Goals as goal

pub returns-in-Err-clause-stop : goal.returns-in-Err-clause-stop
returns-in-Err-clause-stop g c =
    λ before packets. λ past.
    stopped_since before (g.A.Source.supplied c.args.source.now) (g.A.Source.supplied c.loop-self.source)
    (g.A.Source.supplied c.read_on.new.source) c.in-Err.stop c.loop-self.invariant.kept
    (c.in-Err.ensures.stop before packets (c.loop-self.invariant.keeps before packets past))
