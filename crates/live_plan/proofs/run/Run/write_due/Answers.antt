use Rattle.live_plan.proofs.RunLaws.{owed_unwritten, owed_written}
use Rattle.live_plan.proofs.run.Run.write_due.Goals as goal

pub returns-in-Ok-clause-written : goal.returns-in-Ok-clause-written
returns-in-Ok-clause-written g c =
    λ begun earlier further notes taken.
    owed_written begun earlier further (g.K.Sink.received c.args.out.now) (g.K.Sink.received c.write_due.new.out) notes
    c.args.self.now taken c.write_due.new.self c.in-Ok.ensures.writes c.write_due.ensures.inserter
    c.write_due.ensures.kept

pub returns-in-Err-clause-written : goal.returns-in-Err-clause-written
returns-in-Err-clause-written g c =
    λ begun earlier further notes taken.
    owed_unwritten begun earlier further (g.K.Sink.received c.args.out.now) (g.K.Sink.received c.write_due.new.out)
    notes c.args.self.now taken c.write_due.new.self c.in-Err.field-0 c.in-Err.ensures.writes
