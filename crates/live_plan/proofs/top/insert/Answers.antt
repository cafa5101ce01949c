use Rattle.sub_base.specs.Seen.{seen}
use Rattle.live_plan.proofs.TellLaws.{status_told}
use Rattle.live_plan.proofs.top.insert.Goals as goal

pub returns-in-Ok-clause-cause : goal.returns-in-Ok-clause-cause
returns-in-Ok-clause-cause g c =
    status_told c.args.command
    (seen (g.A.Source.supplied c.args.first.now) (g.B.Source.supplied c.args.second.now)
    (g.K.Sink.received c.args.out.now))
    (seen (g.A.Source.supplied c.insert_untold.new.first) (g.B.Source.supplied c.insert_untold.new.second)
    (g.K.Sink.received c.insert_untold.new.out))
    (g.N.Sink.received c.args.notes.now) (g.N.Sink.received c.insert_untold.new.notes)
    (g.N.Sink.received c.tell_tool.new.notes) c.in-Ok.status c.tell_tool.result c.in-Ok.ensures.run
    c.tell_tool.ensures
