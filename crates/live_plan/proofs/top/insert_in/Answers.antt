use Rattle.std.proofs.Common.{subst}
use Rattle.std.proofs.lemmas.Result.{err_from_is_err_and}
use Rattle.sub_base.specs.Seen.{seen}
use Rattle.live_plan.proofs.TellLaws.{not_begun}
use Rattle.live_plan.specs.LiveOutcome.{inserter_of}
use Rattle.live_plan.specs.LiveRows.{Inserter}
use Rattle.live_plan.specs.Private.RunningEnds.{IsRunEnd}
use Rattle.live_plan.proofs.top.insert_in.Goals as goal

pub returns-in_err-live : goal.returns-in_err-live
returns-in_err-live g c =
    λ second second_now.
    let p = err_from_is_err_and c.from_residual.result c.from_residual.ensures.1 in
    rw (p.1, p.2)
    (not_begun (inserter_of c.args.command c.args.font) (g.A.Source.supplied c.args.script.now) second second_now
    (g.K.Sink.received c.args.out.now) (g.N.Sink.received c.args.notes.now))

pub returns : goal.returns
returns g c =
    λ second second_now.
    subst (λ (inserter : Inserter). IsRunEnd inserter
    (seen (g.A.Source.supplied c.args.script.now) second (g.K.Sink.received c.args.out.now))
    (seen (g.A.Source.supplied c.insert_script.new.script) second_now (g.K.Sink.received c.insert_script.new.out))
    (g.N.Sink.received c.args.notes.now) (g.N.Sink.received c.insert_script.new.notes) c.insert_script.result)
    c.in_ok-live.ensures.inserter (c.insert_script.ensures second second_now)
