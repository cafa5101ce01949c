use Rattle.std.proofs.lemmas.Result.{err_from_is_err_and}
use Rattle.live_plan.proofs.TellLaws.{finish_ended, read_ended, rest_ended}
use Rattle.live_plan.specs.Pieces.{pieces_of, rest_only}
use Rattle.live_plan.specs.Private.Running.{begun_of}
use Rattle.live_plan.proofs.top.insert_script.Goals as goal

pub returns-in_err-read_script : goal.returns-in_err-read_script
returns-in_err-read_script g c =
    λ second second_now.
    let begun =
    begun_of (record { live = c.args.live; count = 0 }) (g.K.Sink.received c.args.out.now)
    (g.N.Sink.received c.args.notes.now) in
    let p = err_from_is_err_and c.from_residual.result c.from_residual.ensures.1 in
    rw (p.1, p.2)
    (read_ended begun (g.A.Source.supplied c.args.script.now) (g.A.Source.supplied c.read_script.new.script) second
    second_now (g.K.Sink.received c.read_script.new.out) (g.N.Sink.received c.read_script.new.notes)
    c.in_err-read_script.field-0.0 c.in_err-read_script.ensures.stop)

pub returns-in_err-take_rest : goal.returns-in_err-take_rest
returns-in_err-take_rest g c =
    λ second second_now.
    let begun =
    begun_of (record { live = c.args.live; count = 0 }) (g.K.Sink.received c.args.out.now)
    (g.N.Sink.received c.args.notes.now) in
    let all = c.in_ok-read_script.ensures.read in
    let p = err_from_is_err_and c.from_residual-in_err-take_rest.result c.from_residual-in_err-take_rest.ensures.1 in
    rw (p.1, p.2)
    (rest_ended begun (g.A.Source.supplied c.args.script.now) (g.A.Source.supplied c.read_script.new.script) second
    second_now (g.K.Sink.received c.take_rest.new.out) (g.N.Sink.received c.take_rest.new.notes)
    (g.K.Sink.received c.read_script.new.out) (g.N.Sink.received c.read_script.new.notes) c.read_script.new.run
    c.read_script.new.cutter all c.take_rest.new.run c.in_err-take_rest.field-0.0
    (c.in_err-take_rest.ensures.taken begun (pieces_of all.text).whole all.paid))

pub returns : goal.returns
returns g c =
    λ second second_now.
    let begun =
    begun_of (record { live = c.args.live; count = 0 }) (g.K.Sink.received c.args.out.now)
    (g.N.Sink.received c.args.notes.now) in
    let rest = c.read_script.new.cutter in
    let all = c.in_ok-read_script.ensures.read in
    let whole = (pieces_of all.text).whole in
    finish_ended begun (g.A.Source.supplied c.args.script.now) (g.A.Source.supplied c.read_script.new.script) second
    second_now (g.K.Sink.received c.finish.new.out) (g.N.Sink.received c.take_rest.new.notes)
    (g.K.Sink.received c.read_script.new.out) (g.N.Sink.received c.read_script.new.notes) c.read_script.new.run rest
    all c.finish.result c.requires.compiled c.requires.free
    (c.finish.ensures begun whole (rest_only rest) (g.N.Sink.received c.take_rest.new.notes)
    (c.in_ok-take_rest.ensures.taken begun whole all.paid))
