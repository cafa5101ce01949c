use Rattle.splice.proofs.SurveyLaws.{stream_ended}
use Rattle.splice.proofs.survey.ended.Goals as goal

pub returns : goal.returns
returns c =
    stream_ended c.args.part c.args.receiver.now c.finish.new.self c.take_ready.new.receiver c.args.found
    c.take_ready.new.found c.args.joined.now c.take_ready.new.joined
    (λ fed given stands. c.finish.ensures.stands fed given stands) c.finish.ensures.same
    c.in_ok-take_ready.ensures.sets c.in_ok-take_ready.ensures.all
