use Rattle.set_receiver.specs.Receiving.{reception}
use Rattle.splice.specs.SplicedSets.{received_from}
use Rattle.splice.proofs.InputLaws.{is_input}
use Rattle.splice.proofs.input.read_stream.Goals as goal

pub returns-in-Ok-end_survey-clause-input : goal.returns-in-Ok-end_survey-clause-input
returns-in-Ok-end_survey-clause-input g c =
    is_input (reception c.in-Ok.receiver) (received_from c.args.anchor c.args.splicing) c.args.part
    (g.A.Source.supplied c.args.source.now) (g.A.Source.supplied c.read_through.new.source)
    c.read_through.new.receiver c.args.joined.now c.read_through.new.joined c.end_survey.new.joined
    c.in_ok-so_far.so_far c.in-Ok-end_survey.survey c.in-Ok.ensures.made c.in_ok-so_far.ensures.gone
    c.in-Ok-end_survey.ensures
