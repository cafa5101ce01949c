-- What a receiver stands for with one more packet, of whose losses the page memory is told.
use Rattle.std.proofs.Common.{◌∙◌, ◌∷◌, ◌++◌, [], false, ap}
use Rattle.set_reader.specs.Collecting.{Collecting}
use Rattle.set_receiver.proofs.receiver.SetReceiver.feed_counting.Goals as goal

pub returns-clause-stands : goal.returns-clause-stands
returns-clause-stands c fed given stands =
    c.lose.ensures.stands false (fed ++ c.args.packet.now ∷ []) given (c.in_ok-came.ensures.stands fed given stands)

pub returns-clause-arrival : goal.returns-clause-arrival
returns-clause-arrival c fed given stands =
    ap (λ (collecting : Collecting). collecting.arrival) c.lose.ensures.collecting
    ∙ c.in_ok-came.ensures.arrival fed given stands
