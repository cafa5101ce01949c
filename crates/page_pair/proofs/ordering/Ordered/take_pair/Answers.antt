use Rattle.page_pair.proofs.OrderLaws.{left_of}
use Rattle.page_pair.proofs.ordering.Ordered.take_pair.Goals as goal

pub returns-clause-one : goal.returns-clause-one
returns-clause-one c =
    left_of c.args.pair.0 c.args.self.now.one.now c.split_at.result.1.now c.args.self.now.one_from
    c.place_of-at.result.0
    c.place_of-at.result.1 c.split_at.ensures.back c.place_of-at.ensures.behind

pub returns-clause-two : goal.returns-clause-two
returns-clause-two c =
    left_of c.args.pair.1 c.args.self.now.two.now c.split_at-4.result.1.now c.args.self.now.two_from
    c.place_of-other_at.result.0 c.place_of-other_at.result.1 c.split_at-4.ensures.back
    c.place_of-other_at.ensures.behind
