-- What a packet adds.
use Rattle.std.proofs.Common.{◌+◌, length}
use Rattle.set_reader.proofs.Gatherings.{fed_end, fed_gathers}
use Rattle.set_reader.proofs.feeding.feed.Goals as goal

pub returns-clause-gathers : goal.returns-clause-gathers
returns-clause-gathers c before arrivals given stands gathers =
    fed_gathers arrivals _ _ _ _ (length before) _ _ given _ c.is_loss-lost.result c.take_ended-ended.result.lost _
    (c.in_ok-fed.ensures.event before stands) c.lose_where.ensures.pages (c.in_ok-fed.ensures.unit before stands)
    (λ i. c.one_where.ensures.count i + c.one_where-2.ensures.count i)
    (c.take_ended-ended.ensures.gathers _ _ (length before)
    (c.lose_where.ensures.gathers _ arrivals given c.is_loss-lost.ensures gathers))

pub returns-clause-end : goal.returns-clause-end
returns-clause-end c before arrivals given stands gathers =
    fed_end _ _ _ _ (length before) arrivals _ _ _ _ _ c.lose_where.ensures.coded c.lose_where.ensures.pages
    (c.in_ok-fed.ensures.event before stands) (c.in_ok-fed.ensures.unit before stands)
    (c.take_ended-ended.ensures.end _ _ (length before)
    (c.lose_where.ensures.gathers _ arrivals given c.is_loss-lost.ensures gathers))
