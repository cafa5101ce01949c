-- The first set that is ready is the first one of the packets that was not given.
use Rattle.std.proofs.Common.{option_map, sym, subst}
use Rattle.display_sets.specs.Lent.{lent}
use Rattle.display_sets.specs.Standing.{IsFirst}
use Rattle.set_reader.specs.Collecting.{Collecting, IsReaderOf, sets_read}
use Rattle.set_reader.proofs.Feeds.{first_read}
use Rattle.set_reader.proofs.reader.SetReader.ready.Goals as goal

pub returns-clause-delivery : goal.returns-clause-delivery
returns-clause-delivery c fed ended given stands =
    let before = subst (IsReaderOf ended fed given) (sym c.self.view_is) stands in
    subst (λ (now : Collecting). IsFirst (sets_read now ended fed) given (option_map lent c.ready.result))
    c.self.view_is
    (first_read ended fed given _ (option_map lent c.ready.result) before
    (c.ready.ensures.delivery _ ended given before.sets))
