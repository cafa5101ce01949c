-- The first set that is ready was given.
use Rattle.std.proofs.Common.{◌∙◌, refl, sym, subst}
use Rattle.set_reader.specs.Collecting.{IsNextRead, IsReaderOf}
use Rattle.set_reader.proofs.Feeds.{given_stands, sets_gathered}
use Rattle.set_reader.proofs.reader.SetReader.give.Goals as goal

pub returns-clause-stands : goal.returns-clause-stands
returns-clause-stands c ended fed given rest delivery stands next =
    let before = subst (IsReaderOf ended fed given) (sym c.self.view_is) stands in
    let comes = subst (IsNextRead ended fed given delivery rest) (sym c.self.view_is) next in
    given_stands ended fed given _ _ _ before refl
    (record { pid = refl; pages = c.give.ensures.pages; coded = c.give.ensures.coded })
    (c.give.ensures.stands _ ended given rest delivery before.sets
    (sym (sets_gathered ended fed given _ before) ∙ comes))
