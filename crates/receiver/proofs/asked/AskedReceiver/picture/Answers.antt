-- What is lent is what was drawn.
use Rattle.std.proofs.Common.{◌≡◌, ◌∙◌, subst}
use Rattle.receiver.specs.Asking.{Asking}
use Rattle.receiver.specs.Lent.{view_lent}
use Rattle.receiver.specs.Showing.{view_in}
use Rattle.receiver.proofs.asked.AskedReceiver.picture.Goals as goal

pub returns-clause-taken : goal.returns-clause-taken
returns-clause-taken c fed ended given past stands read from =
    subst (λ (now : Asking). view_lent c.view.result ≡ view_in now.showing.picture c.args.tick) c.self.view_is
    c.view.ensures.view
    ∙ c.requires fed ended given past stands read from
