-- The set that comes next, or none.
use Rattle.std.proofs.Common.{◌≡◌, ◌∙◌, ℕ, List, Some, sym, subst}
use Rattle.decoder_model.specs.Kept.{time_of}
use Rattle.decoder_model.specs.Received.{sets_received}
use Rattle.decoder_model.specs.Sets.{Delivery}
use Rattle.display_sets.specs.Lent.{lent}
use Rattle.set_receiver.specs.Receiving.{IsNextReceived, SetReceiving, HasBeenFed, reception}
use Rattle.set_receiver.proofs.Takes.{sets_read_are, some_ready}
use Rattle.set_receiver.proofs.receiver.SetReceiver.ready.Goals as goal

pub returns-in_err-ready-clause-all : goal.returns-in_err-ready-clause-all
returns-in_err-ready-clause-all c none fed ended given stands =
    let before = subst (HasBeenFed ended fed given) (sym c.self.view_is) stands in
    subst (λ (now : SetReceiving). sets_received (reception now) ended fed ≡ given) c.self.view_is
    (sets_read_are ended fed given _ before ∙ c.in_err-ready.ensures.delivery fed ended given before.reads)

pub returns-clause-next : goal.returns-clause-next
returns-clause-next c fed ended given stands =
    let before = subst (HasBeenFed ended fed given) (sym c.self.view_is) stands in
    subst
    (λ (now : SetReceiving). (delivery : Delivery (List ℕ)) × (rest : List (Delivery (List ℕ)))
    × IsNextReceived ended fed given delivery rest now × (time_of delivery ≡ Some c.in_ok-ready.ready.time))
    c.self.view_is
    (some_ready ended fed given _ (lent c.in_ok-ready.ready) before
    (c.in_ok-ready.ensures.delivery fed ended given before.reads))
