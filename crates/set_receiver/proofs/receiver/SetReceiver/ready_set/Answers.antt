-- The set that is ready is the first one of the packets that was not taken.
use Rattle.std.proofs.Common.{List, ℕ, option_map, sym, subst}
use Rattle.decoder_model.specs.Received.{sets_received}
use Rattle.decoder_model.specs.Sets.{Delivery}
use Rattle.display_sets.specs.Lent.{lent}
use Rattle.display_sets.specs.Standing.{IsFirst}
use Rattle.set_receiver.specs.Receiving.{SetReceiving, HasBeenFed, reception}
use Rattle.set_receiver.proofs.Takes.{sets_read_are}
use Rattle.set_receiver.proofs.receiver.SetReceiver.ready_set.Goals as goal

pub returns-clause-delivery : goal.returns-clause-delivery
returns-clause-delivery c fed ended given stands =
    let before = subst (HasBeenFed ended fed given) (sym c.self.view_is) stands in
    subst
    (λ (now : SetReceiving). IsFirst (sets_received (reception now) ended fed) given (option_map lent c.ready.result))
    c.self.view_is
    (subst (λ (all : List (Delivery (List ℕ))). IsFirst all given (option_map lent c.ready.result))
    (sym (sets_read_are ended fed given _ before)) (c.ready.ensures.delivery fed ended given before.reads))
