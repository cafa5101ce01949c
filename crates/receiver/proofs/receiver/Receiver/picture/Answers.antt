-- What is lent is what is shown of the packets.
use Rattle.std.proofs.Common.{◌≡◌, ◌∙◌, ℕ, List, reverse, sym, subst}
use Rattle.decoder_model.specs.Readings.{AreDeliveriesRead}
use Rattle.decoder_model.specs.Sets.{Delivery}
use Rattle.set_receiver.proofs.Takes.{all_taken}
use Rattle.receiver.specs.Lent.{view_lent}
use Rattle.receiver.specs.Receiving.{Receiving, without_pictures}
use Rattle.receiver.specs.Showing.{shown_at}
use Rattle.receiver.proofs.Views.{shown_before}
use Rattle.receiver.proofs.receiver.Receiver.picture.Goals as goal

pub returns-clause-shown : goal.returns-clause-shown
returns-clause-shown c fed ended given shown stands none is =
    let all = all_taken ended fed given (without_pictures c.args.self.now) stands.sets none in
    let reads =
    subst (λ (all : List (Delivery (List ℕ))). AreDeliveriesRead (reverse all) is.past) all is.received in
    subst
    (λ (now : Receiving). view_lent c.picture.result ≡ shown_at now.showing.pending now.showing.current c.args.tick)
    c.self.view_is c.picture.ensures.view
    ∙ (stands.shows is.past reads).shows c.args.tick c.requires ∙ sym is.is_view

pub returns-clause-ahead : goal.returns-clause-ahead
returns-clause-ahead c fed ended given rest next lifted shown is_next at early is =
    let reads =
    subst (λ (all : List (Delivery (List ℕ))). AreDeliveriesRead (reverse all) is.past) is_next.all is.received
    in
    let found =
    shown_before c.args.self.now.showing.core.profile c.args.self.now.showing.core.anchor c.args.tick lifted given
    rest next is.past at early reads in
    subst
    (λ (now : Receiving). view_lent c.picture.result ≡ shown_at now.showing.pending now.showing.current c.args.tick)
    c.self.view_is c.picture.ensures.view
    ∙ (is_next.stands.shows found.0 found.1).shows c.args.tick c.requires ∙ sym found.2 ∙ sym is.is_view
