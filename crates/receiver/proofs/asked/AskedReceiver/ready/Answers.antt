-- The set that comes next, or none.
use Rattle.std.proofs.Common.{◌≡◌, ℕ, List, Some, refl, sym, subst}
use Rattle.decoder_model.specs.Kept.{time_of}
use Rattle.decoder_model.specs.Received.{sets_received}
use Rattle.decoder_model.specs.Sets.{Delivery}
use Rattle.receiver.specs.Asking.{Asking, IsNext, Stands, reception}
use Rattle.receiver.proofs.asked.AskedReceiver.ready.Goals as goal

pub returns-in_err-time-clause-all : goal.returns-in_err-time-clause-all
returns-in_err-time-clause-all c none fed ended given stands =
    let before = subst (Stands ended fed given) (sym c.self.view_is) stands in
    subst (λ (now : Asking). sets_received (reception now) ended fed ≡ given) c.self.view_is
    (c.in_err-time.ensures.all refl fed ended given before.sets)

pub returns-clause-next : goal.returns-clause-next
returns-clause-next c fed ended given stands =
    let before = subst (Stands ended fed given) (sym c.self.view_is) stands in
    let next = c.in_ok-time.ensures.next fed ended given before.sets in
    subst
    (λ (now : Asking). (delivery : Delivery (List ℕ)) × (rest : List (Delivery (List ℕ)))
    × IsNext ended fed given delivery rest now × (time_of delivery ≡ Some c.in_ok-time.time)) c.self.view_is
    (next.0, next.1, record { stands = before; all = next.2.all }, next.3)
