-- What a receiver stands for with one more packet: what is shown stays.
use Rattle.std.proofs.Common.{◌≡◌, ◌∷◌, ◌++◌, [], false, sym, subst}
use Rattle.decoder_model.specs.Received.{Reception}
use Rattle.stream_syntax.specs.Units.{event_at}
use Rattle.set_reader.specs.Collecting.{losses}
use Rattle.set_receiver.proofs.TakenSets.{are_losses}
use Rattle.receiver.specs.Asking.{Asking, Stands, reception}
use Rattle.receiver.specs.LastShown.{IsLastShown}
use Rattle.receiver.proofs.asked.AskedReceiver.feed.Goals as goal

pub returns-clause-stands : goal.returns-clause-stands
returns-clause-stands g c fed given stands =
    let before = subst (Stands false fed given) (sym c.self.view_is) stands in (
      losses c.in_ok-came.came.losses,
      are_losses c.in_ok-came.came.losses,
      c.lose.ensures.stands false (fed ++ c.args.packet.now ∷ []) given
          (c.in_ok-came.ensures.stands fed given before.sets)
          (λ past read.
          subst
          (λ (made : Reception). IsLastShown made.profile made.anchor past c.self.inside.last.picture
          c.self.inside.last.drawn) (sym c.in_ok-came.ensures.same) (before.shows past read)),
    )

pub returns-clause-event : goal.returns-clause-event
returns-clause-event g c fed given stands =
    let before = subst (Stands false fed given) (sym c.self.view_is) stands in
    subst
    (λ (old : Asking). c.in_ok-came.came.event
    ≡ event_at (reception old).pid (reception old).profile.coded fed c.args.packet.now) c.self.view_is
    (c.in_ok-came.ensures.event fed given before.sets)
