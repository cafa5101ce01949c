-- The stream has ended, which changes no picture.
use Rattle.std.proofs.Common.{false, sym, subst}
use Rattle.decoder_model.specs.Received.{Reception}
use Rattle.receiver.specs.Asking.{Stands}
use Rattle.receiver.specs.LastShown.{IsLastShown}
use Rattle.receiver.proofs.asked.AskedReceiver.finish.Goals as goal

pub returns-clause-stands : goal.returns-clause-stands
returns-clause-stands c fed given stands =
    let before = subst (Stands false fed given) (sym c.self.view_is) stands in
    record {
      sets = c.finish.ensures.stands fed given before.sets;
      shows = λ past read.
          subst
          (λ (made : Reception). IsLastShown made.profile made.anchor past c.self.inside.last.picture
          c.self.inside.last.drawn) (sym c.finish.ensures.same) (before.shows past read);
    }
