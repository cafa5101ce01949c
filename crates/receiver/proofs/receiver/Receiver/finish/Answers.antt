-- The stream has ended, which changes no picture.
use Rattle.decoder_model.specs.Received.{Reception}
use Rattle.std.proofs.Common.{false, sym, subst}
use Rattle.receiver.specs.Receiving.{Stands}
use Rattle.receiver.specs.Showing.{ArePictures}
use Rattle.receiver.proofs.receiver.Receiver.finish.Goals as goal

pub returns-clause-stands : goal.returns-clause-stands
returns-clause-stands c fed given stands =
    let before = subst (Stands false fed given) (sym c.self.view_is) stands in
    record {
      sets = c.finish.ensures.stands fed given before.sets;
      shows = λ past read.
          subst
          (λ (one : Reception). ArePictures one.profile one.anchor past c.self.inside.screen.pending
          c.self.inside.screen.current) (sym c.finish.ensures.same) (before.shows past read);
    }
