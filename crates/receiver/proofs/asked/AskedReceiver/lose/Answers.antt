-- What is shown is drawn before the page memory is told of losses.
use Rattle.std.proofs.Common.{sym, subst}
use Rattle.receiver.specs.Asking.{Asking, ShowsLast, without_picture}
use Rattle.receiver.proofs.Lasts.{LastStays, lost_last}
use Rattle.set_receiver.specs.Receiving.{HasToLose}
use Rattle.receiver.proofs.asked.AskedReceiver.lose.Goals as goal

pub returns-then-count-gt0-clause-stands : goal.returns-then-count-gt0-clause-stands
returns-then-count-gt0-clause-stands g c ended fed given has shows =
    let untold =
    subst (λ (old : Asking). HasToLose c.args.count ended fed given (without_picture old)) (sym c.self.view_is) has in
    record {
      sets = c.lose.ensures.stands ended fed given untold;
      shows = lost_last c.self.inside.sets c.lose.new.self given c.args.count c.self.inside.last.picture
          c.draw.new.self.picture c.self.inside.last.drawn c.draw.new.self.drawn c.lose.ensures.same
          c.draw.ensures.drawn untold.holds (subst (ShowsLast given) (sym c.self.view_is) shows)
          (subst
          (LastStays c.self.inside.last.picture c.self.inside.last.drawn c.draw.new.self.picture
          c.draw.new.self.drawn) c.core.ensures
          (λ past after last. c.draw.ensures.stays past after last));
    }
