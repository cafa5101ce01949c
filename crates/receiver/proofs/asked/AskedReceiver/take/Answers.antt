-- The set that is ready is taken.
use Rattle.std.proofs.Common.{◌≡◌, Some, sym, subst}
use Rattle.decoder_model.specs.Verdict.{verdict_of}
use Rattle.receiver.specs.Asking.{Asking, IsNext, reception}
use Rattle.receiver.proofs.Lasts.{taken_last}
use Rattle.receiver.proofs.asked.AskedReceiver.take.Goals as goal

pub returns-clause-stands : goal.returns-clause-stands
returns-clause-stands c ended fed given rest delivery next =
    let before = subst (IsNext ended fed given delivery rest) (sym c.self.view_is) next in
    record {
      sets = c.take-end.ensures.stands ended fed given rest delivery
          (record { stands = before.stands.sets; all = before.all });
      shows = taken_last c.self.inside.sets c.take-end.new.self given delivery c.take-end.result
          c.self.inside.last.picture c.take.new.self.picture c.self.inside.last.drawn c.take.new.self.drawn
          c.take-end.ensures.same before.stands.shows
          (λ past one are read.
          c.take-end.ensures.answer ended fed given rest delivery past one
          (record { stands = before.stands.sets; all = before.all }) are read)
          (λ profile anchor past one answer last. c.take.ensures.shown profile anchor past one answer last);
    }

pub returns-clause-answer : goal.returns-clause-answer
returns-clause-answer c ended fed given rest delivery past one next are read =
    let before = subst (IsNext ended fed given delivery rest) (sym c.self.view_is) next in
    subst
    (λ (old : Asking). Some c.take-end.result ≡ verdict_of (reception old).profile (reception old).anchor past one)
    c.self.view_is
    (c.take-end.ensures.answer ended fed given rest delivery past one
    (record { stands = before.stands.sets; all = before.all }) are read)
