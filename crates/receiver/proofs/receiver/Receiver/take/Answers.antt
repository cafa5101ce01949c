-- The set that is ready is taken, and its picture drawn.
use Rattle.std.proofs.Common.{◌≡◌, Some, sym, subst}
use Rattle.decoder_model.specs.Painting.{set_load}
use Rattle.decoder_model.specs.Verdict.{verdict_of}
use Rattle.receiver.specs.Receiving.{IsNext, Receiving, reception}
use Rattle.receiver.proofs.Turns.{TurnsTo, taken_shows}
use Rattle.receiver.proofs.receiver.Receiver.take.Goals as goal

pub returns-clause-stands : goal.returns-clause-stands
returns-clause-stands g c ended fed given rest delivery next =
    let before = subst (IsNext ended fed given delivery rest) (sym c.self.view_is) next in
    let held = c.take-end.ensures.stands ended fed given rest delivery
    (record { stands = before.stands.sets; all = before.all }) in
    record {
      sets = held;
      shows = taken_shows c.self.inside.sets c.take-end.new.self given delivery c.ready_at-lifted.result
          c.take-end.result c.self.inside.screen.pending c.self.inside.screen.current _ _ c.take-end.ensures.same
          before.stands.shows held.holds
          (λ past one are read.
          c.ready_at-lifted.ensures.next fed ended given rest delivery past one
          (record { stands = before.stands.sets; all = before.all }) are read)
          (λ past one are read.
          c.take-end.ensures.answer ended fed given rest delivery past one
          (record { stands = before.stands.sets; all = before.all }) are read)
          (subst
          (TurnsTo c.ready_at-lifted.result c.take-end.result c.self.inside.screen.pending
          c.self.inside.screen.current c.take.new.self.pending c.take.new.self.current) c.core.ensures
          (λ past one stands lifted answer are. c.take.ensures.pictures past one stands lifted answer are));
    }

pub returns-clause-answer : goal.returns-clause-answer
returns-clause-answer g c ended fed given rest delivery past one next are read =
    let before = subst (IsNext ended fed given delivery rest) (sym c.self.view_is) next in
    subst
    (λ (old : Receiving). Some c.take-end.result
    ≡ verdict_of (reception old).profile (reception old).anchor past one)
    c.self.view_is
    (c.take-end.ensures.answer ended fed given rest delivery past one
    (record { stands = before.stands.sets; all = before.all }) are read)

pub returns-clause-load : goal.returns-clause-load
returns-clause-load g c ended fed given rest delivery past one next are read =
    let before = subst (IsNext ended fed given delivery rest) (sym c.self.view_is) next in
    subst
    (λ (old : Receiving). Some c.take-end.new.self.load
    ≡ set_load (reception old).profile (reception old).anchor past one) c.self.view_is
    (c.take-end.ensures.load ended fed given rest delivery past one
    (record { stands = before.stands.sets; all = before.all }) are read)
