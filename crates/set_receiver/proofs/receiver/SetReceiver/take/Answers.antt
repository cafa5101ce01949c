-- The set that is ready is taken.
use Rattle.std.proofs.Common.{◌≡◌, ◌∙◌, Some, ap, sym, subst}
use Rattle.decoder_model.specs.Painting.{set_load}
use Rattle.decoder_model.specs.Verdict.{verdict_of}
use Rattle.display_sets.specs.Lent.{lent}
use Rattle.sub_base.specs.declared.profile.Profile.{Profile}
use Rattle.page_core.specs.Memory as cores
use Rattle.set_receiver.specs.Receiving.{IsNextReceived, SetReceiving, reception}
use Rattle.set_receiver.proofs.TakenSets.{one_more}
use Rattle.set_receiver.proofs.Takes.{next_ready, sets_read_are}
use Rattle.set_receiver.proofs.receiver.SetReceiver.take.Goals as goal

pub returns-in-Some-clause-stands : goal.returns-in-Some-clause-stands
returns-in-Some-clause-stands c ended fed given rest delivery next =
    let before = subst (IsNextReceived ended fed given delivery rest) (sym c.self.view_is) next in
    let ready =
    next_ready ended fed given delivery rest _ (lent c.in-Some.ready) before
    (c.in-Some.ensures.delivery fed ended given before.stands.reads) in
    record {
      coded = c.give.ensures.same.coded ∙ before.stands.coded
          ∙ ap (λ (profile : Profile). profile.coded) (sym c.take-taken.ensures.same.profile);
      reads = c.give.ensures.stands ended fed given rest delivery before.stands.reads
          (sym (sets_read_are ended fed given _ before.stands) ∙ before.all);
      holds = one_more (λ past. cores.IsMemoryAfter past c.self.inside.core)
          (λ past. cores.IsMemoryAfter past c.take-taken.new.core) given delivery before.stands.holds
          (λ past one are read stands. c.take-taken.ensures.stands past delivery one ready read stands);
    }

pub returns-in-Some-clause-answer : goal.returns-in-Some-clause-answer
returns-in-Some-clause-answer c ended fed given rest delivery past one next are read =
    let before = subst (IsNextReceived ended fed given delivery rest) (sym c.self.view_is) next in
    let ready =
    next_ready ended fed given delivery rest _ (lent c.in-Some.ready) before
    (c.in-Some.ensures.delivery fed ended given before.stands.reads) in
    subst
    (λ (old : SetReceiving). Some c.take-taken.result.end
    ≡ verdict_of (reception old).profile (reception old).anchor past one) c.self.view_is
    (c.take-taken.ensures.answer past delivery one ready read (before.stands.holds past are))

pub returns-in-Some-clause-load : goal.returns-in-Some-clause-load
returns-in-Some-clause-load c ended fed given rest delivery past one next are read =
    let before = subst (IsNextReceived ended fed given delivery rest) (sym c.self.view_is) next in
    let ready =
    next_ready ended fed given delivery rest _ (lent c.in-Some.ready) before
    (c.in-Some.ensures.delivery fed ended given before.stands.reads) in
    subst
    (λ (old : SetReceiving). Some c.take-taken.result.load
    ≡ set_load (reception old).profile (reception old).anchor past one) c.self.view_is
    (c.take-taken.ensures.load past delivery one ready read (before.stands.holds past are))
