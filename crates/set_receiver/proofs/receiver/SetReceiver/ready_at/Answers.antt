-- The lifted time of the set that is ready.
use Rattle.std.proofs.Common.{◌≡◌, [], ◌∙◌, option_map, sym, subst}
use Rattle.std.specs.Prelude.{option_and_then}
use Rattle.decoder_model.specs.Kept.{last_time, lifted_behind, lifted_time}
use Rattle.display_sets.specs.Gathered.{first_ready, ready_sets}
use Rattle.display_sets.specs.Lent.{lent}
use Rattle.set_receiver.specs.Receiving.{IsNextReceived, SetReceiving, HasBeenFed, reception, set_time}
use Rattle.set_receiver.proofs.Takes.{next_lifted, next_ready, none_next, ready_lifted, sets_read_are}
use Rattle.set_receiver.proofs.receiver.SetReceiver.ready_at.Goals as goal

pub returns-clause-lifted : goal.returns-clause-lifted
returns-clause-lifted c fed ended given past stands read =
    let before = subst (HasBeenFed ended fed given) (sym c.self.view_is) stands in
    subst
    (λ (now : SetReceiving). c.lift.result
    ≡ option_and_then (lifted_behind (reception now).anchor (last_time (reception now).anchor past))
    (option_map set_time (first_ready (ready_sets now.collecting.sets)))) c.self.view_is
    (ready_lifted _ past c.self.inside.reader.sets (lent c.in_ok-ready.ready) c.lift.result
    c.in_ok-ready.ensures.first (c.lift.ensures.lifted past 0 [] (before.holds past read)))

pub returns-clause-next : goal.returns-clause-next
returns-clause-next c fed ended given rest next past one is_next are read =
    let before = subst (IsNextReceived ended fed given next rest) (sym c.self.view_is) is_next in
    let ready =
    next_ready ended fed given next rest _ (lent c.in_ok-ready.ready) before
    (c.in_ok-ready.ensures.delivery fed ended given before.stands.reads) in
    subst (λ (now : SetReceiving). c.lift.result ≡ lifted_time (reception now).anchor past one) c.self.view_is
    (next_lifted _ past next one (lent c.in_ok-ready.ready) c.lift.result ready read
    (c.lift.ensures.lifted past 0 [] (before.stands.holds past are)))

-- where none is ready, none comes next
pub returns-in_err-ready-clause-next : goal.returns-in_err-ready-clause-next
returns-in_err-ready-clause-next c fed ended given rest next past one is_next are read =
    let before = subst (IsNextReceived ended fed given next rest) (sym c.self.view_is) is_next in
    absurd
    (none_next given rest next
    (sym (c.in_err-ready.ensures.delivery fed ended given before.stands.reads)
    ∙ sym (sets_read_are ended fed given _ before.stands) ∙ before.all))
