-- The lifted time of the set that is ready.
use Rattle.std.proofs.Common.{◌≡◌, option_map, sym, subst}
use Rattle.std.specs.Prelude.{option_and_then}
use Rattle.decoder_model.specs.Kept.{last_time, lifted_behind, lifted_time}
use Rattle.display_sets.specs.Gathered.{first_ready, ready_sets}
use Rattle.receiver.specs.Asking.{Asking, IsNext, Stands, reception}
use Rattle.set_receiver.specs.Receiving.{set_time}
use Rattle.receiver.proofs.asked.AskedReceiver.ready_at.Goals as goal

pub returns-clause-lifted : goal.returns-clause-lifted
returns-clause-lifted c fed ended given past stands read =
    let before = subst (Stands ended fed given) (sym c.self.view_is) stands in
    subst
    (λ (now : Asking). c.ready_at.result
    ≡ option_and_then (lifted_behind (reception now).anchor (last_time (reception now).anchor past))
    (option_map set_time (first_ready (ready_sets now.sets)))) c.self.view_is
    (c.ready_at.ensures.lifted fed ended given past before.sets read)

pub returns-clause-next : goal.returns-clause-next
returns-clause-next c fed ended given rest next past one is_next are read =
    let before = subst (IsNext ended fed given next rest) (sym c.self.view_is) is_next in
    subst (λ (now : Asking). c.ready_at.result ≡ lifted_time (reception now).anchor past one) c.self.view_is
    (c.ready_at.ensures.next fed ended given rest next past one
    (record { stands = before.stands.sets; all = before.all }) are read)
