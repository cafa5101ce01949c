use Rattle.std.proofs.Common.{◌∷◌, [], subst, sym}
use Rattle.std.proofs.lemmas.List.{take_rest}
use Rattle.service_text.specs.Private.Entries.{HaveListed, first_service}
use Rattle.service_text.specs.Services.{services_in}
use Rattle.service_text.proofs.EntryLaws.{entry_next, more_walked}
use Rattle.service_text.proofs.entries.list_entries.Goals as goal

pub loop-rest-preserved : goal.loop-rest-preserved
loop-rest-preserved c =
    subst (λ rest. HaveListed c.args.list.now c.list.new.self
    (services_in c.args.number c.args.pid c.args.entries.now) (services_in c.args.number c.args.pid rest))
    (sym (take_rest c.loop-rest.rest.now 8))
    (more_walked _ c.loop-rest.list _ _ _ (first_service c.args.number c.args.pid c.loop-rest.rest.now ∷ []) _
    c.loop-rest.invariant (rw c.first_service.ensures at c.list.ensures)
    (entry_next c.args.number c.args.pid c.loop-rest.rest.now c.loop-rest-test.true))
