-- The page memory is told of losses.
use Rattle.std.proofs.Common.{◌∙◌, sym, ap, subst}
use Rattle.sub_base.specs.declared.profile.Profile.{Profile}
use Rattle.set_receiver.specs.Receiving.{HasToLose}
use Rattle.set_receiver.proofs.receiver.SetReceiver.lose.Goals as goal

pub returns-clause-stands : goal.returns-clause-stands
returns-clause-stands c ended fed given stands =
    let before = subst (HasToLose c.args.count ended fed given) (sym c.self.view_is) stands in
    record {
      coded = before.coded ∙ ap (λ (profile : Profile). profile.coded) (sym c.lose.ensures.same.profile);
      reads = before.reads;
      holds = c.lose.ensures.loses.goes given before.holds;
    }
