-- The stream has ended.
use Rattle.std.proofs.Common.{◌∙◌, false, sym, subst}
use Rattle.set_receiver.specs.Receiving.{HasBeenFed}
use Rattle.set_receiver.proofs.receiver.SetReceiver.finish.Goals as goal

pub returns-clause-stands : goal.returns-clause-stands
returns-clause-stands c fed given stands =
    let before = subst (HasBeenFed false fed given) (sym c.self.view_is) stands in
    record {
      coded = c.finish.ensures.same.coded ∙ before.coded;
      reads = c.finish.ensures.stands fed given before.reads;
      holds = before.holds;
    }
