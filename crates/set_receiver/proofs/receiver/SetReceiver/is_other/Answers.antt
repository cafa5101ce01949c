-- A packet that brings nothing need not be fed.
use Rattle.std.proofs.Common.{[], ◌∷◌, ◌++◌, false, sym, subst}
use Rattle.set_receiver.specs.Receiving.{HasBeenFed}
use Rattle.set_receiver.proofs.receiver.SetReceiver.is_other.Goals as goal

pub returns-clause-stands : goal.returns-clause-stands
returns-clause-stands c is fed given stands =
    let before = subst (HasBeenFed false fed given) (sym c.self.view_is) stands in
    subst (HasBeenFed false (fed ++ c.args.packet.now ∷ []) given) c.self.view_is
    (record {
      coded = before.coded;
      reads = c.is_other.ensures.stands is fed given before.reads;
      holds = before.holds;
    })
