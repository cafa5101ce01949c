use Rattle.page_core.specs.Memory.{IsSameReceiver}
use Rattle.set_receiver.specs.Receiving.{Loses}
use Rattle.set_receiver.proofs.losing.lose.Given as goal

abbrev pub invariant-loop-done : goal.invariant-loop-done
invariant-loop-done l = record { loses : Loses l.done l.fn.core l.core; same : IsSameReceiver l.fn.core l.core }
