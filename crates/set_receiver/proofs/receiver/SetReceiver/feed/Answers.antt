-- What a receiver stands for with one more packet: so many losses more.
use Rattle.set_reader.specs.Collecting.{losses}
use Rattle.set_receiver.proofs.TakenSets.{are_losses}
use Rattle.set_receiver.proofs.receiver.SetReceiver.feed.Goals as goal

pub returns-clause-stands : goal.returns-clause-stands
returns-clause-stands c fed given stands = (
  losses c.in_ok-came.came.losses,
  are_losses c.in_ok-came.came.losses,
  c.in_ok-came.ensures.stands fed given stands,
)
