-- A picture that shows nothing.
use Rattle.std.proofs.Common.{true, ap}
use Rattle.receiver.specs.Showing.{Slot}
use Rattle.receiver.specs.Slots.{slot_of}
use Rattle.receiver.proofs.Lasts.{last_nothing}
use Rattle.receiver.proofs.last_picture.LastPicture.clear.Goals as goal

pub returns-clause-nothing : goal.returns-clause-nothing
returns-clause-nothing c anchor =
    last_nothing c.args.profile.now anchor (slot_of c.in_ok-clear.field-0) true
    (ap (λ (slot : Slot). slot.plane) c.in_ok-clear.ensures.slot)
