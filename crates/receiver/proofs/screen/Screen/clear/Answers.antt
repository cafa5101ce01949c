-- Two pictures that show nothing.
use Rattle.receiver.specs.Slots.{slot_of}
use Rattle.receiver.proofs.Turns.{pictures_nothing}
use Rattle.receiver.proofs.screen.Screen.clear.Goals as goal

pub returns-clause-nothing : goal.returns-clause-nothing
returns-clause-nothing c anchor =
    pictures_nothing c.args.profile.now anchor (slot_of c.in_ok-clear.field-0) (slot_of c.in_ok-clear-2.field-0)
    c.in_ok-clear.ensures.slot c.in_ok-clear-2.ensures.slot
