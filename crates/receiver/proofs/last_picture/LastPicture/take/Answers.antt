-- What is shown from the time of a set on that was taken.
use Rattle.std.proofs.Common.{◌∙◌, Some, sym, ap}
use Rattle.receiver.specs.Showing.{Slot}
use Rattle.receiver.proofs.Lasts.{last_not_later, last_of_broken, last_of_shown, last_of_waiting}
use Rattle.receiver.proofs.last_picture.LastPicture.take.Goals as goal

pub returns-in-NotLater-clause-shown : goal.returns-in-NotLater-clause-shown
returns-in-NotLater-clause-shown c profile anchor past one answer last =
    last_not_later profile anchor past one _ _ c.in-NotLater.last (sym (ap Some c.in-NotLater.is) ∙ answer) last

pub returns-in-Shown-clause-shown : goal.returns-in-Shown-clause-shown
returns-in-Shown-clause-shown c profile anchor past one answer last =
    last_of_shown profile anchor past one _ _ (sym (ap Some c.in-Shown.is) ∙ answer) c.begin.ensures.drawn

pub returns-in-Waiting-clause-shown : goal.returns-in-Waiting-clause-shown
returns-in-Waiting-clause-shown c profile anchor past one answer last =
    last_of_waiting profile anchor past one _ _ (sym (ap Some c.in-Waiting.is) ∙ answer)
    c.begin-in-Waiting.ensures.drawn (ap (λ (slot : Slot). slot.plane) c.begin-in-Waiting.ensures.picture)

pub returns-in-Broken-clause-shown : goal.returns-in-Broken-clause-shown
returns-in-Broken-clause-shown c profile anchor past one answer last =
    last_of_broken profile anchor past one c.in-Broken.field-0 _ _ (sym (ap Some c.in-Broken.is) ∙ answer)
    c.begin-in-Broken.ensures.drawn (ap (λ (slot : Slot). slot.plane) c.begin-in-Broken.ensures.picture)
