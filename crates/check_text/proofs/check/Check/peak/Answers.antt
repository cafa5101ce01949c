-- The greatest level so far.
use Rattle.std.proofs.Common.{ℕ, List, subst}
use Rattle.set_receiver.specs.Receiving.{reception}
use Rattle.check_text.specs.CheckText.{IsPeak}
use Rattle.check_text.specs.Checking.{Checking, HasChecked, own_slot}
use Rattle.check_text.proofs.PeakLaws.{peak_so_far}
use Rattle.check_text.proofs.check.Check.peak.Goals as goal

pub returns : goal.returns
returns c =
    subst
    (λ (checking : Checking). (packets : List (List ℕ)) (text : List ℕ) → HasChecked checking packets text
    → IsPeak (reception checking.receiving) packets c.peak.result) c.self.view_is
    (λ packets text has.
    peak_so_far c.self.inside.sets packets text c.peak.result has (c.peak.ensures own_slot packets text has.metered))
