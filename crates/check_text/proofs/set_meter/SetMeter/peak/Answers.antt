-- The greatest level so far.
use Rattle.std.proofs.Common.{◌≡◌, ℕ, List, subst}
use Rattle.buffer_model.specs.Calls.{greatest}
use Rattle.received_level_laws.specs.ToldSets.{calls_told}
use Rattle.check_text.specs.Checking.{Checking, HasMetered}
use Rattle.check_text.proofs.set_meter.SetMeter.peak.Goals as goal

pub returns : goal.returns
returns c = λ slot_of.
    subst
    (λ (checking : Checking). (packets : List (List ℕ)) (text : List ℕ)
    → (has : HasMetered slot_of checking packets text)
    → c.peak.result ≡ greatest checking.meter.pace (calls_told has.told)) c.self.view_is
    (λ packets text has. c.peak.ensures (calls_told has.told) has.at.metered)
