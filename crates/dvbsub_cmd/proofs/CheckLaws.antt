-- What `check` tells is what was asked.
use Rattle.std.proofs.Common.{◌≡◌, ℕ, Bool, List, subst}
use Rattle.check_text.specs.CheckText.{IsCheckText}
use Rattle.check_text.specs.Checking.{Checking}
use Rattle.decoder_model.specs.Received.{Reception, for_page}
use Rattle.set_receiver.specs.Receiving.{reception}
use Rattle.sub_base.specs.declared.profile.ProfileName.{ProfileName}
use Rattle.dvbsub_cmd.specs.Checks.{check_tells, checks}

-- what the receiver tells is what the command tells
pub tells_as_asked : (name : ProfileName) (origin pid page : ℕ) (walked : Checking) (ended : Bool)
    (packets : List (List ℕ)) (text : List ℕ) → reception walked.receiving ≡ for_page name pid page origin
    → check_tells walked ended packets text → checks name origin pid page ended packets text
tells_as_asked name origin pid page walked ended packets text same is =
    subst (λ (made : Reception). IsCheckText made ended packets text) same is
