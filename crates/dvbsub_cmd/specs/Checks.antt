-- What `check` tells of packets.
use Rattle.std.specs.Prelude.{ℕ, Bool, List}
use Rattle.check_text.specs.CheckText.{IsCheckText}
use Rattle.check_text.specs.Checking.{Checking}
use Rattle.decoder_model.specs.Received.{for_page}
use Rattle.set_receiver.specs.Receiving.{reception}
use Rattle.sub_base.specs.declared.profile.ProfileName.{ProfileName}

-- the sets and levels in a receiver of the profile for the PID and the page, whose first packet arrives at the origin
abbrev pub checks : ProfileName → ℕ → ℕ → ℕ → Bool → List (List ℕ) → List ℕ → Type 0
checks profile origin pid page ended packets text =
    IsCheckText (for_page profile pid page origin) ended packets text

-- what a receiver at work tells of packets
abbrev pub check_tells : Checking → Bool → List (List ℕ) → List ℕ → Type 0
check_tells checking ended packets text = IsCheckText (reception checking.receiving) ended packets text
