-- What `dump` tells of packets.
use Rattle.std.specs.Prelude.{ℕ, Bool, List}
use Rattle.dump_text.specs.DumpText.{IsDumpText, asked_for}
use Rattle.sub_base.specs.Profile.{profile_of}
use Rattle.sub_base.specs.declared.profile.ProfileName.{ProfileName}
use Rattle.decoder_model.specs.Frames.{only}

-- the texts of the pictures that are shown at these ticks, in a receiver of the profile for the PID and the page
abbrev pub dumps : ProfileName → ℕ → ℕ → List ℕ → Bool → List (List ℕ) → List ℕ → Type 0
dumps profile pid page ticks ended packets text =
    IsDumpText (asked_for (profile_of profile) pid (only page) ticks) ticks ended packets text
