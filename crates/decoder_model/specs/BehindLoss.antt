-- Receivers behind a loss or a broken set, which wait for a set that is not of state normal (EN 300 743, clause 5.1.1).
use Rattle.std.specs.Prelude.{◌≡◌, ℕ, false, List, ◌∷◌, Some, Option, None}
use Rattle.stream_syntax.specs.declared.page.State.TheVariants.{Acquisition, ModeChange}
use Rattle.sub_base.specs.declared.profile.Profile.{Profile}
use Rattle.decoder_model.specs.Contents.{has_state}
use Rattle.decoder_model.specs.Faults.{contents_in}
use Rattle.decoder_model.specs.Kept.{lifted_time}
use Rattle.decoder_model.specs.Readings.{Content, Reading}
use Rattle.decoder_model.specs.Sets.{Delivery, lost, whole, refused}
use Rattle.decoder_model.specs.Verdict.{verdict_of}
use Rattle.decoder_model.specs.declared.set_end.SetEnd.{SetEnd}
use Rattle.decoder_model.specs.declared.set_end.SetEnd.TheVariants.{Shown, Waiting, Broken, NotLater}
use Rattle.decoder_model.specs.declared.set_fault.SetFault.{SetFault}

-- a set of state normal, by its contents
abbrev pub IsNormal : List Content → Type 0
IsNormal set = (has_state ModeChange set ≡ false) × (has_state Acquisition set ≡ false)

-- what ends no waiting: a loss, a set that is refused, one that is not kept, and one of state normal
abbrev pub IsIdle : Option ℕ → Delivery Reading → Type 0
IsIdle lifted lost = Unit {0}
IsIdle None (whole time size readings) = Unit {0}
IsIdle (Some lifted) (whole time size readings) = IsNormal (contents_in readings)
IsIdle lifted (refused time size fault) = Unit {0}

-- behind a loss or a broken set no kept set has come but such of state normal
pub data IsBehindLoss (profile : Profile) (anchor : ℕ) : List (Delivery Reading) → Type 0 where
  at_loss : (past : List (Delivery Reading)) → IsBehindLoss profile anchor (lost ∷ past)
  at_broken : (past : List (Delivery Reading)) (delivery : Delivery Reading) (fault : SetFault)
      → verdict_of profile anchor past delivery ≡ Some (Broken fault)
      → IsBehindLoss profile anchor (delivery ∷ past)
  goes_on : (past : List (Delivery Reading)) (delivery : Delivery Reading) → IsBehindLoss profile anchor past
      → IsIdle (lifted_time anchor past delivery) delivery → IsBehindLoss profile anchor (delivery ∷ past)

-- a verdict on a kept set with which nothing is shown
abbrev pub IsWaitingOrBroken : SetEnd → Type 0
IsWaitingOrBroken Shown = ⊥
IsWaitingOrBroken Waiting = Unit {0}
IsWaitingOrBroken (Broken fault) = Unit {0}
IsWaitingOrBroken (NotLater last) = ⊥
