-- What is shown from the time of the last kept set on, in a receiver that draws what it is asked for.
use Rattle.std.specs.Prelude.{◌≡◌, ℕ, ◌≤◌, Bool, false, List, Option, unwrap_or, if◌then◌else◌}
use Rattle.sub_base.specs.declared.profile.Profile.{Profile}
use Rattle.decoder_model.specs.Kept.{last_time}
use Rattle.decoder_model.specs.Readings.{Reading}
use Rattle.decoder_model.specs.Sets.{Delivery}
use Rattle.decoder_model.specs.Shown.{Standing, View, standing_after, view_at, view_of}
use Rattle.decoder_model.specs.declared.set_end.SetEnd.{SetEnd}
use Rattle.decoder_model.specs.declared.set_end.SetEnd.TheVariants.{Shown, Waiting, Broken, NotLater}
use Rattle.receiver.specs.Showing.{Slot, view_in}

-- a picture, whether it is drawn, and how many places its plane has
pub record Pictured : Type 0 where
  pub places : ℕ
  pub picture : Slot
  pub drawn : Bool

-- what is shown at a tick: of the picture where it is drawn, and else of the page that stands
abbrev pub seen_at : Slot → Bool → Option Standing → ℕ → View
seen_at picture drawn standing tick = if drawn then view_in picture tick else view_of tick standing

-- after this past, the latest first, that is what is shown from the time of the last kept set on
pub record IsLastShown (profile : Profile) (anchor : ℕ) (past : List (Delivery Reading)) (picture : Slot)
    (drawn : Bool) : Type 0 where
  pub shows : (tick : ℕ) → unwrap_or (last_time anchor past) 0 ≤ tick
      → seen_at picture drawn (standing_after profile anchor past) tick ≡ view_at profile anchor tick past

-- a picture that is not drawn is that of a set with that end, which is shown, or it was not drawn before a set that is
-- not kept
abbrev pub IsStillKnown : Bool → SetEnd → Type 0
IsStillKnown drawn Shown = Unit {0}
IsStillKnown drawn Waiting = ⊥
IsStillKnown drawn (Broken fault) = ⊥
IsStillKnown drawn (NotLater last) = drawn ≡ false
