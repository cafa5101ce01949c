-- What the fields of a picture mean that is drawn when it is asked for.
use Rattle.std.specs.Prelude.{◌≡◌, Bool, true, false, vec_len}
use Rattle.page_core.specs.Memory.{Memory}
use Rattle.receiver.specs.LastShown.{Pictured}
use Rattle.receiver.specs.Showing.{places_of}
use Rattle.receiver.specs.Slots.{IsInPlane, slot_of}
use Rattle.receiver.specs.declared.picture.Picture.{Picture}

-- the picture as a plain value
abbrev pub last_of : Picture → Bool → Pictured
last_of picture drawn = record { places = vec_len picture.plane; picture = slot_of picture; drawn = drawn }

-- the picture is the front of its plane, and shows nothing where it is not drawn
pub record IsLastPicture (picture : Picture) (drawn : Bool) : Type 0 where
  pub inside : IsInPlane picture
  pub hidden : drawn ≡ false → picture.shown ≡ false

-- there is room for each picture of the page memory, which has the page of a picture that is not drawn
pub record IsAsked (core : Memory) (last : Pictured) : Type 0 where
  pub places : last.places ≡ places_of core.profile
  pub known : last.drawn ≡ false → core.known ≡ true
