-- A picture that is kept, as contracts see it.
use Rattle.std.specs.Prelude.{◌≡◌, ℕ, ◌*◌, ◌≤◌, true, List, take, Some, None, vec_len, if◌then◌else◌}
use Rattle.sub_base.specs.declared.colour.Colour.{Colour}
use Rattle.sub_base.specs.declared.profile.Profile.{Profile}
use Rattle.decoder_model.specs.Shown.{Plane}
use Rattle.receiver.specs.Showing.{Slot, places_of}
use Rattle.receiver.specs.declared.picture.Picture.{Picture}

-- the front of a plane, with these sides
abbrev pub front_of : ℕ → ℕ → List Colour → Plane
front_of wide high places = record { width = wide; height = high; colours = take (wide * high) places }

-- a kept picture as contracts see it: the front of its plane, where that is shown
abbrev pub slot_of : Picture → Slot
slot_of picture = record {
  time = picture.time;
  until = picture.until;
  plane = if picture.shown then Some (front_of picture.width picture.height picture.plane.items) else None;
}

-- the plane has room for each picture of a profile
abbrev pub HasPlaces : Profile → Picture → Type 0
HasPlaces profile picture = vec_len picture.plane ≡ places_of profile

-- what is shown is the front of the plane
abbrev pub IsInPlane : Picture → Type 0
IsInPlane picture = picture.shown ≡ true → picture.width * picture.height ≤ vec_len picture.plane
