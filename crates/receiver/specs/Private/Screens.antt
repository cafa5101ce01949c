-- What the fields of a screen mean.
use Rattle.std.specs.Prelude.{◌≡◌, vec_len}
use Rattle.receiver.specs.Showing.{Pictures}
use Rattle.receiver.specs.Slots.{IsInPlane, slot_of}
use Rattle.receiver.specs.declared.picture.Picture.{Picture}

-- the two pictures as plain values
abbrev pub pictures_of : Picture → Picture → Pictures
pictures_of pending current = record {
  places = vec_len pending.plane;
  pending = slot_of pending;
  current = slot_of current;
}

-- both planes have as many places, and each picture is the front of its plane
pub record IsScreen (pending current : Picture) : Type 0 where
  pub places : vec_len current.plane ≡ vec_len pending.plane
  pub pending_inside : IsInPlane pending
  pub current_inside : IsInPlane current
