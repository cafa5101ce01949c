-- Regions on a display, one beside another, and pictures in them.
use Rattle.std.specs.Prelude.{ℕ, ◌+◌, nat_lt, nat_le, Bool, ◌&&◌}
use Rattle.cue_records.specs.declared.region.Region.{Region}
use Rattle.cue_records.specs.declared.row_values.PictureHead.{PictureHead}

-- a region lies on a display
abbrev pub lies_on : ℕ → ℕ → Region → Bool
lies_on width height region = nat_le (region.x + region.width) width && nat_le (region.y + region.height) height

-- two regions share a row of the display
abbrev pub share_row : Region → Region → Bool
share_row first second = nat_lt first.y (second.y + second.height) && nat_lt second.y (first.y + first.height)

-- a picture lies inside a region at a place
abbrev pub has_room_at : Region → ℕ → ℕ → PictureHead → Bool
has_room_at region x y head = nat_le (x + head.width) region.width && nat_le (y + head.height) region.height
