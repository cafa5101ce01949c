-- What a receiver's pictures show, and what that has to do with all sets and losses that it was handed, the latest
-- first.
use Rattle.std.specs.Prelude.{◌≡◌, ℕ, ◌*◌, ◌≤◌, max, nat_le, List, [], ◌∷◌, Option, Some, None, unwrap_or, if◌then◌else◌}
use Rattle.std.specs.Option.{is_some}
use Rattle.sub_base.specs.declared.profile.Profile.{Profile}
use Rattle.stream_syntax.specs.declared.wire.TheConstants.{DEFAULT_DISPLAY_HEIGHT, DEFAULT_DISPLAY_WIDTH}
use Rattle.decoder_model.specs.Kept.{last_time, lifted_time}
use Rattle.decoder_model.specs.Readings.{Reading}
use Rattle.decoder_model.specs.Sets.{Delivery}
use Rattle.decoder_model.specs.Shown.{Plane, View, nothing, plane, is_over_at, view_at}
use Rattle.page_core.specs.Memory.{Memory}
use Rattle.page_core.specs.Rows.{picture_in}

-- ---- what is kept

-- a picture from a lifted time on, and when it is timed out; none where the video is seen everywhere
pub record Slot : Type 0 where
  pub time : ℕ
  pub until : Option ℕ
  pub plane : Option Plane

-- the page memory, the picture of the last kept set, and that of the one before it
pub record Showing : Type 0 where
  pub core : Memory
  pub pending : Slot
  pub current : Slot

-- the two pictures, and how many places the plane of each has
pub record Pictures : Type 0 where
  pub places : ℕ
  pub pending : Slot
  pub current : Slot

-- how many places a plane for each picture of a profile has
abbrev pub places_of : Profile → ℕ
places_of profile = max (profile.width * profile.height) (DEFAULT_DISPLAY_WIDTH * DEFAULT_DISPLAY_HEIGHT)

-- the picture of a page memory
abbrev pub plane_in : Memory → Plane
plane_in memory = record { width = memory.display.width; height = memory.display.height; colours = picture_in memory }

-- ---- what is shown

-- what is shown at a tick of a picture that is timed out then, where there is a picture: nothing once it is over
abbrev pub view_until : Option ℕ → ℕ → Option Plane → View
view_until until tick None = nothing
view_until until tick (Some picture) = if is_over_at tick until then nothing else plane picture

-- what is shown of a picture at a tick from its time on
abbrev pub view_in : Slot → ℕ → View
view_in slot tick = view_until slot.until tick slot.plane

-- what is shown at a tick from the current picture's time on, of the pending picture and the current one
abbrev pub shown_at : Slot → Slot → ℕ → View
shown_at pending current tick = if nat_le pending.time tick then view_in pending tick else view_in current tick

-- ---- what it has to do with all that was handed

-- the lifted time of the kept set before the last one; none where fewer than two sets were kept
unfoldable pub time_before_last : {S : Type 0} → ℕ → List (Delivery S) → Option ℕ
time_before_last anchor [] = None
time_before_last anchor (delivery ∷ past) =
    if is_some (lifted_time anchor past delivery) then last_time anchor past else time_before_last anchor past

-- the two pictures are those after this past, the latest first, in a receiver of a profile with an anchor
pub record ArePictures (profile : Profile) (anchor : ℕ) (past : List (Delivery Reading))
    (pending current : Slot) : Type 0 where
  pub order : current.time ≤ pending.time
  -- the pending picture is that of the last kept set, and the current one that of the kept set before it
  pub latest : pending.time ≡ unwrap_or (last_time anchor past) 0
  pub earlier : current.time ≡ unwrap_or (time_before_last anchor past) 0
  pub shows : (tick : ℕ) → current.time ≤ tick
      → shown_at pending current tick ≡ view_at profile anchor tick past
