-- What a store has after any calls since its last reset: each code is that of the last call that covers its pixel.
use Rattle.std.specs.Prelude.{◌≡◌, ℕ, ◌+◌, ◌-◌, ◌<◌, ◌==◌, ◌&&◌, if◌then◌else◌, nat_le, nat_lt, Bool, true, false, List, ◌∷◌, length, find, filter, slice_index_or, sum_by, Option, Some, None, is_some, unwrap_or}
use Rattle.sub_base.specs.declared.depth.Depth.{Depth}
use Rattle.string_painting.specs.Painting.{region_code}
use Rattle.string_painting.specs.declared.drawing.Brush.{Brush}
use Rattle.pixel_store.specs.Regions.{StoredRegion, Regions, IsPlaced, region_at, code_of}
use Rattle.sub_base.specs.Depth.{pixel_bytes}

-- a call of a store that gave codes to pixels of a slot: a region of that width, height and depth was placed there, it
-- was filled with a code, a run was painted: its first column, its row, how many pixels it has, its code; or a string
-- was: its first column, its row, and what each of its pixels gave, which is nothing where an object is seen through
pub data StoreCall : Type 0 where
  Place : ℕ → ℕ → ℕ → Depth → StoreCall
  Fill : ℕ → ℕ → StoreCall
  PaintRun : ℕ → ℕ → ℕ → ℕ → ℕ → StoreCall
  PaintString : ℕ → ℕ → ℕ → List (Option ℕ) → StoreCall

-- what a pixel of a string gives to the region: nothing where an object is seen through and the string's code, as it is
-- read, is 1; else the code that the map table gives
abbrev pub shown_code : Brush → List ℕ → ℕ → Option ℕ
shown_code brush table read = if brush.see_through && (read == 1) then None else Some (region_code brush table read)

-- what a string that begins in column `left` gives to column x
abbrev pub string_code : ℕ → List (Option ℕ) → ℕ → Option ℕ
string_code left codes x = if nat_lt x left then None else slice_index_or codes (x - left) None

-- the call covers the pixel in column x of row y of a slot
abbrev pub covers : ℕ → ℕ → ℕ → StoreCall → Bool
covers slot x y (Place placed width height depth) = placed == slot
covers slot x y (Fill filled code) = filled == slot
covers slot x y (PaintRun painted left row count code) =
    (painted == slot) && ((row == y) && (nat_le left x && nat_lt x (left + count)))
covers slot x y (PaintString painted left row codes) =
    (painted == slot) && ((row == y) && is_some (string_code left codes x))

-- the code that it gives to a pixel in column x: 0 where a region is placed
abbrev pub code_given : ℕ → Option StoreCall → ℕ
code_given x None = 0
code_given x (Some (Place slot width height depth)) = 0
code_given x (Some (Fill slot code)) = code
code_given x (Some (PaintRun slot left row count code)) = code
code_given x (Some (PaintString slot left row codes)) = unwrap_or (string_code left codes x) 0

-- the code of the last call that covers the pixel; the calls stand in a list, the latest first
abbrev pub last_write : ℕ → ℕ → ℕ → List StoreCall → ℕ
last_write slot x y past = code_given x (find (covers slot x y) past)

-- the call placed a region
abbrev pub is_place : StoreCall → Bool
is_place (Place placed width height depth) = true
is_place (Fill filled code) = false
is_place (PaintRun painted left row count code) = false
is_place (PaintString painted left row codes) = false

-- the call placed a region in that slot
abbrev pub is_place_of : ℕ → StoreCall → Bool
is_place_of slot (Place placed width height depth) = placed == slot
is_place_of slot (Fill filled code) = false
is_place_of slot (PaintRun painted left row count code) = false
is_place_of slot (PaintString painted left row codes) = false

-- the bytes that the call takes
abbrev pub bytes_taken : StoreCall → ℕ
bytes_taken (Place slot width height depth) = pixel_bytes width height depth
bytes_taken (Fill slot code) = 0
bytes_taken (PaintRun slot left row count code) = 0
bytes_taken (PaintString slot left row codes) = 0

-- the call that places such a region
abbrev pub placing : ℕ → StoredRegion → StoreCall
placing slot region = Place slot region.width region.height region.depth

-- the store is one after these calls since its last reset, the latest first: it has the regions that they placed, with
-- their sides and depths; each pixel has the code of the last write to it; and what is free and what they took is the
-- whole store
pub record IsAfter (past : List StoreCall) (store : Regions) : Type 0 where
  pub count : length store.regions ≡ length (filter is_place past)
  pub placed : (slot : ℕ) → IsPlaced store slot
      → find (is_place_of slot) past ≡ Some (placing slot (region_at store slot))
  pub codes : (slot x y : ℕ) → IsPlaced store slot → x < (region_at store slot).width
      → y < (region_at store slot).height →
      code_of (region_at store slot) x y ≡ last_write slot x y past
  pub bytes : store.free + sum_by bytes_taken past ≡ store.size

-- whatever the calls before were, the new store is one after them and this one
abbrev pub FollowsCall : StoreCall → Regions → Regions → Type 0
FollowsCall call old new = (past : List StoreCall) → IsAfter past old → IsAfter (call ∷ past) new
