-- What painting does to a plane of colours, by rows.
use Rattle.std.specs.Prelude.{◌≡◌, ℕ, ◌+◌, ◌-◌, ◌*◌, ◌==◌, ◌<◌, ◌≤◌, ◌⊎◌, nat_le, Bool, true, false, ◌&&◌, if◌then◌else◌, List, [], ◌∷◌, length, slice_index, slice_index_or, filter, find, take, Option, Some, None}
use Rattle.sub_base.specs.Colour.{clear, default_of}
use Rattle.sub_base.specs.Depth.{code_count, is_same_depth}
use Rattle.sub_base.specs.Picture.{Picture, code_at}
use Rattle.sub_base.specs.declared.colour.Colour.{Colour}
use Rattle.sub_base.specs.declared.depth.Depth.{Depth}
use Rattle.cue_list.specs.Authored.{authored_code, authored_colour, latest_row, sets_entry, colour_in, lies_in, live_cues, picture_at_place}
use Rattle.cue_list.specs.declared.epoch.Epoch.{Epoch}
use Rattle.cue_records.specs.declared.region.Region.{Region}
use Rattle.cue_records.specs.declared.row_values.ColourRow.{ColourRow}
use Rattle.cue_list.specs.declared.epoch.Cue.{Cue}

-- the colour at a place of a plane of that width
abbrev pub plane_at : List Colour → ℕ → ℕ → ℕ → Colour
plane_at plane width column row = slice_index_or plane (row * width + column) clear

-- all places are clear
abbrev pub IsBlank : List Colour → Type 0
IsBlank plane = (place : ℕ) → slice_index_or plane place clear ≡ clear

-- ---- entries

-- the colour of a code
abbrev pub colour_of : List Colour → ℕ → Colour
colour_of entries code = slice_index_or entries code clear

-- the first n entries have their default colours
abbrev pub HasDefaults : Depth → ℕ → List Colour → Type 0
HasDefaults depth n entries = (entry : ℕ) → entry < n → colour_of entries entry ≡ default_of depth entry

-- each entry that the depth has, has its colour at a tick
abbrev pub AreEntriesBy : List ColourRow → ℕ → Depth → ℕ → List Colour → Type 0
AreEntriesBy colours clut depth tick entries =
    (entry : ℕ) → entry < code_count depth
    → colour_of entries entry ≡ authored_colour colours clut depth entry tick

-- ---- rows

-- what a code of a picture makes of the colour beneath it: code 1 of a picture that is seen through leaves it
abbrev pub colour_over : List Colour → Bool → ℕ → Colour → Colour
colour_over entries see_through code beneath = if see_through && (code == 1) then beneath else colour_of entries code

-- a row of codes was painted on a plane, from a place on
pub record SetsRow (entries : List Colour) (codes : List ℕ) (start : ℕ) (see_through : Bool)
    (old new : List Colour) : Type 0 where
  pub covered : (k : ℕ) → k < length codes
      → slice_index_or new (start + k) clear
      ≡ colour_over entries see_through (slice_index codes k) (slice_index_or old (start + k) clear)
  pub outside : (place : ℕ) → (place < start) ⊎ (start + length codes ≤ place)
      → slice_index_or new place clear ≡ slice_index_or old place clear

-- so many places got one colour, from a place on
pub record SetsAll (colour : Colour) (start count : ℕ) (old new : List Colour) : Type 0 where
  pub covered : (k : ℕ) → k < count → slice_index_or new (start + k) clear ≡ colour
  pub outside : (place : ℕ) → (place < start) ⊎ (start + count ≤ place)
      → slice_index_or new place clear ≡ slice_index_or old place clear

-- the first n rows of a picture were painted with its upper left corner at column `left` of row `top`
pub record PaintsRows (entries : List Colour) (picture : Picture) (left top : ℕ) (see_through : Bool)
    (width height n : ℕ) (old new : List Colour) : Type 0 where
  pub covered : (column row : ℕ) → column < picture.width → row < n →
      plane_at new width (left + column) (top + row)
      ≡ colour_over entries see_through (code_at picture column row)
      (plane_at old width (left + column) (top + row))
  pub outside : (column row : ℕ) → column < width → row < height →
      (column < left) ⊎ (left + picture.width ≤ column) ⊎ (row < top) ⊎ (top + n ≤ row) →
      plane_at new width column row ≡ plane_at old width column row

-- the first n rows of a region got one colour
pub record FillsRows (colour : Colour) (region : Region) (width height n : ℕ) (old new : List Colour) : Type 0 where
  pub covered : (column row : ℕ) → column < region.width → row < n
      → plane_at new width (region.x + column) (region.y + row) ≡ colour
  pub outside : (column row : ℕ) → column < width → row < height →
      (column < region.x) ⊎ (region.x + region.width ≤ column) ⊎ (row < region.y) ⊎ (region.y + n ≤ row) →
      plane_at new width column row ≡ plane_at old width column row

-- ---- regions

-- a cue's picture is one of the script's, and lies inside the region, no deeper than it
pub record FitsIn (pictures : List Picture) (region : Region) (cue : Cue) : Type 0 where
  pub picture : cue.picture < length pictures
  pub across : cue.x + (picture_at_place pictures cue.picture).width ≤ region.width
  pub down : cue.y + (picture_at_place pictures cue.picture).height ≤ region.height
  pub codes : (column row : ℕ)
      → code_at (picture_at_place pictures cue.picture) column row < code_count region.depth

-- the cues of a region fit in it
abbrev pub AreCuesOf : List Picture → Region → List Cue → Type 0
AreCuesOf pictures region cues = (k : ℕ) (other : Cue) → k < length cues
    → (slice_index_or cues k other).region ≡ region.id → FitsIn pictures region (slice_index_or cues k other)

-- the colour at a place of a region where these cues are live, and the one beneath where none is
abbrev pub colour_by_live : List Picture → List ColourRow → Region → ℕ → List Cue → ℕ → ℕ → Colour
    → Colour
colour_by_live pictures colours region tick [] column row beneath = beneath
colour_by_live pictures colours region tick (cue ∷ cues) column row beneath =
    authored_colour colours region.clut region.depth
    (authored_code pictures (cue ∷ cues) (column - region.x) (row - region.y)) tick

-- these cues were painted over a region: its places have the colours of their codes, and nothing else changed
pub record HasLive (pictures : List Picture) (entries : List Colour) (region : Region) (live : List Cue)
    (width height : ℕ) (old new : List Colour) : Type 0 where
  pub inside : (column row : ℕ) → column < width → row < height → lies_in column row region ≡ true →
      plane_at new width column row
      ≡ colour_of entries (authored_code pictures live (column - region.x) (row - region.y))
  pub outside : (column row : ℕ) → column < width → row < height → lies_in column row region ≡ false →
      plane_at new width column row ≡ plane_at old width column row

-- a region was painted: its places have the colours of their codes where a cue is live in it, and nothing else changed
pub record PaintsRegion (pictures : List Picture) (epoch : Epoch) (region : Region) (tick width height : ℕ)
    (old new : List Colour) : Type 0 where
  pub inside : (column row : ℕ) → column < width → row < height → lies_in column row region ≡ true →
      plane_at new width column row
      ≡ colour_by_live pictures epoch.colours region tick (live_cues epoch.cues region.id tick) column row
      (plane_at old width column row)
  pub outside : (column row : ℕ) → column < width → row < height → lies_in column row region ≡ false →
      plane_at new width column row ≡ plane_at old width column row

-- regions that can be painted one after the other: each lies on the display, its cues fit in it, and no place of it
-- lies in one before
pub record ArePaintable (width height : ℕ) (pictures : List Picture) (cues : List Cue)
    (regions : List Region) : Type 0 where
  pub across : (k : ℕ) (other : Region) → k < length regions
      → (slice_index_or regions k other).x + (slice_index_or regions k other).width ≤ width
  pub down : (k : ℕ) (other : Region) → k < length regions
      → (slice_index_or regions k other).y + (slice_index_or regions k other).height ≤ height
  pub fit : (k : ℕ) (other : Region) → k < length regions
      → AreCuesOf pictures (slice_index_or regions k other) cues
  pub alone : (column row k : ℕ) (other : Region) → k < length regions
      → lies_in column row (slice_index_or regions k other) ≡ true →
      find (lies_in column row) (take k regions) ≡ None

-- a plane shows these regions of an epoch
abbrev pub ShowsRegions : List Picture → Epoch → List Region → ℕ → ℕ → ℕ → List Colour → Type 0
ShowsRegions pictures epoch regions tick width height plane = (column row : ℕ) → column < width → row < height →
    plane_at plane width column row ≡ colour_in pictures epoch tick column row (find (lies_in column row) regions)

-- ---- rows of colours so far

-- a row sets an entry of a CLUT at a depth, by a tick
abbrev pub sets_clut : ℕ → Depth → ℕ → ColourRow → Bool
sets_clut clut depth tick row = (row.clut == clut) && is_same_depth row.depth depth && nat_le row.tick tick

-- the tick of a row, and 0 where there is none
abbrev pub tick_or_zero : Option ColourRow → ℕ
tick_or_zero None = 0
tick_or_zero (Some row) = row.tick

-- what an entry has after these rows: its colour by a tick, and the tick from which on it has it
pub record IsEntryAfter (clut : ℕ) (depth : Depth) (tick entry : ℕ) (rows : List ColourRow) (colour : Colour)
    (since : ℕ) : Type 0 where
  pub colour_is : colour ≡ authored_colour rows clut depth entry tick
  pub since_is : since ≡ tick_or_zero (latest_row (filter (sets_entry clut depth entry tick) rows))
