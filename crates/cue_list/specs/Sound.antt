-- What is true of the values of every script, since its records pass their tests.
use Rattle.std.specs.Prelude.{◌≡◌, ◌≢◌, ℕ, ◌+◌, ◌*◌, ◌==◌, ◌<◌, ◌≤◌, ◌⊎◌, List, [], ◌∷◌, ◌++◌, length, All, AllPairs, find, map, sum_by, Some}
use Rattle.std.specs.List.{flat_map}
use Rattle.sub_base.specs.Colour.{shown_of}
use Rattle.sub_base.specs.Depth.{bits_of, code_count}
use Rattle.sub_base.specs.Picture.{Picture, IsPicture}
use Rattle.cue_records.specs.declared.limits.TheConstants.{CLOSE_TICKS, LATEST_ORIGIN, LONGEST_CUE, LONGEST_SCRIPT, MOST_CODES, MOST_COLOURS, MOST_CUES, MOST_EPOCHS, MOST_HEIGHT, MOST_PICTURES, MOST_REGIONS, MOST_WIDTH}
use Rattle.cue_list.specs.declared.epoch.Epoch.{Epoch}
use Rattle.cue_records.specs.declared.region.Region.{Region}
use Rattle.cue_records.specs.declared.row_values.ColourRow.{ColourRow}
use Rattle.cue_list.specs.declared.epoch.Cue.{Cue}
use Rattle.cue_list.specs.Authored.{picture_at_place}
use Rattle.sub_base.specs.declared.pace.TheConstants.{SECOND}

-- a tick lies from the origin on, at most 3,240,000,000 ticks after it
pub record IsTick (origin tick : ℕ) : Type 0 where
  pub late : origin ≤ tick
  pub early : tick ≤ origin + LONGEST_SCRIPT

-- a region lies on the display
pub record IsRegion (width height : ℕ) (region : Region) : Type 0 where
  pub numbers : (region.id ≤ 255) × (region.clut ≤ 255)
  pub wide : 1 ≤ region.width
  pub high : 1 ≤ region.height
  pub across : region.x + region.width ≤ width
  pub down : region.y + region.height ≤ height

-- two regions have different numbers, and one lies below the other
pub record AreSeparate (first second : Region) : Type 0 where
  pub ids : first.id ≢ second.id
  pub rows : (first.y + first.height ≤ second.y) ⊎ (second.y + second.height ≤ first.y)

-- the regions of an epoch: at most 64 on the display, of which no two share a row of it
pub record AreRegions (width height : ℕ) (regions : List Region) : Type 0 where
  pub many : length regions ≤ MOST_REGIONS
  pub each : All (IsRegion width height) regions
  pub apart : AllPairs AreSeparate regions

-- a colour of an entry that its depth has, as it is shown, from a tick in the epoch on
pub record IsColourRow (origin start : ℕ) (row : ColourRow) : Type 0 where
  pub tick : IsTick origin row.tick
  pub within : start ≤ row.tick
  pub clut : row.clut ≤ 255
  pub entry : row.entry < code_count row.depth
  pub shown : shown_of row.colour ≡ row.colour
  pub bytes : (row.colour.y ≤ 255) × (row.colour.cr ≤ 255) × (row.colour.cb ≤ 255) × (row.colour.t ≤ 255)

-- a picture lies inside a region at a place, and is no deeper
pub record FitsRegion (region : Region) (x y : ℕ) (picture : Picture) : Type 0 where
  pub across : x + picture.width ≤ region.width
  pub down : y + picture.height ≤ region.height
  pub shallow : bits_of picture.depth ≤ bits_of region.depth

-- a cue shows a picture of the script inside a region of its epoch, for at most 54,000,000 ticks from the epoch's start
-- on
pub record IsCue (origin start : ℕ) (regions : List Region) (pictures : List Picture) (cue : Cue) : Type 0 where
  pub starts : IsTick origin cue.start
  pub ends : IsTick origin cue.end
  pub within : start ≤ cue.start
  pub lasts : cue.start < cue.end
  pub short : cue.end ≤ cue.start + LONGEST_CUE
  pub picture : cue.picture < length pictures
  pub region : Region
  pub found : find (λ region. region.id == cue.region) regions ≡ Some region
  pub fits : FitsRegion region cue.x cue.y (picture_at_place pictures cue.picture)

-- an epoch's regions, colours and cues are valid
pub record IsEpoch (origin width height : ℕ) (pictures : List Picture) (epoch : Epoch) : Type 0 where
  pub starts : IsTick origin epoch.start
  pub regions : AreRegions width height epoch.regions
  pub colours : All (IsColourRow origin epoch.start) epoch.colours
  pub cues : All (IsCue origin epoch.start epoch.regions pictures) epoch.cues

-- the ticks that the record of a cue names
abbrev pub ticks_of_cue : Cue → List ℕ
ticks_of_cue cue = cue.start ∷ cue.end ∷ []

-- the ticks that the records of an epoch name
abbrev pub ticks_of : Epoch → List ℕ
ticks_of epoch = epoch.start ∷ (map (λ row. row.tick) epoch.colours ++ flat_map ticks_of_cue epoch.cues)

-- two ticks are the same, or more than 3,600 ticks apart
abbrev pub AreTicksApart : ℕ → ℕ → Type 0
AreTicksApart first second = (first ≡ second) ⊎ ((first + CLOSE_TICKS < second) ⊎ (second + CLOSE_TICKS < first))

-- an epoch starts after another one, when no cue of that one is shown and none of its colours changes any more
pub record Follows (earlier later : Epoch) : Type 0 where
  pub starts : earlier.start < later.start
  pub colours : All (λ row. row.tick < later.start) earlier.colours
  pub cues : All (λ cue. cue.end ≤ later.start) earlier.cues

-- a script's display, refresh, epochs and pictures are valid, and within the limits
pub record IsSoundScript (origin width height refresh : ℕ) (epochs : List Epoch)
    (pictures : List Picture) : Type 0 where
  pub early : origin ≤ LATEST_ORIGIN
  pub wide : (1 ≤ width) × (width ≤ MOST_WIDTH)
  pub high : (1 ≤ height) × (height ≤ MOST_HEIGHT)
  pub seconds : ℕ
  pub whole : refresh ≡ SECOND * seconds
  pub often : (1 ≤ seconds) × (seconds ≤ 60)
  pub some_epoch : 1 ≤ length epochs
  pub few_epochs : length epochs ≤ MOST_EPOCHS
  pub each : All (IsEpoch origin width height pictures) epochs
  pub follow : AllPairs Follows epochs
  pub apart : AllPairs AreTicksApart (flat_map ticks_of epochs)
  pub few_colours : sum_by (λ epoch. length epoch.colours) epochs ≤ MOST_COLOURS
  pub few_cues : sum_by (λ epoch. length epoch.cues) epochs ≤ MOST_CUES
  pub few_pictures : length pictures ≤ MOST_PICTURES + MOST_CUES
  pub drawn : All IsPicture pictures
  pub small : sum_by (λ picture. picture.width * picture.height) pictures ≤ MOST_CODES
