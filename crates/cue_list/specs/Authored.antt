-- What a script shows: the cues that are live at a tick, the code and the colour at a place, and the whole picture.
use Rattle.std.specs.Prelude.{ℕ, ◌-◌, ◌==◌, nat_le, nat_lt, not, Bool, ◌&&◌, if◌then◌else◌, List, [], ◌∷◌, map, filter, find, reverse, Option, Some, None, slice_index_or}
use Rattle.std.specs.List.{flat_map, range_with_len}
use Rattle.sub_base.specs.Colour.{clear, default_of}
use Rattle.sub_base.specs.Depth.{is_same_depth}
use Rattle.sub_base.specs.Picture.{Picture, picture_of, code_at, is_inside}
use Rattle.sub_base.specs.declared.colour.Colour.{Colour}
use Rattle.sub_base.specs.declared.depth.Depth.{Depth}
use Rattle.sub_base.specs.declared.depth.Depth.TheVariants.{Two}
use Rattle.cue_list.specs.declared.epoch.Epoch.{Epoch}
use Rattle.cue_records.specs.declared.region.Region.{Region}
use Rattle.cue_records.specs.declared.row_values.ColourRow.{ColourRow}
use Rattle.cue_list.specs.declared.epoch.Cue.{Cue}

-- ---- epochs and live cues

-- the epoch of a tick: the last one that has started
abbrev pub epoch_at : List Epoch → ℕ → Option Epoch
epoch_at epochs tick = find (λ epoch. nat_le epoch.start tick) (reverse epochs)

-- a cue is live from its start on, up to its end
abbrev pub is_live : ℕ → Cue → Bool
is_live tick cue = nat_le cue.start tick && nat_lt tick cue.end

-- the cues of a region that are live at a tick, in the script's order
abbrev pub live_cues : List Cue → ℕ → ℕ → List Cue
live_cues cues region tick = filter (λ cue. (cue.region == region) && is_live tick cue) cues

-- ---- codes

-- the picture at that place of the script's list
abbrev pub picture_at_place : List Picture → ℕ → Picture
picture_at_place pictures place = slice_index_or pictures place (picture_of 0 0 Two [])

-- the code of a cue's picture at a place of its region
abbrev pub code_of : List Picture → Cue → ℕ → ℕ → ℕ
code_of pictures cue x y = code_at (picture_at_place pictures cue.picture) (x - cue.x) (y - cue.y)

-- the cue's picture covers a place of its region
abbrev pub covers : List Picture → Cue → ℕ → ℕ → Bool
covers pictures cue x y =
    is_inside cue.x cue.y (picture_at_place pictures cue.picture).width
    (picture_at_place pictures cue.picture).height x y

-- a cue shows its own code at a place: it covers it, and is not see-through with code 1 there
abbrev pub shows : List Picture → Cue → ℕ → ℕ → Bool
shows pictures cue x y = covers pictures cue x y && not (cue.see_through && (code_of pictures cue x y == 1))

-- the code that a cue shows at a place, and 0 where there is no cue
abbrev pub code_shown : List Picture → ℕ → ℕ → Option Cue → ℕ
code_shown pictures x y None = 0
code_shown pictures x y (Some cue) = code_of pictures cue x y

-- the code at a place of a region: that of the last of the live cues that shows its own there, and 0 where none does
abbrev pub authored_code : List Picture → List Cue → ℕ → ℕ → ℕ
authored_code pictures live x y = code_shown pictures x y (find (λ cue. shows pictures cue x y) (reverse live))

-- ---- colours

-- a row sets that entry of a CLUT at that depth, by a tick
abbrev pub sets_entry : ℕ → Depth → ℕ → ℕ → ColourRow → Bool
sets_entry clut depth entry tick row =
    (row.clut == clut) && is_same_depth row.depth depth && (row.entry == entry) && nat_le row.tick tick

-- of two rows the one with the later tick, and of equal ticks the second
abbrev pub later_row : ColourRow → Option ColourRow → ColourRow
later_row first None = first
later_row first (Some second) = if nat_le first.tick second.tick then second else first

-- the row with the latest tick, and among equal ticks the last one
unfoldable pub latest_row : List ColourRow → Option ColourRow
latest_row [] = None
latest_row (row ∷ rows) = Some (later_row row (latest_row rows))

-- the colour of the row, and where there is none the default colour of the entry
abbrev pub colour_or_default : Depth → ℕ → Option ColourRow → Colour
colour_or_default depth entry None = default_of depth entry
colour_or_default depth entry (Some row) = row.colour

-- the colour of an entry of a CLUT at a tick: that of the latest row that sets it by then
abbrev pub authored_colour : List ColourRow → ℕ → Depth → ℕ → ℕ → Colour
authored_colour colours clut depth entry tick =
    colour_or_default depth entry (latest_row (filter (sets_entry clut depth entry tick) colours))

-- ---- the picture

-- a place of the display lies in a region
abbrev pub lies_in : ℕ → ℕ → Region → Bool
lies_in x y region = is_inside region.x region.y region.width region.height x y

-- the colour at a place of a region with these live cues: clear where there are none
abbrev pub colour_with : List Picture → List ColourRow → Region → ℕ → List Cue → ℕ → ℕ → Colour
colour_with pictures colours region tick [] x y = clear
colour_with pictures colours region tick (cue ∷ cues) x y =
    authored_colour colours region.clut region.depth
    (authored_code pictures (cue ∷ cues) (x - region.x) (y - region.y))
    tick

-- the colour at a place of the display that lies in a region, or in none
abbrev pub colour_in : List Picture → Epoch → ℕ → ℕ → ℕ → Option Region → Colour
colour_in pictures epoch tick x y None = clear
colour_in pictures epoch tick x y (Some region) =
    colour_with pictures epoch.colours region tick (live_cues epoch.cues region.id tick) x y

-- the colour at a place in an epoch, or before the first one
abbrev pub colour_in_epoch : List Picture → ℕ → ℕ → ℕ → Option Epoch → Colour
colour_in_epoch pictures tick x y None = clear
colour_in_epoch pictures tick x y (Some epoch) = colour_in pictures epoch tick x y (find (lies_in x y) epoch.regions)

-- the colour that is authored at a place of the display
abbrev pub authored_at : List Epoch → List Picture → ℕ → ℕ → ℕ → Colour
authored_at epochs pictures tick x y = colour_in_epoch pictures tick x y (epoch_at epochs tick)

-- the authored picture of a display: its colours by rows, from the top and from the left
abbrev pub authored_picture : ℕ → ℕ → List Epoch → List Picture → ℕ → List Colour
authored_picture width height epochs pictures tick =
    flat_map (λ y. map (λ x. authored_at epochs pictures tick x y) (range_with_len 0 width)) (range_with_len 0 height)
