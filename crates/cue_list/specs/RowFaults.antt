-- What is wrong with a record, by what is found by looking back over the records before it: the first of its tests that
-- fails.
use Rattle.std.specs.Prelude.{ℕ, ◌+◌, ◌==◌, nat_lt, nat_le, not, Bool, true, false, ◌&&◌, ◌||◌, if◌then◌else◌, List, [], ◌∷◌, length, chars, Option, Some, None, is_some, slice_get}
use Rattle.std.specs.List.{list_any}
use Rattle.sub_base.specs.Depth.{bits_of, code_count}
use Rattle.bitmap_font.specs.Font.{FontValue}
use Rattle.cue_records.specs.declared.limits.TheConstants.{LONGEST_CUE, LONGEST_NAME, MOST_CODES, MOST_COLOURS, MOST_CUES, MOST_EPOCHS, MOST_HEIGHT, MOST_PICTURES, MOST_REGIONS, MOST_WIDTH}
use Rattle.cue_records.specs.declared.row_values.ColourRow.{ColourRow}
use Rattle.cue_list.specs.declared.epoch.Epoch.{Epoch}
use Rattle.cue_records.specs.declared.region.Region.{Region}
use Rattle.cue_records.specs.declared.fault.ScriptKind.{ScriptKind}
use Rattle.cue_records.specs.declared.fault.ScriptKind.TheVariants as faults
use Rattle.cue_records.specs.declared.row_values.PictureHead.{PictureHead}
use Rattle.cue_records.specs.declared.row_values.PlaceRow.{PlaceRow}
use Rattle.cue_records.specs.declared.row_kind.RowKind.{RowKind}
use Rattle.cue_records.specs.declared.row_kind.RowKind.TheVariants as kinds
use Rattle.cue_records.specs.CellFaults.{first_of, fails, value_at, cells_fault, is_text_row}
use Rattle.cue_records.specs.Cells.{cell_at}
use Rattle.cue_records.specs.CodeFaults.{pixels_fault}
use Rattle.cue_list.specs.Past.{ScriptPast, is_close, region_with, looking_back}
use Rattle.cue_records.specs.RowValues.{area, region_in, colour_in, head_in, placing_in}
use Rattle.cue_records.specs.Regions.{has_room_at, lies_on, share_row}
use Rattle.cue_records.specs.Records.{Record, cells_of}
use Rattle.cue_records.specs.Rows.{Row}
use Rattle.cue_list.specs.TextSizes.{text_head, missing_glyph}

-- ---- the place of a record

-- a colour, place or cue stands in the last epoch
abbrev pub is_used : Option Epoch → Bool
is_used None = false
is_used (Some epoch) = nat_lt 0 (length epoch.colours) || nat_lt 0 (length epoch.cues)

-- origin, display and refresh are the first three records; a region needs an epoch without colour, place or cue so far,
-- and these need an epoch
abbrev pub is_misplaced : ScriptPast → RowKind → Bool
is_misplaced past kinds.Origin = not (past.rows == 0)
is_misplaced past kinds.Display = not (past.rows == 1)
is_misplaced past kinds.Refresh = not (past.rows == 2)
is_misplaced past kinds.Epoch = nat_lt past.rows 3
is_misplaced past kinds.Picture = nat_lt past.rows 3
is_misplaced past kinds.Region = not (is_some past.epoch) || is_used past.epoch
is_misplaced past kinds.Colour = not (is_some past.epoch)
is_misplaced past kinds.Place = not (is_some past.epoch)
is_misplaced past kinds.Cue = not (is_some past.epoch)
is_misplaced past kinds.Other = false

-- the regions of the last epoch
abbrev pub regions_of : Option Epoch → List Region
regions_of None = []
regions_of (Some epoch) = epoch.regions

-- how many epochs there are
abbrev pub epoch_count : ScriptPast → ℕ
epoch_count past = length past.ended + (if is_some past.epoch then 1 else 0)

-- one more of that kind would be too many
abbrev pub is_full : ScriptPast → RowKind → Bool
is_full past kinds.Epoch = nat_le MOST_EPOCHS (epoch_count past)
is_full past kinds.Region = nat_le MOST_REGIONS (length (regions_of past.epoch))
is_full past kinds.Colour = nat_le MOST_COLOURS past.colours
is_full past kinds.Picture = nat_le MOST_PICTURES past.pictures
is_full past kinds.Place = nat_le MOST_CUES past.cues
is_full past kinds.Cue = nat_le MOST_CUES past.cues
is_full past _ = false

-- with that many codes more there would be too many
abbrev pub are_too_many : ScriptPast → PictureHead → Bool
are_too_many past head = nat_lt MOST_CODES (past.codes + area head)

-- ---- epochs, regions and colours

-- the last epoch starts before that tick
abbrev pub starts_before : ℕ → Option Epoch → Bool
starts_before tick None = true
starts_before tick (Some epoch) = nat_lt epoch.start tick

-- a cue of the last epoch ends after that tick, or a colour of it does not lie before it
abbrev pub lasts_past : ℕ → Option Epoch → Bool
lasts_past tick None = false
lasts_past tick (Some epoch) =
    list_any (λ cue. nat_lt tick cue.end) epoch.cues || list_any (λ row. nat_le tick row.tick) epoch.colours

-- a new epoch's start
unfoldable pub epoch_fault : ScriptPast → ℕ → Option ScriptKind
epoch_fault past start = first_of (
    fails (not (starts_before start past.epoch)) faults.Order
    ∷ fails (lasts_past start past.epoch) faults.OutsideEpoch
    ∷ fails (past.is_near start) faults.TooClose
    ∷ [])

-- a new region: no region of the epoch has its number; then it lies on the display; then it shares no row with another
unfoldable pub region_fault : ScriptPast → Region → Option ScriptKind
region_fault past region = first_of (
    fails (is_some (region_with region.id (regions_of past.epoch))) faults.DoubleRegion
    ∷ fails (not (lies_on past.width past.height region)) faults.RegionOutside
    ∷ fails (list_any (share_row region) (regions_of past.epoch)) faults.RegionsMeet
    ∷ [])

-- a tick lies before the start of the last epoch
abbrev pub is_early : ℕ → Option Epoch → Bool
is_early tick None = false
is_early tick (Some epoch) = nat_lt tick epoch.start

-- a colour: its depth has the entry; then the last epoch has started by its tick; then this is not too close to others
unfoldable pub colour_fault : ScriptPast → ColourRow → Option ScriptKind
colour_fault past row = first_of (
    fails (not (nat_lt row.entry (code_count row.depth))) faults.CodeRange
    ∷ fails (is_early row.tick past.epoch) faults.OutsideEpoch
    ∷ fails (past.is_near row.tick) faults.TooClose
    ∷ [])

-- ---- pictures

-- a picture's name has 1 to 64 bytes
abbrev pub is_name : List ℕ → Bool
is_name name = nat_le 1 (length name) && nat_le (length name) LONGEST_NAME

-- a picture: its name has a length that is allowed; then its codes are as its head says; then there are not too many
unfoldable pub picture_fault : ScriptPast → PictureHead → Row → Option ScriptKind
picture_fault past head cells = first_of (
    fails (not (is_name (cell_at cells 1))) faults.Range
    ∷ pixels_fault head (cell_at cells 5)
    ∷ fails (are_too_many past head) faults.TooMany
    ∷ [])

-- ---- places and cues

-- a span of ticks in an epoch
unfoldable pub span_fault : ScriptPast → ℕ → ℕ → Option ScriptKind
span_fault past start end = first_of (
    fails (is_early start past.epoch) faults.OutsideEpoch
    ∷ fails (nat_le end start) faults.EmptySpan
    ∷ fails (nat_lt (start + LONGEST_CUE) end) faults.TooLong
    ∷ fails (past.is_near start || past.is_near end || is_close start end) faults.TooClose
    ∷ [])

-- a picture at a place of a region
abbrev pub placed_fault : ScriptPast → PlaceRow → Option Region → Option PictureHead → Option ScriptKind
placed_fault past placing None head = Some faults.NoRegion
placed_fault past placing (Some region) None = Some faults.NoPicture
placed_fault past placing (Some region) (Some head) = first_of (
    fails (nat_lt (bits_of region.depth) (bits_of head.depth)) faults.CodeRange
    ∷ fails (not (has_room_at region placing.x placing.y head)) faults.CueOutside
    ∷ span_fault past placing.start placing.end
    ∷ [])

-- the depth and sides of the picture at that place of the list
abbrev pub head_at : List PictureHead → Option ℕ → Option PictureHead
head_at heads None = None
head_at heads (Some place) = slice_get heads place

-- a place: its region is one of the epoch; then its picture was named before; then the tests of a picture at a place
unfoldable pub place_fault : ScriptPast → PlaceRow → List ℕ → Option ScriptKind
place_fault past placing name =
    placed_fault past placing (region_with placing.region (regions_of past.epoch))
    (head_at past.heads (past.named name))

-- the character that has no glyph, where there is one
abbrev pub glyph_fault : Option ℕ → Option ScriptKind
glyph_fault None = None
glyph_fault (Some character) = Some (faults.Glyph character)

-- a text's picture at a place of a region
abbrev pub text_fault : ScriptPast → PlaceRow → Region → PictureHead → Option ScriptKind
text_fault past placing region head = first_of (
    fails (head.width == 0) faults.Range
    ∷ fails (nat_lt MOST_WIDTH head.width || nat_lt MOST_HEIGHT head.height
    || not (has_room_at region placing.x placing.y head))
    faults.CueOutside
    ∷ span_fault past placing.start placing.end
    ∷ fails (are_too_many past head) faults.TooMany
    ∷ [])

-- a text in its region, where the epoch has it: ink and paper are codes of its depth; then each character has a glyph;
-- then the tests of a text's picture
abbrev pub set_fault : FontValue → ScriptPast → PlaceRow → ℕ → ℕ → List ℕ → Option Region
    → Option ScriptKind
set_fault font past placing ink paper characters None = Some faults.NoRegion
set_fault font past placing ink paper characters (Some region) = first_of (
    fails (not (nat_lt ink (code_count region.depth) && nat_lt paper (code_count region.depth))) faults.CodeRange
    ∷ glyph_fault (missing_glyph font characters)
    ∷ text_fault past placing region (text_head font region.depth characters)
    ∷ [])

-- a cue: its region is one of the epoch; then the tests of a text in it
unfoldable pub cue_fault : FontValue → ScriptPast → PlaceRow → ℕ → ℕ → List ℕ → Option ScriptKind
cue_fault font past placing ink paper characters =
    set_fault font past placing ink paper characters (region_with placing.region (regions_of past.epoch))

-- ---- all tests

-- the tests of a record's kind
abbrev pub kind_fault : FontValue → ScriptPast → RowKind → ℕ → Row → Option ScriptKind
kind_fault font past kinds.Epoch number cells = epoch_fault past (value_at cells 1)
kind_fault font past kinds.Region number cells = region_fault past (region_in cells)
kind_fault font past kinds.Colour number cells = colour_fault past (colour_in number cells)
kind_fault font past kinds.Picture number cells = picture_fault past (head_in cells) cells
kind_fault font past kinds.Place number cells = place_fault past (placing_in cells) (cell_at cells 7)
kind_fault font past kinds.Cue number cells =
    cue_fault font past (placing_in cells) (value_at cells 6) (value_at cells 7) (chars (cell_at cells 8))
kind_fault font past _ number cells = None

-- a first cell that names no kind
abbrev pub is_unknown : RowKind → Bool
is_unknown kinds.Other = true
is_unknown _ = false

-- the tests that a record's text, first word and number of cells have to pass
unfoldable pub shape_fault : RowKind → Row → Option ScriptKind
shape_fault kind cells = first_of (
    fails (not (is_text_row cells)) faults.NotUtf8
    ∷ fails (is_unknown kind) faults.Unknown
    ∷ fails (not (length cells == cells_of kind)) faults.Count
    ∷ [])

-- the first test of a record that fails
abbrev pub fault_with : FontValue → ScriptPast → Record → Option ScriptKind
fault_with font past row = first_of (
    shape_fault row.kind row.cells
    ∷ fails (is_misplaced past row.kind) faults.Order
    ∷ fails (is_full past row.kind) faults.TooMany
    ∷ cells_fault past.origin row.kind row.cells
    ∷ kind_fault font past row.kind row.number row.cells
    ∷ [])

-- the first test of a record that fails, the records before it being given nearest first
abbrev pub fault_of : FontValue → List Record → Record → Option ScriptKind
fault_of font earlier row = fault_with font (looking_back font earlier) row
