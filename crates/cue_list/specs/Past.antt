-- What a record's tests look back to. The records before a record are given nearest first.
use Rattle.std.specs.Prelude.{ℕ, ◌+◌, ◌==◌, nat_lt, nat_le, Bool, true, false, ◌&&◌, ◌||◌, if◌then◌else◌, List, [], ◌∷◌, ◌++◌, length, find, chars, sum_by, Option, Some, None, option_map}
use Rattle.std.specs.List.{list_any, flat_map}
use Rattle.std.specs.Option.{option_map_or}
use Rattle.std.specs.Str.{bytes_eq}
use Rattle.bitmap_font.specs.Font.{FontValue}
use Rattle.cue_records.specs.declared.limits.TheConstants.{CLOSE_TICKS}
use Rattle.cue_records.specs.declared.row_values.ColourRow.{ColourRow}
use Rattle.cue_list.specs.declared.epoch.Cue.{Cue}
use Rattle.cue_list.specs.declared.epoch.Epoch.{Epoch}
use Rattle.cue_records.specs.declared.region.Region.{Region}
use Rattle.cue_records.specs.declared.row_values.PictureHead.{PictureHead}
use Rattle.cue_records.specs.declared.row_kind.RowKind.{RowKind}
use Rattle.cue_records.specs.declared.row_kind.RowKind.TheVariants as kinds
use Rattle.cue_records.specs.CellFaults.{value_at}
use Rattle.cue_records.specs.Cells.{cell_at}
use Rattle.cue_records.specs.Records.{Record, is}
use Rattle.cue_records.specs.RowValues.{area, region_in, colour_in, head_in, placing_in, is_through}
use Rattle.cue_records.specs.Rows.{Row}
use Rattle.cue_list.specs.TextSizes.{text_head}

-- ---- lists

-- a list with one more at its end, where there is one
abbrev pub with_last : {A : Type 0} → List A → Option A → List A
with_last items None = items
with_last items (Some item) = items ++ item ∷ []

-- what the records list, in the script's order; an item may look back over the records before its own
abbrev pub listed : {A : Type 0} → (List Record → Record → Option A) → List Record → List A
listed item [] = []
listed item (row ∷ earlier) = with_last (listed item earlier) (item earlier row)

-- what the records since the last epoch's own record list
abbrev pub listed_since : {A : Type 0} → (List Record → Record → Option A) → List Record → List A
listed_since item [] = []
listed_since item (row ∷ earlier) =
    if is kinds.Epoch row then [] else with_last (listed_since item earlier) (item earlier row)

-- how many records are of that kind
abbrev pub how_many : (RowKind → Bool) → List Record → ℕ
how_many counts [] = 0
how_many counts (row ∷ earlier) = if counts row.kind then how_many counts earlier + 1 else how_many counts earlier

-- a number of the nearest record of that kind
abbrev pub number_in : RowKind → ℕ → List Record → ℕ
number_in kind place earlier = option_map_or (λ row. value_at row.cells place) (find (is kind) earlier) 0

-- ---- regions, colours and ticks

-- the region that a record lists
abbrev pub region_by : RowKind → Row → Option Region
region_by kinds.Region cells = Some (region_in cells)
region_by _ cells = None

-- the regions since the last epoch's record
abbrev pub regions_in : List Record → List Region
regions_in earlier = listed_since (λ _ row. region_by row.kind row.cells) earlier

-- the colour that a record lists
abbrev pub colour_by : RowKind → ℕ → Row → Option ColourRow
colour_by kinds.Colour number cells = Some (colour_in number cells)
colour_by _ number cells = None

-- the colours since the last epoch's record
abbrev pub colours_in : List Record → List ColourRow
colours_in earlier = listed_since (λ _ row. colour_by row.kind row.number row.cells) earlier

-- the ticks that a record names
abbrev pub ticks_by : RowKind → Row → List ℕ
ticks_by kinds.Epoch cells = value_at cells 1 ∷ []
ticks_by kinds.Colour cells = value_at cells 1 ∷ []
ticks_by kinds.Place cells = value_at cells 1 ∷ value_at cells 2 ∷ []
ticks_by kinds.Cue cells = value_at cells 1 ∷ value_at cells 2 ∷ []
ticks_by _ cells = []

-- the ticks that the records name
abbrev pub ticks_in : List Record → List ℕ
ticks_in earlier = flat_map (λ row. ticks_by row.kind row.cells) earlier

-- two ticks differ by 1 to 3,600
abbrev pub is_close : ℕ → ℕ → Bool
is_close first second =
    (nat_lt first second && nat_le second (first + CLOSE_TICKS))
    || (nat_lt second first && nat_le first (second + CLOSE_TICKS))

-- ---- pictures

-- the region of that number
abbrev pub region_with : ℕ → List Region → Option Region
region_with id regions = find (λ region. region.id == id) regions

-- the depth and the sides of the picture that a record brings: its own, or its text's at its region's depth
abbrev pub head_by : FontValue → List Region → RowKind → Row → Option PictureHead
head_by font regions kinds.Picture cells = Some (head_in cells)
head_by font regions kinds.Cue cells =
    option_map (λ region. text_head font region.depth (chars (cell_at cells 8)))
    (region_with (value_at cells 3) regions)
head_by font regions _ cells = None

-- the depths and sides of the pictures
abbrev pub heads_in : FontValue → List Record → List PictureHead
heads_in font earlier = listed (λ before row. head_by font (regions_in before) row.kind row.cells) earlier

-- how many codes the pictures have
abbrev pub codes_in : FontValue → List Record → ℕ
codes_in font earlier = sum_by area (heads_in font earlier)

-- the place in the list of pictures of the last one of that name
abbrev pub place_named : FontValue → List Record → List ℕ → Option ℕ
place_named font [] name = None
place_named font (row ∷ earlier) name =
    if is kinds.Picture row && bytes_eq name (cell_at row.cells 1) then Some (length (heads_in font earlier))
    else place_named font earlier name

-- ---- cues and epochs

-- a cue with the picture at that place of the list
abbrev pub cue_with : ℕ → Row → ℕ → Bool → Cue
cue_with number cells picture see_through = record {
  start = (placing_in cells).start;
  end = (placing_in cells).end;
  row = number;
  region = (placing_in cells).region;
  x = (placing_in cells).x;
  y = (placing_in cells).y;
  picture = picture;
  see_through = see_through;
}

-- the cue that a record brings: of the last picture of that name before it, or of its own text
abbrev pub cue_by : (List ℕ → Option ℕ) → ℕ → RowKind → ℕ → Row → Option Cue
cue_by named count kinds.Place number cells =
    option_map (λ place. cue_with number cells place (is_through cells)) (named (cell_at cells 7))
cue_by named count kinds.Cue number cells = Some (cue_with number cells count false)
cue_by named count _ number cells = None

-- the cues since the last epoch's record
abbrev pub cues_in : FontValue → List Record → List Cue
cues_in font earlier =
    listed_since
    (λ before row. cue_by (place_named font before) (length (heads_in font before)) row.kind row.number row.cells)
    earlier

-- the epoch of a record, with what the records since it list
abbrev pub epoch_of : FontValue → List Record → Record → Epoch
epoch_of font earlier row = record {
  start = value_at row.cells 1;
  row = row.number;
  regions = regions_in earlier;
  colours = colours_in earlier;
  cues = cues_in font earlier;
}

-- the last epoch
abbrev pub last_epoch : FontValue → List Record → Option Epoch
last_epoch font earlier = option_map (epoch_of font earlier) (find (is kinds.Epoch) earlier)

-- the epochs before the last one: each ends where the next one's record stands
abbrev pub ended_epochs : FontValue → List Record → List Epoch
ended_epochs font [] = []
ended_epochs font (row ∷ earlier) =
    if is kinds.Epoch row then with_last (ended_epochs font earlier) (last_epoch font earlier)
    else ended_epochs font earlier

-- ---- all of it

-- the record sets a colour
abbrev pub is_colour_kind : RowKind → Bool
is_colour_kind kinds.Colour = true
is_colour_kind _ = false

-- the record brings a picture with a name
abbrev pub is_picture_kind : RowKind → Bool
is_picture_kind kinds.Picture = true
is_picture_kind _ = false

-- the record brings a cue
abbrev pub is_cue_kind : RowKind → Bool
is_cue_kind kinds.Place = true
is_cue_kind kinds.Cue = true
is_cue_kind _ = false

-- what is found by looking back over records
pub record ScriptPast : Type 0 where
  pub rows : ℕ
  pub origin : ℕ
  pub width : ℕ
  pub height : ℕ
  pub seconds : ℕ
  pub ended : List Epoch
  pub epoch : Option Epoch
  pub colours : ℕ
  pub pictures : ℕ
  pub cues : ℕ
  pub heads : List PictureHead
  pub codes : ℕ
  pub is_near : ℕ → Bool
  pub named : List ℕ → Option ℕ

-- what looking back over these records finds
abbrev pub looking_back : FontValue → List Record → ScriptPast
looking_back font earlier = record {
  rows = length earlier;
  origin = number_in kinds.Origin 1 earlier;
  width = number_in kinds.Display 1 earlier;
  height = number_in kinds.Display 2 earlier;
  seconds = number_in kinds.Refresh 1 earlier;
  ended = ended_epochs font earlier;
  epoch = last_epoch font earlier;
  colours = how_many is_colour_kind earlier;
  pictures = how_many is_picture_kind earlier;
  cues = how_many is_cue_kind earlier;
  heads = heads_in font earlier;
  codes = codes_in font earlier;
  is_near = λ tick. list_any (is_close tick) (ticks_in earlier);
  named = place_named font earlier;
}
