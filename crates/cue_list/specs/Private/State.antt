-- What the reader keeps of the records before a record, and what it keeps with one more: that this is what looking back
-- over them gives is said in `proofs/`.
use Rattle.std.specs.Prelude.{◌≡◌, ℕ, ◌+◌, ◌≤◌, [], ◌∷◌, ◌++◌, length, map, Option, Some, None, option_map}
use Rattle.bitmap_font.specs.Font.{FontValue}
use Rattle.sub_base.specs.Picture.{Picture}
use Rattle.cue_records.specs.declared.limits.TheConstants.{LATEST_ORIGIN, MOST_CODES, MOST_COLOURS, MOST_CUES, MOST_PICTURES}
use Rattle.cue_records.specs.declared.row_values.ColourRow.{ColourRow}
use Rattle.cue_list.specs.declared.epoch.Cue.{Cue}
use Rattle.cue_list.specs.declared.epoch.Epoch.{Epoch}
use Rattle.cue_records.specs.declared.region.Region.{Region}
use Rattle.cue_records.specs.declared.fault.ScriptKind.{ScriptKind}
use Rattle.cue_records.specs.declared.row_values.PictureHead.{PictureHead}
use Rattle.cue_list.specs.declared.reader.Reader.{Reader}
use Rattle.cue_records.specs.declared.row_kind.RowKind.{RowKind}
use Rattle.cue_records.specs.declared.row_kind.RowKind.TheVariants as kinds
use Rattle.cue_records.specs.CellFaults.{first_of, value_at, cells_fault}
use Rattle.cue_records.specs.Cells.{cell_at}
use Rattle.cue_list.specs.Private.Names.{place_by, named_with}
use Rattle.cue_list.specs.Past.{ScriptPast, with_last, head_by, cue_by}
use Rattle.cue_records.specs.RowValues.{area, region_in, colour_in, head_in}
use Rattle.cue_records.specs.Records.{Record}
use Rattle.cue_list.specs.RowFaults.{regions_of, kind_fault}
use Rattle.cue_records.specs.Rows.{Row}
use Rattle.cue_list.specs.Private.Ticks.{IsTicks, near_by, near_with}

-- the depth and the sides of a picture
abbrev pub head_of : Picture → PictureHead
head_of picture = record { depth = picture.depth; width = picture.width; height = picture.height }

-- what a reader keeps
abbrev pub past_of : Reader → ScriptPast
past_of reader = record {
  rows = reader.rows;
  origin = reader.origin;
  width = reader.width;
  height = reader.height;
  seconds = reader.seconds;
  ended = reader.ended.items;
  epoch = reader.epoch;
  colours = reader.colours;
  pictures = reader.named;
  cues = reader.cues;
  heads = map head_of reader.pictures.items;
  codes = reader.codes;
  is_near = near_by reader.ticks;
  named = place_by reader.names;
}

-- what is true of each reader
pub record IsReader (reader : Reader) : Type 0 where
  pub ticks : IsTicks reader.ticks
  pub origin : reader.origin ≤ LATEST_ORIGIN
  pub few_colours : reader.colours ≤ MOST_COLOURS
  pub few_named : reader.named ≤ MOST_PICTURES
  pub few_cues : reader.cues ≤ MOST_CUES
  pub few_pictures : length reader.pictures.items ≤ reader.named + reader.cues
  pub few_codes : reader.codes ≤ MOST_CODES

-- ---- one more record

-- an epoch with one more region, behind its others
abbrev pub with_region : Region → Epoch → Epoch
with_region region epoch = record epoch { regions = epoch.regions ++ region ∷ [] }

-- an epoch with one more colour of a CLUT entry, behind its others
abbrev pub with_colour : ColourRow → Epoch → Epoch
with_colour row epoch = record epoch { colours = epoch.colours ++ row ∷ [] }

-- an epoch with one more cue behind its others, where there is one
abbrev pub with_cue : Option Cue → Epoch → Epoch
with_cue cue epoch = record epoch { cues = with_last epoch.cues cue }

-- the epoch that the `epoch` record of that number starts, with nothing listed yet
abbrev pub new_epoch : ℕ → Row → Epoch
new_epoch number cells = record { start = value_at cells 1; row = number; regions = []; colours = []; cues = [] }

-- how many codes a picture has, where there is one
abbrev pub area_of : Option PictureHead → ℕ
area_of None = 0
area_of (Some head) = area head

-- what is found with one more `origin` record: its tick is the origin
abbrev pub origin_next : ScriptPast → Row → ScriptPast
origin_next past cells = record past { origin = value_at cells 1 }

-- what is found with one more `display` record: its width and height in pixels
abbrev pub display_next : ScriptPast → Row → ScriptPast
display_next past cells = record past { width = value_at cells 1; height = value_at cells 2 }

-- what is found with one more `refresh` record: its seconds
abbrev pub refresh_next : ScriptPast → Row → ScriptPast
refresh_next past cells = record past { seconds = value_at cells 1 }

-- what is found with one more `epoch` record of that number: the epoch before has ended, a new one begins, and its tick
-- is named
abbrev pub epoch_next : ScriptPast → ℕ → Row → ScriptPast
epoch_next past number cells = record past {
  ended = with_last past.ended past.epoch;
  epoch = Some (new_epoch number cells);
  is_near = near_with (value_at cells 1) past.is_near;
}

-- what is found with one more `region` record: the last epoch has its region
abbrev pub region_next : ScriptPast → Row → ScriptPast
region_next past cells = record past { epoch = option_map (with_region (region_in cells)) past.epoch }

-- what is found with one more `colour` record of that number: the last epoch has its colour, and its tick is named
abbrev pub colour_next : ScriptPast → ℕ → Row → ScriptPast
colour_next past number cells = record past {
  epoch = option_map (with_colour (colour_in number cells)) past.epoch;
  colours = past.colours + 1;
  is_near = near_with (value_at cells 1) past.is_near;
}

-- what is found with one more `picture` record: one more picture, which is from now on the one of its name
abbrev pub picture_next : ScriptPast → Row → ScriptPast
picture_next past cells = record past {
  pictures = past.pictures + 1;
  heads = past.heads ++ head_in cells ∷ [];
  codes = past.codes + area (head_in cells);
  named = named_with (cell_at cells 1) (length past.heads) past.named;
}

-- what is found with one more `place` record of that number: the last epoch has a cue of the picture that it names,
-- and its two ticks are named
abbrev pub place_next : ScriptPast → ℕ → Row → ScriptPast
place_next past number cells = record past {
  epoch = option_map (with_cue (cue_by past.named (length past.heads) kinds.Place number cells)) past.epoch;
  cues = past.cues + 1;
  is_near = near_with (value_at cells 1) (near_with (value_at cells 2) past.is_near);
}

-- what is found with one more `cue` record of that number: one more picture, of its text in the font; the last epoch
-- has a cue of it, and its two ticks are named
abbrev pub cue_next : FontValue → ScriptPast → ℕ → Row → ScriptPast
cue_next font past number cells = record past {
  epoch = option_map (with_cue (cue_by past.named (length past.heads) kinds.Cue number cells)) past.epoch;
  cues = past.cues + 1;
  heads = with_last past.heads (head_by font (regions_of past.epoch) kinds.Cue cells);
  codes = past.codes + area_of (head_by font (regions_of past.epoch) kinds.Cue cells);
  is_near = near_with (value_at cells 1) (near_with (value_at cells 2) past.is_near);
}

-- what is found with one more valid record of that kind and number, but for the count of records
abbrev pub next_by : FontValue → ScriptPast → RowKind → ℕ → Row → ScriptPast
next_by font past kinds.Origin number cells = origin_next past cells
next_by font past kinds.Display number cells = display_next past cells
next_by font past kinds.Refresh number cells = refresh_next past cells
next_by font past kinds.Epoch number cells = epoch_next past number cells
next_by font past kinds.Region number cells = region_next past cells
next_by font past kinds.Colour number cells = colour_next past number cells
next_by font past kinds.Picture number cells = picture_next past cells
next_by font past kinds.Place number cells = place_next past number cells
next_by font past kinds.Cue number cells = cue_next font past number cells
next_by font past kinds.Other number cells = past

-- a record was taken
pub record IsTaken (fault : Option ScriptKind) (kept : ScriptPast) (new : Reader) : Type 0 where
  pub reader : IsReader new
  pub valid : fault ≡ None
  pub next : past_of new ≡ kept

-- what is found by looking back, with one more record
abbrev pub next_with : FontValue → ScriptPast → Record → ScriptPast
next_with font past row = record (next_by font past row.kind row.number row.cells) { rows = past.rows + 1 }

-- the tests of a record after those of its shape and place
abbrev pub content_fault : FontValue → ScriptPast → RowKind → ℕ → Row → Option ScriptKind
content_fault font past kind number cells =
    first_of (cells_fault past.origin kind cells ∷ kind_fault font past kind number cells ∷ [])
