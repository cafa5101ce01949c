-- What the cells of valid records say.
use Rattle.std.specs.Prelude.{ℕ, ◌*◌, ◌==◌, Bool, if◌then◌else◌, codes}
use Rattle.std.specs.Str.{bytes_eq}
use Rattle.sub_base.specs.Colour.{shown_of}
use Rattle.sub_base.specs.declared.depth.Depth.{Depth}
use Rattle.sub_base.specs.declared.depth.Depth.TheVariants.{Two, Four, Eight}
use Rattle.cue_records.specs.declared.row_values.ColourRow.{ColourRow}
use Rattle.cue_records.specs.declared.region.Region.{Region}
use Rattle.cue_records.specs.declared.row_values.PictureHead.{PictureHead}
use Rattle.cue_records.specs.declared.row_values.PlaceRow.{PlaceRow}
use Rattle.cue_records.specs.CellFaults.{value_at}
use Rattle.cue_records.specs.Cells.{cell_at}
use Rattle.cue_records.specs.Rows.{Row}

-- the depth of that many bits
abbrev pub depth_with : ℕ → Depth
depth_with bits = if bits == 2 then Two else if bits == 4 then Four else Eight

-- `region`, ID, X, Y, W, H, DEPTH, CLUT
unfoldable pub region_in : Row → Region
region_in row = record {
  id = value_at row 1;
  x = value_at row 2;
  y = value_at row 3;
  width = value_at row 4;
  height = value_at row 5;
  depth = depth_with (value_at row 6);
  clut = value_at row 7;
}

-- `colour`, TICK, CLUT, DEPTH, ENTRY, Y, CR, CB, T: the colour as it is shown
unfoldable pub colour_in : ℕ → Row → ColourRow
colour_in number row = record {
  tick = value_at row 1;
  row = number;
  clut = value_at row 2;
  depth = depth_with (value_at row 3);
  entry = value_at row 4;
  colour = shown_of (record { y = value_at row 5; cr = value_at row 6; cb = value_at row 7; t = value_at row 8 });
}

-- `picture`, NAME, DEPTH, W, H, CODES: the depth and the sides
unfoldable pub head_in : Row → PictureHead
head_in row = record { depth = depth_with (value_at row 2); width = value_at row 3; height = value_at row 4 }

-- how many codes a picture has
abbrev pub area : PictureHead → ℕ
area head = head.width * head.height

-- `place` or `cue`: START, END, REGION, X, Y
unfoldable pub placing_in : Row → PlaceRow
placing_in row =
    record {
      start = value_at row 1;
      end = value_at row 2;
      region = value_at row 3;
      x = value_at row 4;
      y = value_at row 5;
    }

-- the mode of a `place`
abbrev pub is_through : Row → Bool
is_through row = bytes_eq (cell_at row 6) (codes "through")
