-- Where the pen stands in a block, and the map tables there.
use Rattle.std.specs.Prelude.{◌≡◌, ℕ, ◌+◌, ◌*◌, List}
use Rattle.stream_syntax.specs.PixelBlocks.{Part, entries_of, entries_in, line_after, column_after}
use Rattle.stream_syntax.specs.declared.map_table.MapTable.TheVariants.{TwoToFour, TwoToEight, FourToEight}
use Rattle.pixel_codes.specs.Maps.{Maps}
use Rattle.block_painting.specs.declared.place.FieldPlace.{FieldPlace}
use Rattle.block_painting.specs.declared.pen.Pen.{Pen}

-- the column and the row of the region, the bytes of the block that are left, and the bytes of the map tables
pub record Stand : Type 0 where
  pub x : ℕ
  pub row : ℕ
  pub rest : List ℕ
  pub maps : Maps

-- where a pen stands, what it has left of the block, and its map tables
abbrev pub stand_of : Pen → Stand
stand_of pen = record { x = pen.x; row = pen.row; rest = pen.rest.now; maps = pen.tables }

-- the map tables are those in force behind some sub-blocks, the nearest of them first
pub record AreInForce (maps : Maps) (before : List Part) : Type 0 where
  pub two_to_four : entries_of TwoToFour maps.two_to_four ≡ entries_in TwoToFour before
  pub two_to_eight : entries_of TwoToEight maps.two_to_eight ≡ entries_in TwoToEight before
  pub four_to_eight : entries_of FourToEight maps.four_to_eight ≡ entries_in FourToEight before

-- the pen stands in the region, of a field's place, behind some sub-blocks, the nearest of them first
pub record IsBehind (place : FieldPlace) (before : List Part) (stand : Stand) : Type 0 where
  pub column : stand.x ≡ place.listing.x + column_after before
  pub line : stand.row ≡ place.listing.y + 2 * line_after before + place.first_row
  pub tables : AreInForce stand.maps before
