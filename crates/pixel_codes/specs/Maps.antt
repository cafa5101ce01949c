-- The map tables that hold at a place of a pixel data block (EN 300 743, map table data), as the bytes that are sent.
use Rattle.std.specs.Prelude.{ℕ, List, [], ◌∷◌, take, Option, Some, None}
use Rattle.sub_base.specs.declared.depth.Depth.{Depth}
use Rattle.sub_base.specs.declared.depth.Depth.TheVariants.{Two, Four, Eight}
use Rattle.stream_syntax.specs.declared.map_table.MapTable.{MapTable}
use Rattle.stream_syntax.specs.declared.map_table.MapTable.TheVariants.{TwoToFour, TwoToEight, FourToEight}

-- the bytes of the map tables that hold
pub record Maps : Type 0 where
  pub two_to_four : List ℕ
  pub two_to_eight : List ℕ
  pub four_to_eight : List ℕ

-- the map tables that hold before any is sent
abbrev pub default_maps : Maps
default_maps = record {
  two_to_four = 0x07 ∷ 0x8F ∷ [];
  two_to_eight = 0x00 ∷ 0x77 ∷ 0x88 ∷ 0xFF ∷ [];
  four_to_eight =
      0x00 ∷ 0x11 ∷ 0x22 ∷ 0x33 ∷ 0x44 ∷ 0x55 ∷ 0x66 ∷ 0x77 ∷ 0x88 ∷ 0x99 ∷ 0xAA ∷ 0xBB
      ∷ 0xCC ∷ 0xDD ∷ 0xEE ∷ 0xFF
      ∷ [];
}

-- the tables with a new one, whose bytes stand first in some
abbrev pub with_table : MapTable → List ℕ → Maps → Maps
with_table TwoToFour body maps =
    record { two_to_four = take 2 body; two_to_eight = maps.two_to_eight; four_to_eight = maps.four_to_eight }
with_table TwoToEight body maps =
    record { two_to_four = maps.two_to_four; two_to_eight = take 4 body; four_to_eight = maps.four_to_eight }
with_table FourToEight body maps =
    record { two_to_four = maps.two_to_four; two_to_eight = maps.two_to_eight; four_to_eight = take 16 body }

-- the kind of table that maps codes of a string of one depth to those of a region of another; none where the depths are
-- the same, or the string is deeper
abbrev pub kind_between : Depth → Depth → Option MapTable
kind_between Two Four = Some TwoToFour
kind_between Two Eight = Some TwoToEight
kind_between Four Eight = Some FourToEight
kind_between depth region = None

-- the bytes of the table between two depths; none where no table lies between them
abbrev pub table_between : Depth → Depth → Maps → List ℕ
table_between Two Four maps = maps.two_to_four
table_between Two Eight maps = maps.two_to_eight
table_between Four Eight maps = maps.four_to_eight
table_between depth region maps = []
