-- What painting of a pixel code string into a packed row of a region means.
use Rattle.std.specs.Prelude.{◌≡◌, ℕ, ◌+◌, ◌-◌, ◌<◌, ◌≤◌, ◌==◌, ◌&&◌, nat_lt, if◌then◌else◌, List, length, slice_index, flat_map}
use Rattle.sub_base.specs.declared.depth.Depth.{Depth}
use Rattle.sub_base.specs.declared.depth.Depth.TheVariants.{Two, Four, Eight}
use Rattle.stream_syntax.specs.PixelCodes.{Code, pixels_of}
use Rattle.stream_syntax.specs.PixelBlocks.{Part, IsNoDeeper, entries_of, mapped, table_size}
use Rattle.stream_syntax.specs.declared.map_table.MapTable.TheVariants.{TwoToFour, TwoToEight, FourToEight}
use Rattle.string_painting.specs.Codes.{packed_code}
use Rattle.string_painting.specs.declared.drawing.Brush.{Brush}

-- the region's code for a code of a string: where the string has fewer bits a code, the entry in the bytes of the map
-- table that lies between the two depths
abbrev pub code_mapped : Depth → Depth → List ℕ → ℕ → ℕ
code_mapped Two Four table code = slice_index (entries_of TwoToFour table) code
code_mapped Two Eight table code = slice_index (entries_of TwoToEight table) code
code_mapped Four Eight table code = slice_index (entries_of FourToEight table) code
code_mapped depth region table code = code

-- these are the bytes of the map table between the two depths; where none lies between them, a string of this depth may
-- stand in such a region
abbrev pub IsMapTableBetween : Depth → Depth → List ℕ → Type 0
IsMapTableBetween Two Four table = length table ≡ table_size TwoToFour
IsMapTableBetween Two Eight table = length table ≡ table_size TwoToEight
IsMapTableBetween Four Eight table = length table ≡ table_size FourToEight
IsMapTableBetween depth region table = IsNoDeeper depth region

-- the region's code for a code of a string, by the depths of a brush
abbrev pub region_code : Brush → List ℕ → ℕ → ℕ
region_code brush table code = code_mapped brush.string brush.region table code

-- these are the bytes of the map table between the depths of a brush; where none lies between them, a string of the one
-- may stand in a region of the other
abbrev pub IsMapTable : Brush → List ℕ → Type 0
IsMapTable brush table = IsMapTableBetween brush.string brush.region table

-- the table is the one that is in force behind some sub-blocks, the nearest of them first
abbrev pub IsInForce : Brush → List ℕ → List Part → Type 0
IsInForce brush table before =
    (code : ℕ) → region_code brush table code ≡ mapped brush.string brush.region before code

-- what a pixel of the region becomes under a pixel of the string: it stays where an object is seen through and the
-- string's code, as it is read, is 1; else it gets the code that the map table gives
abbrev pub laid_over : Brush → List ℕ → ℕ → ℕ → ℕ
laid_over brush table old read =
    if brush.see_through && (read == 1) then old else region_code brush table read

-- the code in column x, which was `old`, once pixels are laid from column `start` on
abbrev pub code_after : (ℕ → ℕ → ℕ) → ℕ → List ℕ → ℕ → ℕ → ℕ
code_after over start pixels x old =
    if nat_lt x start then old
    else (if nat_lt x (start + length pixels) then over old (slice_index pixels (x - start)) else old)

-- the pixels are laid over the row from column `start` on, as far as it has columns, of which the first `width` are the
-- region's; what is behind these stays
pub record LaysPixels (region : Depth) (over : ℕ → ℕ → ℕ) (width start : ℕ) (pixels old new : List ℕ) : Type 0 where
  pub within : (x : ℕ) → x < width
      → packed_code region new x ≡ code_after over start pixels x (packed_code region old x)
  pub beside : (x : ℕ) → width ≤ x → packed_code region new x ≡ packed_code region old x

-- the pixels of a string's codes
abbrev pub pixels_of_codes : Depth → List Code → List ℕ
pixels_of_codes depth codes = flat_map (pixels_of depth) codes
