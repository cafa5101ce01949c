-- What a type byte says.
use Rattle.std.specs.Prelude.{ℕ, ◌==◌, if◌then◌else◌, Option, Some, None}
use Rattle.sub_base.specs.declared.depth.Depth.TheVariants.{Two, Four, Eight}
use Rattle.stream_syntax.specs.declared.map_table.MapTable.TheVariants.{TwoToFour, TwoToEight, FourToEight}
use Rattle.stream_syntax.specs.declared.wire.TheConstants.{EIGHT_BIT_STRING, END_OF_LINE, FOUR_BIT_STRING, FOUR_TO_EIGHT_TABLE, TWO_BIT_STRING, TWO_TO_EIGHT_TABLE, TWO_TO_FOUR_TABLE}
use Rattle.pixel_codes.specs.declared.part.Head.{Head}
use Rattle.pixel_codes.specs.declared.part.Head.TheVariants.{PixelString, Table, LineEnd}

-- the sub-block that a type byte begins
abbrev pub head_of : ℕ → Option Head
head_of first =
    if first == TWO_BIT_STRING then Some (PixelString Two)
    else (if first == FOUR_BIT_STRING then Some (PixelString Four)
    else (if first == EIGHT_BIT_STRING then Some (PixelString Eight) else
    (if first == TWO_TO_FOUR_TABLE then Some (Table TwoToFour)
    else (if first == TWO_TO_EIGHT_TABLE then Some (Table TwoToEight)
    else (if first == FOUR_TO_EIGHT_TABLE then Some (Table FourToEight) else
    (if first == END_OF_LINE then Some LineEnd else None))))))
