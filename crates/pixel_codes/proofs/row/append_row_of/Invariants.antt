use Rattle.std.proofs.Common.{◌≡◌, ◌-◌, ◌++◌, length}
use Rattle.stream_syntax.specs.PixelCodes.{bits_of}
use Rattle.pixel_codes.specs.Lists.{Extends}
use Rattle.pixel_codes.specs.Private.Maximal.{GoesOn}
use Rattle.pixel_codes.specs.Private.Rows.{text_from}
use Rattle.pixel_codes.specs.Private.Stream.{stream}
use Rattle.pixel_codes.proofs.row.append_row_of.Given as goal

abbrev pub invariant-loop-depth : goal.invariant-loop-depth
invariant-loop-depth l = record {
  run : GoesOn l.codes l.from l.at;
  text : stream l.out.items l.pending ++ text_from l.depth l.codes l.from
      ≡ bits_of l.fn.out.items ++ text_from l.depth l.codes 0;
  extends : Extends l.fn.out.items l.out.items;
}

abbrev pub decreases-loop-depth : goal.decreases-loop-depth
decreases-loop-depth l = length l.codes - l.at
