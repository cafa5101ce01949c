use Rattle.std.proofs.Common.{◌≡◌, ◌-◌, ◌++◌, length}
use Rattle.pixel_codes.specs.Lists.{Extends}
use Rattle.pixel_codes.specs.Private.Maximal.{GoesOn}
use Rattle.pixel_codes.specs.Private.Rows.{text_from}
use Rattle.pixel_codes.specs.Private.Stream.{stream}
use Rattle.pixel_codes.proofs.row.append_rest.Given as goal

abbrev pub invariant-loop-at : goal.invariant-loop-at
invariant-loop-at l = record {
  run : GoesOn l.codes l.from l.at;
  text : stream l.out.items l.pending ++ text_from l.depth l.codes l.from
      ≡ stream l.fn.out.items l.fn.pending ++ text_from l.depth l.codes l.begin;
  extends : Extends l.fn.out.items l.out.items;
}

abbrev pub decreases-loop-at : goal.decreases-loop-at
decreases-loop-at l = length l.codes - l.at
