use Rattle.std.proofs.Common.{◌≡◌, ◌++◌}
use Rattle.std.specs.Prelude.{flat_map}
use Rattle.stream_syntax.specs.PixelCodes.{spelled}
use Rattle.pixel_codes.specs.Private.Least.{chosen}
use Rattle.pixel_codes.specs.Lists.{Extends}
use Rattle.pixel_codes.specs.Private.Stream.{stream}
use Rattle.pixel_codes.proofs.row.append_codes.Given as goal

abbrev pub invariant-loop-left : goal.invariant-loop-left
invariant-loop-left l = record {
  text : stream l.out.items l.pending
      ++ flat_map (spelled l.depth) (chosen l.depth l.code l.left) ≡ stream l.fn.out.items l.fn.pending
      ++ flat_map (spelled l.depth) (chosen l.depth l.code l.count);
  extends : Extends l.fn.out.items l.out.items;
}

abbrev pub decreases-loop-left : goal.decreases-loop-left
decreases-loop-left l = l.left
