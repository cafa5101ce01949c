use Rattle.std.proofs.Common.{◌≡◌, ◌<◌, ◌^◌, ◌++◌}
use Rattle.stream_syntax.specs.PixelCodes.{bits, bits_of}
use Rattle.pixel_codes.specs.Lists.{Extends}
use Rattle.pixel_codes.specs.Private.Stream.{stream}
use Rattle.pixel_codes.proofs.pending.Pending.finish.Given as goal

abbrev pub invariant-loop-count : goal.invariant-loop-count
invariant-loop-count l = record {
  few : l.count < 32;
  fits : l.value < 2 ^ l.count;
  text : bits_of l.out.items ++ bits l.count l.value ≡ stream l.fn.out.items l.fn.self;
  extends : Extends l.fn.out.items l.out.items;
}

abbrev pub decreases-loop-count : goal.decreases-loop-count
decreases-loop-count l = l.count
