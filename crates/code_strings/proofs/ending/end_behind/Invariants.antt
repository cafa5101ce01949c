use Rattle.std.proofs.Common.{◌*◌, ◌-◌, length}
use Rattle.stream_syntax.specs.PixelCodes.{bits_of}
use Rattle.code_strings.specs.Reached.{Reached}
use Rattle.code_strings.proofs.ending.end_behind.Given as goal

abbrev pub invariant-loop-token : goal.invariant-loop-token
invariant-loop-token l = Reached l.depth (bits_of l.body) l.place

abbrev pub decreases-loop-token : goal.decreases-loop-token
decreases-loop-token l = 8 * length l.body - l.place
