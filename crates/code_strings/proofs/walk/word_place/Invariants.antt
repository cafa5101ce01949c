use Rattle.std.proofs.Common.{◌*◌, ◌-◌, length}
use Rattle.stream_syntax.specs.PixelCodes.{bits_of}
use Rattle.code_strings.specs.Reached.{Reached}
use Rattle.code_strings.proofs.walk.word_place.Given as goal

abbrev pub invariant-loop-place : goal.invariant-loop-place
invariant-loop-place l = Reached l.depth (bits_of l.body) l.place

abbrev pub decreases-loop-place : goal.decreases-loop-place
decreases-loop-place l = 8 * length l.body - l.place
