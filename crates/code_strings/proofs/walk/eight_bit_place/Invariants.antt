use Rattle.std.proofs.Common.{◌*◌, ◌-◌, length}
use Rattle.sub_base.specs.declared.depth.Depth.TheVariants.{Eight}
use Rattle.stream_syntax.specs.PixelCodes.{bits_of}
use Rattle.code_strings.specs.Reached.{Reached}
use Rattle.code_strings.proofs.walk.eight_bit_place.Given as goal

abbrev pub invariant-loop-at : goal.invariant-loop-at
invariant-loop-at l = Reached Eight (bits_of l.body) (8 * l.at)

abbrev pub decreases-loop-at : goal.decreases-loop-at
decreases-loop-at l = length l.body - l.at
