use Rattle.std.proofs.Common.{◌-◌}
use Rattle.stream_syntax.specs.PixelCodes.{bits_of}
use Rattle.code_strings.proofs.Shown.{IsWithin}
use Rattle.code_strings.proofs.walk.passed_in_word.Given as goal

abbrev pub invariant-loop-passed : goal.invariant-loop-passed
invariant-loop-passed l = IsWithin l.depth (bits_of l.body) l.place l.passed l.word

abbrev pub decreases-loop-passed : goal.decreases-loop-passed
decreases-loop-passed l = 73 - l.passed
