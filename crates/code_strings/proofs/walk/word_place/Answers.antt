use Rattle.std.proofs.Common.{arith}
use Rattle.code_strings.proofs.Bits.{length-bits_of}
use Rattle.code_strings.proofs.walk.word_place.Goals as goal

pub overflow_add-place : goal.overflow_add-place
overflow_add-place c = omega (arith, c.loop-place.invariant.within, length-bits_of c.args.body.now, c.requires)

pub loop-place-preserved : goal.loop-place-preserved
loop-place-preserved c = c.passed_in_word-passed.ensures

pub overflow_add-place-in-loop-place : goal.overflow_add-place-in-loop-place
overflow_add-place-in-loop-place c =
    omega (arith, c.passed_in_word-passed.ensures.within, length-bits_of c.args.body.now, c.requires)
