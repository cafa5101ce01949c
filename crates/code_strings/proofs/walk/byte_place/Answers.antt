use Rattle.std.proofs.Common.{arith}
use Rattle.code_strings.proofs.Bits.{length-bits_of}
use Rattle.code_strings.proofs.walk.byte_place.Goals as goal

pub overflow_add-place : goal.overflow_add-place
overflow_add-place c = omega (arith, c.loop-place.invariant.within, length-bits_of c.args.body.now, c.requires.short)

pub loop-place-preserved : goal.loop-place-preserved
loop-place-preserved c =
    let steps = c.told_steps-steps in
    steps.ensures.told c.args.body.now c.loop-place.place c.byte_at.ensures
    (omega (arith, steps.ensures.few, c.loop-place-test.true, length-bits_of c.args.body.now)) c.loop-place.invariant
