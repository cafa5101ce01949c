use Rattle.std.proofs.Common.{◌+◌, arith}
use Rattle.code_strings.proofs.Bits.{length-bits_of}
use Rattle.code_strings.proofs.Bytewise.{past_pixel, past_run}
use Rattle.code_strings.proofs.walk.eight_bit_place.Goals as goal

pub overflow_sub-body : goal.overflow_sub-body
overflow_sub-body c = omega (arith, c.loop-at.invariant.within, length-bits_of c.args.body.now)

pub loop-at-preserved-then-body-at-ne0 : goal.loop-at-preserved-then-body-at-ne0
loop-at-preserved-then-body-at-ne0 c =
    past_pixel c.args.body.now c.loop-at.at (omega (arith, c.loop-at-test.true)) (omega (arith, c.if-body-at-ne0.true))
    (omega (arith, c.type_inv.body c.loop-at.at)) c.loop-at.invariant

pub loop-at-preserved : goal.loop-at-preserved
loop-at-preserved c =
    rw c.from.ensures (past_run c.args.body.now c.loop-at.at (omega (arith, c.loop-at-test.true))
    (omega (arith, c.if-body-at-ne0.false)) (omega (arith, c.if-body-at-ne0-2.true))
    (omega (arith, c.type_inv.body (c.loop-at.at + 1))) c.loop-at.invariant)

pub overflow_mul-result-2 : goal.overflow_mul-result-2
overflow_mul-result-2 c =
    omega (arith, c.loop-at.invariant.within, length-bits_of c.args.body.now, c.requires)
