use Rattle.std.proofs.Common.{arith}
use Rattle.stream_syntax.specs.PixelCodes.{bits_of}
use Rattle.code_strings.proofs.Bits.{length-bits_of}
use Rattle.code_strings.proofs.Shown.{within_first, within_next}
use Rattle.code_strings.proofs.walk.passed_in_word.Goals as goal

pub loop-passed-init : goal.loop-passed-init
loop-passed-init c =
    within_first c.args.depth (bits_of c.args.body.now) c.args.place c.word_at-word.result c.requires.known
    c.word_at-word.ensures

pub loop-passed-preserved : goal.loop-passed-preserved
loop-passed-preserved c =
    let steps = c.told_steps-steps in
    within_next c.args.depth c.args.body.now c.args.place c.loop-passed.passed c.loop-passed.word steps.result
    (omega (arith, c.requires.inside, length-bits_of c.args.body.now)) (omega (arith, c.loop-passed-test.true))
    (omega arith) steps.ensures.told steps.ensures.few c.loop-passed.invariant
