use Rattle.std.proofs.Common.{arith}
use Rattle.page_pair.proofs.TimingLaws.{even_more, uneven_end}
use Rattle.page_pair.proofs.timing.first_uneven.Goals as goal

pub loop-place-preserved : goal.loop-place-preserved
loop-place-preserved c =
    even_more c.args.one.now c.args.two.now c.loop-place.place c.index-one-place.result c.index-two-place.result
    (omega (arith, c.min-both.ensures, c.loop-place-test.true))
    (omega (arith, c.min-both.ensures, c.loop-place-test.true))
    c.index-one-place.is c.index-two-place.is (c.is_even.ensures.0 c.if-not-is_even.false) c.loop-place.invariant

pub returns-else-one-two : goal.returns-else-one-two
returns-else-one-two c =
    uneven_end c.args.one.now c.args.two.now c.min-both.result c.min-both.ensures
    c.if-one-two.false
    (λ n inside. c.loop-place.invariant n (omega (arith, c.loop-place-test.false, inside)))
