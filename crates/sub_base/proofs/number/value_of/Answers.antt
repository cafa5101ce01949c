use Rattle.std.proofs.Common.{arith, sym, ◌∙◌, refl, get_or, ◌-◌}
use Rattle.sub_base.proofs.NumberLaws.{next_digit}
use Rattle.sub_base.proofs.number.value_of.Goals as goal

pub overflow_mul-value : goal.overflow_mul-value
overflow_mul-value c =
    let next =
    next_digit c.args.digits.now c.loop-digit.digit-index c.loop-digit.value
    (get_or c.args.digits.now c.loop-digit.digit-index 0 - 48) c.requires.digits c.requires.short
    c.loop-digit-test.true c.loop-digit.invariant.small refl in
    omega (arith, next.fits)

pub overflow_add-value : goal.overflow_add-value
overflow_add-value c =
    let next =
    next_digit c.args.digits.now c.loop-digit.digit-index c.loop-digit.value c.from.result c.requires.digits
    c.requires.short c.loop-digit-test.true c.loop-digit.invariant.small c.from.ensures in
    omega (arith, next.fits)

pub loop-digit-preserved : goal.loop-digit-preserved
loop-digit-preserved c =
    let next =
    next_digit c.args.digits.now c.loop-digit.digit-index c.loop-digit.value c.from.result c.requires.digits
    c.requires.short c.loop-digit-test.true c.loop-digit.invariant.small c.from.ensures in
    record { small = next.small; told = sym next.told ∙ c.loop-digit.invariant.told }
