use Rattle.std.proofs.Common.{arith}
use Rattle.pixel_codes.proofs.RowSizes.{row_more, row_all}
use Rattle.pixel_codes.proofs.size.row_bits_of.Goals as goal

pub overflow_add-bits : goal.overflow_add-bits
overflow_add-bits c =
    let l = c.loop-place in
    let m =
    row_more c.args.depth c.args.codes.now l.place c.run_length-count.result l.bits c.run_bits-bits.result
    c.requires.each c.loop-place-test.true c.run_length-count.ensures.count c.run_bits-bits.ensures
    l.invariant.short l.invariant.sum in
    omega (arith, m.0, m.1, c.requires.short)

pub loop-place-preserved : goal.loop-place-preserved
loop-place-preserved c =
    let l = c.loop-place in
    let m =
    row_more c.args.depth c.args.codes.now l.place c.run_length-count.result l.bits c.run_bits-bits.result
    c.requires.each c.loop-place-test.true c.run_length-count.ensures.count c.run_bits-bits.ensures
    l.invariant.short l.invariant.sum in
    record { within = m.0; short = m.1; sum = m.2 }

pub returns-clause-least : goal.returns-clause-least
returns-clause-least c =
    row_all c.args.depth c.args.codes.now c.loop-place.place c.loop-place.bits c.loop-place-test.false
    c.loop-place.invariant.sum
