use Rattle.std.proofs.Common.{Ok, Err, ap}
use Rattle.pixel_codes.proofs.Parts.{same_fault}
use Rattle.pixel_codes.proofs.Blocks.{walked_more, fault_at, not_both, whole_block, same_runs}
use Rattle.pixel_codes.proofs.block.check_block.Goals as goal

pub loop-place-preserved : goal.loop-place-preserved
loop-place-preserved c =
    walked_more c.args.depth c.args.bytes.now c.loop-place.place c.in-Ok.size c.loop-place-test.true
    c.loop-place.invariant c.in-Ok.ensures.part

pub returns-in-Err-clause-fault : goal.returns-in-Err-clause-fault
returns-in-Err-clause-fault c =
    fault_at c.args.depth c.args.bytes.now c.loop-place.place c.in-Err.kind c.loop-place-test.true
    c.loop-place.invariant c.in-Err.ensures.refused

pub returns-in-Err-clause-every_block : goal.returns-in-Err-clause-every_block
returns-in-Err-clause-every_block c = λ runs b.
    absurd (not_both c.args.depth c.args.bytes.now runs _ b
    (fault_at c.args.depth c.args.bytes.now c.loop-place.place c.in-Err.kind c.loop-place-test.true
    c.loop-place.invariant c.in-Err.ensures.refused))

pub returns-in-Err-clause-every_fault : goal.returns-in-Err-clause-every_fault
returns-in-Err-clause-every_fault c = λ fault f.
    ap Err (same_fault c.args.depth c.args.bytes.now _ fault
    (fault_at c.args.depth c.args.bytes.now c.loop-place.place c.in-Err.kind c.loop-place-test.true
    c.loop-place.invariant c.in-Err.ensures.refused) f)

pub returns-clause-block : goal.returns-clause-block
returns-clause-block c =
    whole_block c.args.depth c.args.bytes.now c.loop-place.place c.loop-place-test.false c.loop-place.invariant

pub returns-clause-every_block : goal.returns-clause-every_block
returns-clause-every_block c = λ runs b. ap Ok (same_runs c.args.depth c.args.bytes.now runs b)

pub returns-clause-every_fault : goal.returns-clause-every_fault
returns-clause-every_fault c = λ fault f.
    absurd (not_both c.args.depth c.args.bytes.now _ fault
    (whole_block c.args.depth c.args.bytes.now c.loop-place.place c.loop-place-test.false c.loop-place.invariant) f)
