use Rattle.std.proofs.Common.{ap, sym, Err, arith}
use Rattle.std.proofs.lemmas.Result.{err_from_is_err_and}
use Rattle.stream_syntax.specs.SegmentTests.{in_head}
use Rattle.stream_syntax.specs.declared.segment_fault.SegmentFault.{SegmentFault}
use Rattle.segments.proofs.Framing.{frame_is}
use Rattle.segments.proofs.Shapes.{AreBytes}
use Rattle.segments.proofs.Readings.{head_refused, head_fault, err_is}
use Rattle.segments.proofs.reading.read_segment.Goals as goal

pub returns-in_err-frame-clause-every_segment : goal.returns-in_err-frame-clause-every_segment
returns-in_err-frame-clause-every_segment c value size le is =
    absurd (head_refused c.args.bytes.now c.in_err-frame.field-0.0 c.in_err-frame.ensures.fault value size le is)

pub returns-in_err-frame-clause-fault : goal.returns-in_err-frame-clause-fault
returns-in_err-frame-clause-fault c =
    let p = err_from_is_err_and c.from_residual.result c.from_residual.ensures.1 in
    rw (p.1, p.2) (in_head (sym c.in_err-frame.ensures.fault))

pub returns-in_err-frame-clause-every_fault : goal.returns-in_err-frame-clause-every_fault
returns-in_err-frame-clause-every_fault c fault is =
    let p = err_from_is_err_and c.from_residual.result c.from_residual.ensures.1 in
    rw (p.1, p.2)
    (ap (λ (f : SegmentFault). Err f)
    (head_fault c.args.bytes.now c.in_err-frame.field-0.0 fault c.in_err-frame.ensures.fault is))

pub returns-in_err-segment-clause-every_segment : goal.returns-in_err-segment-clause-every_segment
returns-in_err-segment-clause-every_segment c value size le is =
    let fits : AreBytes c.args.bytes.now = λ i. omega (arith, c.type_inv.bytes i) in
    let found = c.in_ok-frame.ensures in
    let framed =
    frame_is c.args.bytes.now c.in_ok-frame.frame fits found.fault found.kind found.page found.whole found.body in
    absurd (c.in_err-segment.ensures.every_segment c.args.bytes.now framed value size le is)

pub returns-in_err-segment-clause-fault : goal.returns-in_err-segment-clause-fault
returns-in_err-segment-clause-fault c =
    let fits : AreBytes c.args.bytes.now = λ i. omega (arith, c.type_inv.bytes i) in
    let found = c.in_ok-frame.ensures in
    let framed =
    frame_is c.args.bytes.now c.in_ok-frame.frame fits found.fault found.kind found.page found.whole found.body in
    let p = err_from_is_err_and c.from_residual-in_err-segment.result c.from_residual-in_err-segment.ensures.1 in
    rw (p.1, p.2) (c.in_err-segment.ensures.fault c.args.bytes.now framed)

pub returns-in_err-segment-clause-every_fault : goal.returns-in_err-segment-clause-every_fault
returns-in_err-segment-clause-every_fault c fault is =
    let fits : AreBytes c.args.bytes.now = λ i. omega (arith, c.type_inv.bytes i) in
    let found = c.in_ok-frame.ensures in
    let framed =
    frame_is c.args.bytes.now c.in_ok-frame.frame fits found.fault found.kind found.page found.whole found.body in
    let p = err_from_is_err_and c.from_residual-in_err-segment.result c.from_residual-in_err-segment.ensures.1 in
    rw (p.1, p.2)
    (ap (λ (f : SegmentFault). Err f)
    (err_is _ fault (c.in_err-segment.ensures.every_fault c.args.bytes.now framed fault is)))

pub returns-clause-segment : goal.returns-clause-segment
returns-clause-segment c =
    let fits : AreBytes c.args.bytes.now = λ i. omega (arith, c.type_inv.bytes i) in
    let found = c.in_ok-frame.ensures in
    let framed =
    frame_is c.args.bytes.now c.in_ok-frame.frame fits found.fault found.kind found.page found.whole found.body in
    c.in_ok-segment.ensures.segment c.args.bytes.now framed

pub returns-clause-every_segment : goal.returns-clause-every_segment
returns-clause-every_segment c value size le is =
    let fits : AreBytes c.args.bytes.now = λ i. omega (arith, c.type_inv.bytes i) in
    let found = c.in_ok-frame.ensures in
    let framed =
    frame_is c.args.bytes.now c.in_ok-frame.frame fits found.fault found.kind found.page found.whole found.body in
    c.in_ok-segment.ensures.every_segment c.args.bytes.now framed value size le is
