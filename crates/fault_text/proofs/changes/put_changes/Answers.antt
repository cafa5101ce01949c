use Rattle.std.proofs.Common.{refl}
use Rattle.fault_text.proofs.ChangeLaws.{changing_begin, changing_end, changing_more}
use Rattle.fault_text.proofs.changes.put_changes.Goals as goal

pub loop-segment-init : goal.loop-segment-init
loop-segment-init g c =
    changing_begin c.args.bytes.now c.args.number c.args.pts c.args.stands _ c.args.known.now c.args.buffer.now

pub loop-segment-preserved : goal.loop-segment-preserved
loop-segment-preserved g c =
    changing_more c.args.bytes.now c.loop-segment.rest.now c.in-Some.segment.now c.in-Some.behind.now c.args.number
    c.args.pts c.args.stands c.loop-segment.stands c.put_change-stands.result _ _ _ c.args.known.now
    c.loop-segment.known c.put_change-stands.new.known c.args.buffer.now c.loop-segment.buffer
    c.put_change-stands.new.buffer c.loop-segment.invariant
    (λ segments are. c.in-Some.ensures.first segments are) c.put_change-stands.ensures

pub returns : goal.returns
returns g c =
    changing_end c.args.bytes.now c.loop-segment.rest.now c.args.number c.args.pts c.args.stands c.loop-segment.stands
    _ _ c.args.known.now c.loop-segment.known c.args.buffer.now c.loop-segment.buffer c.loop-segment.invariant
    (λ segments are. c.in_default.ensures.none refl segments are)
