-- One segment more that is no mode change, one that is, and none.
use Rattle.std.proofs.Common.{◌∙◌, refl, sym}
use Rattle.splice.proofs.WalkLaws.{anew_begin, anew_end, anew_found, anew_more}
use Rattle.splice.proofs.segment_walk.is_mode_change.Goals as goal

pub loop-segment-init : goal.loop-segment-init
loop-segment-init c = anew_begin c.args.bytes.now

pub loop-segment-preserved : goal.loop-segment-preserved
loop-segment-preserved c =
    anew_more c.args.bytes.now c.loop-segment.rest.now c.in-Some.segment.now c.in-Some.behind.now
    c.loop-segment.invariant c.in-Some.ensures.first
    (λ reading framed is. sym c.if-is_opening.false ∙ c.is_opening.ensures reading framed is)

pub returns-then-is_opening : goal.returns-then-is_opening
returns-then-is_opening c segments readings are is =
    anew_found c.args.bytes.now c.loop-segment.rest.now c.in-Some.segment.now c.in-Some.behind.now segments readings
    c.loop-segment.invariant c.in-Some.ensures.first
    (λ reading framed read. sym c.if-is_opening.true ∙ c.is_opening.ensures reading framed read) are is

pub returns : goal.returns
returns c segments readings are is =
    anew_end c.args.bytes.now c.loop-segment.rest.now segments readings c.loop-segment.invariant
    (c.in_default.ensures.none refl) are is
