-- One segment more that is no mode change, one that is, and none.
use Rattle.std.proofs.Common.{◌∙◌, refl, sym}
use Rattle.set_definitions.proofs.WalkLaws.{epoch_begin, epoch_end, epoch_found, epoch_more}
use Rattle.set_definitions.proofs.walk.is_new_epoch.Goals as goal

pub loop-segment-init : goal.loop-segment-init
loop-segment-init c = epoch_begin c.args.bytes.now

pub loop-segment-preserved : goal.loop-segment-preserved
loop-segment-preserved c =
    epoch_more c.args.bytes.now c.loop-segment.rest.now c.in-Some.segment.now c.in-Some.behind.now
    c.loop-segment.invariant c.in-Some.ensures.first (sym c.is_mode_change.ensures ∙ c.if-is_mode_change.false)

pub returns-then-is_mode_change : goal.returns-then-is_mode_change
returns-then-is_mode_change c segments are =
    epoch_found c.args.bytes.now c.loop-segment.rest.now c.in-Some.segment.now c.in-Some.behind.now
    c.loop-segment.invariant c.in-Some.ensures.first (sym c.is_mode_change.ensures ∙ c.if-is_mode_change.true) segments
    are

pub returns : goal.returns
returns c segments are =
    epoch_end c.args.bytes.now c.loop-segment.rest.now c.loop-segment.invariant (c.in_default.ensures.none refl)
    segments
    are
