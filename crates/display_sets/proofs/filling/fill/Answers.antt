use Rattle.std.proofs.Common.{sym, ◌∙◌}
use Rattle.display_sets.proofs.FillLoop.{fill_broken, fill_ended, fill_more}
use Rattle.display_sets.proofs.filling.fill.Goals as goal

pub returns-in-Err-clause-fills : goal.returns-in-Err-clause-fills
returns-in-Err-clause-fills c =
    fill_broken c.args.pages c.args.coded c.args.field.now c.loop-next.rest.now c.args.bytes.now.items
    c.loop-next.bytes.items c.in-Err.fault _ c.loop-next.invariant.filling
    (rw c.in-Err.is at c.in-Some.ensures) c.refused.ensures

pub returns-then-not-is_open-clause-fills : goal.returns-then-not-is_open-clause-fills
returns-then-not-is_open-clause-fills c =
    let next = rw c.in-Ok.is at c.in-Some.ensures in
    fill_ended c.args.pages c.args.coded c.args.field.now c.loop-next.rest.now c.args.bytes.now.items
    c.loop-next.bytes.items c.in-Ok.front.segment.now c.in-Ok.front.rest.now c.add-filled.new.bytes.items _
    c.loop-next.invariant.filling next.listed (sym c.is_open.ensures ∙ c.if-not-is_open.true)
    c.add-filled.ensures.adds

pub loop-next-preserved : goal.loop-next-preserved
loop-next-preserved c =
    let next = rw c.in-Ok.is at c.in-Some.ensures in
    record {
      room = c.add-filled.ensures.room;
      within = c.add-filled.ensures.within;
      filling =
          fill_more c.args.pages c.args.coded c.args.field.now c.loop-next.rest.now c.args.bytes.now.items
          c.loop-next.bytes.items c.in-Ok.front.segment.now c.in-Ok.front.rest.now c.add-filled.new.bytes.items _
          c.loop-next.invariant.filling next.listed (sym c.is_open.ensures ∙ c.if-not-is_open.false)
          c.add-filled.ensures.adds c.add-filled.ensures.grows;
    }
