use Rattle.std.proofs.Common.{◌∙◌, ap, get_or}
use Rattle.std.specs.List.{flat_map}
use Rattle.std.specs.Option.{option_to_list}
use Rattle.std.proofs.lemmas.List.{get_or_default}
use Rattle.page_epoch.specs.SentCluts.{all_entries}
use Rattle.page_epoch.proofs.WalkLaws.{HaveWalked-more, come_on}
use Rattle.page_epoch.proofs.clut_changes.changes_at.Goals as goal

pub take_in-requires-clause-order : goal.take_in-requires-clause-order
take_in-requires-clause-order c =
    let tick = get_or c.args.ticks.now c.loop-tick.tick-index 0 in
    come_on c.args.colours.now all_entries c.args.rows.now c.args.ticks.now c.loop-tick.tick-index c.loop-tick.applied
    c.rows_by-next.result tick c.loop-tick.current.items c.loop-tick.changes.items
    c.loop-tick.invariant c.loop-tick-test.true
    (get_or_default c.args.ticks.now c.loop-tick.tick-index 0 tick c.loop-tick-test.true) c.rows_by-next.ensures.few
    (c.rows_by-next.ensures.point c.requires.rows)

pub loop-tick-preserved : goal.loop-tick-preserved
loop-tick-preserved c =
    let tick = get_or c.args.ticks.now c.loop-tick.tick-index 0 in
    HaveWalked-more c.args.colours.now all_entries c.args.rows.now c.args.ticks.now c.loop-tick.tick-index
    c.loop-tick.applied c.rows_by-next.result tick c.loop-tick.current.items c.take_in.new.current.items
    c.in_ok-defined_rows.field-0 c.loop-tick.changes.items c.push.new.self.items c.loop-tick.invariant c.requires.ticks
    c.loop-tick-test.true (get_or_default c.args.ticks.now c.loop-tick.tick-index 0 tick c.loop-tick-test.true)
    c.rows_by-next.ensures.few (c.rows_by-next.ensures.point c.requires.rows) c.take_in.ensures
    (c.in_ok-defined_rows.ensures ∙ ap (flat_map option_to_list) c.deref.ensures.value) c.in_ok-push.ensures.items
