use Rattle.std.proofs.Common.{take, refl, arith, get_or}
use Rattle.std.proofs.lemmas.List.{get_or_default}
use Rattle.page_epoch.specs.SentCluts.{row_at, all_entries}
use Rattle.page_epoch.proofs.WalkLaws.{current_more, current_long}
use Rattle.page_epoch.proofs.clut_rows.take_in.Goals as goal

pub loop-i-preserved : goal.loop-i-preserved
loop-i-preserved c =
    let colours = c.args.colours.now in
    let place = get_or c.args.rows.now c.loop-i.i 0 in
    current_more colours all_entries c.args.rows.now c.loop-i.i place (row_at colours place) c.loop-i.current.items
    c.note.new.current.items c.requires.rows (omega (arith, c.requires.few, c.loop-i-test.true))
    (get_or_default c.args.rows.now c.loop-i.i 0 place (omega (arith, c.requires.few, c.loop-i-test.true))) refl
    c.loop-i.invariant c.note.ensures.long c.note.ensures.each

pub note-requires : goal.note-requires
note-requires c =
    current_long c.args.colours.now (take c.loop-i.i c.args.rows.now) c.loop-i.current.items c.loop-i.invariant
