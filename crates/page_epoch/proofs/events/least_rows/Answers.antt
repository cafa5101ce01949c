use Rattle.std.proofs.Common.{List, sym, subst, take, get_or, arith}
use Rattle.std.specs.Ordering.{nat_cmp}
use Rattle.std.specs.BTreeMap.{get}
use Rattle.std.proofs.lemmas.List.{take_more}
use Rattle.page_epoch.specs.declared.events.Event.{Event}
use Rattle.page_epoch.specs.Rows.{event, Noted}
use Rattle.page_epoch.proofs.EventLaws.{Noted-more}
use Rattle.page_epoch.proofs.events.least_rows.Goals as goal

pub loop-event-preserved : goal.loop-event-preserved
loop-event-preserved c =
    let i = c.loop-event.event-index in
    let NotedIn : List Event → Type 0 = λ events. Noted events (get nat_cmp c.note.new.rows) in
    subst NotedIn (sym (take_more c.args.events.now i (event 0 0) (omega arith)))
    (Noted-more (take i c.args.events.now) (get_or c.args.events.now i (event 0 0)) (get nat_cmp c.loop-event.rows)
    (get nat_cmp c.note.new.rows) c.loop-event.invariant c.in_ok-note.ensures)
