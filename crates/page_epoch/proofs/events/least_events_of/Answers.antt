use Rattle.std.proofs.Common.{◌≡◌, ◌∙◌, List, Vec, Global, sym, subst, map}
use Rattle.std.specs.Ordering.{nat_cmp}
use Rattle.std.specs.BTreeMap.{get}
use Rattle.page_epoch.specs.declared.events.Event.{Event}
use Rattle.page_epoch.specs.Rows.{Noted, AreLeastEvents, least_event}
use Rattle.page_epoch.proofs.ListLaws.{ok_then}
use Rattle.page_epoch.proofs.EventLaws.{AreLeastEvents-from}
use Rattle.page_epoch.proofs.events.least_events_of.Goals as goal

pub returns : goal.returns
returns c =
    let NotedIn : List Event → Type 0 = λ events. Noted events (get nat_cmp c.in_ok-rows.rows) in
    let noted = subst NotedIn (c.deref.ensures.value ∙ c.in_ok-events.ensures) c.in_ok-rows.ensures in
    let AreGood : List Event → Type 0 = λ least_events. AreLeastEvents c.args.epochs.now least_events in
    ok_then (λ (least_events : Vec Event Global). least_events.items ≡ map least_event c.in_ok-rows.rows.entries)
    (λ (least_events : Vec Event Global). AreGood least_events.items) c.in_order.result
    (λ least_events is. subst AreGood (sym is)
    (AreLeastEvents-from c.args.epochs.now c.in_ok-rows.rows c.in_order.ensures.ordered noted))
    c.in_order.ensures.events
