use Rattle.std.proofs.Common.{◌∙◌, ◌+◌, ◌++◌, ◌∷◌, List, [], sym, ap, subst, arith}
use Rattle.std.specs.Option.{option_to_list}
use Rattle.page_epoch.specs.declared.planned_set.SentRegion.{SentRegion}
use Rattle.page_epoch.specs.declared.region_state.RegionState.{RegionState}
use Rattle.page_epoch.specs.SentRegions.{region_from}
use Rattle.page_epoch.proofs.RegionLaws.{HaveStepped, HaveStepped-more}
use Rattle.page_epoch.proofs.region_state.step_regions.Goals as goal

pub loop-i-preserved : goal.loop-i-preserved
loop-i-preserved c =
    let stepped = c.loop-i.stepped.items ++ c.in_ok-next.next ∷ [] in
    let Stepped : List RegionState
    → Type 0 = λ states. HaveStepped c.args.cues.now c.args.regions.now c.args.states.now c.args.tick
    c.args.first c.args.whole (c.loop-i.i + 1) states c.push_some.new.items.items in
    let Sent : List SentRegion
    → Type 0 = λ sent. HaveStepped c.args.cues.now c.args.regions.now c.args.states.now c.args.tick c.args.first
    c.args.whole (c.loop-i.i + 1) stepped sent in
    let found = c.in_ok-found.ensures
    ∙ ap (λ old. region_from c.index-regions-i.result.id c.in_ok-next.next.version c.args.whole old
    c.as_slice-in-loop-i.result.now) c.as_slice.ensures
    ∙ ap (λ new. region_from c.index-regions-i.result.id c.in_ok-next.next.version c.args.whole
    c.index-states-i.result.live new) c.as_slice-in-loop-i.ensures in
    subst Stepped (sym c.in_ok-push.ensures.items)
    (subst Sent (sym c.in_ok-push_some.ensures)
    (HaveStepped-more c.index-regions-i.result c.index-states-i.result c.in_ok-next.next
    (option_to_list c.in_ok-found.found) c.loop-i.invariant (omega arith) c.index-regions-i.is c.index-states-i.is
    c.in_ok-next.ensures.next c.in_ok-next.ensures.small found))
