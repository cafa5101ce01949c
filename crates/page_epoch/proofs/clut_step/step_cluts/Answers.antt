use Rattle.std.proofs.Common.{◌+◌, ◌++◌, ◌∷◌, ℕ, List, [], Option, sym, subst, arith}
use Rattle.std.specs.Option.{option_to_list}
use Rattle.page_epoch.specs.declared.planned_set.SentClut.{SentClut}
use Rattle.page_epoch.specs.Private.Changes.{AreChanges}
use Rattle.page_epoch.proofs.ClutLaws.{HaveStepped, HaveStepped-more}
use Rattle.page_epoch.proofs.clut_step.step_cluts.Goals as goal

pub loop-i-preserved : goal.loop-i-preserved
loop-i-preserved c =
    let next = c.loop-i.next.items ++ c.in_ok-step.step.version ∷ [] in
    let Next : List (Option ℕ)
    → Type 0 = λ versions. HaveStepped c.args.colours.now c.args.cluts.now c.args.versions.now c.args.tick
    c.args.whole (c.loop-i.i + 1) versions c.push_some.new.items.items (c.loop-i.nodes + c.in_ok-step.step.nodes) in
    let Sent : List SentClut
    → Type 0 = λ sent. HaveStepped c.args.colours.now c.args.cluts.now c.args.versions.now c.args.tick
    c.args.whole (c.loop-i.i + 1) next sent (c.loop-i.nodes + c.in_ok-step.step.nodes) in
    subst Next (sym c.in_ok-push.ensures.items)
    (subst Sent (sym c.in_ok-push_some.ensures)
    (HaveStepped-more c.index-cluts-i.result c.in_ok-step.step.version (option_to_list c.in_ok-step.step.sent)
    c.in_ok-step.step.nodes c.loop-i.invariant (omega arith) c.index-cluts-i.is
    c.in_ok-step.ensures.version c.in_ok-step.ensures.small c.in_ok-step.ensures.sent c.in_ok-step.ensures.nodes
    c.in_ok-step.ensures.few))

pub step_clut-requires-clause-changes : goal.step_clut-requires-clause-changes
step_clut-requires-clause-changes c =
    subst (AreChanges c.args.colours.now) (sym c.index-cluts-i.is)
    (c.requires.changes c.loop-i.i c.index-cluts-i.result (omega arith))
