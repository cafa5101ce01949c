use Rattle.std.proofs.Common.{◌∙◌, ◌++◌, ℕ, List, [], ◌∷◌, ap, map, sym, take}
use Rattle.std.proofs.lemmas.List.{map-append, take_more}
use Rattle.page_epoch.specs.declared.planned_set.PlannedSet.{PlannedSet}
use Rattle.dvbsub_cmd.proofs.gen_text.times_of.Goals as goal

pub loop-set-preserved : goal.loop-set-preserved
loop-set-preserved c =
    let sets = c.args.sets.now in
    let place = c.loop-set.set-index in
    let set = c.set-item.result in
    let pts : PlannedSet → ℕ = λ one. one.pts in
    let here = ap (λ (one : PlannedSet). take place sets ++ one ∷ []) c.set-item.is in
    let more = sym (take_more sets place set c.loop-set-test.true) in
    c.in_ok-push.ensures.items
    ∙ ap (λ (times : List ℕ). times ++ set.pts ∷ []) c.loop-set.invariant
    ∙ sym (map-append pts (take place sets) (set ∷ []))
    ∙ ap (map pts) (here ∙ more)
