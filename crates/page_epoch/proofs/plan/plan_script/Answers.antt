use Rattle.std.proofs.Common.{subst, sym, List}
use Rattle.cue_list.specs.declared.epoch.Epoch.{Epoch}
use Rattle.page_epoch.specs.declared.planned_set.PlannedSet.{PlannedSet}
use Rattle.page_epoch.specs.Plan.{ArePlanned}
use Rattle.page_epoch.specs.EpochWalks.{IsPlain}
use Rattle.page_epoch.proofs.SoundLaws.{plain}
use Rattle.page_epoch.proofs.SendLaws.{sendable_all}
use Rattle.page_epoch.proofs.plan.plan_script.Goals as goal

pub plan_sets-requires : goal.plan_sets-requires
plan_sets-requires c =
    let script = c.args.script.now in
    subst (λ (epochs : List Epoch). IsPlain epochs script.refresh) (sym c.as_slice.ensures)
    (plain script.origin script.width script.height script.refresh script.epochs script.pictures script.sound)

pub returns-clause-sendable : goal.returns-clause-sendable
returns-clause-sendable c =
    let script = c.args.script.now in
    let planned =
    subst (λ (epochs : List Epoch). ArePlanned epochs script.refresh c.args.profile.now c.in_ok-sets.sets.items)
    c.as_slice.ensures c.in_ok-sets.ensures.planned in
    sendable_all script c.args.profile.now c.new.result
    (plain script.origin script.width script.height script.refresh script.epochs script.pictures script.sound)
    (subst (λ (sets : List PlannedSet). ArePlanned script.epochs script.refresh c.args.profile.now sets)
    (sym c.new.ensures) planned)
