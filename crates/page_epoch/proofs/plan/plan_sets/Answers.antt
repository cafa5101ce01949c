use Rattle.std.proofs.Common.{◌∙◌, ◌<◌, ◌+◌, List, All, reverse, length, get_or, true, false, sym, ap, subst, arith}
use Rattle.std.proofs.lemmas.List.{get_or_default}
use Rattle.std.proofs.lemmas.Option.{slice_get_within}
use Rattle.std.proofs.lemmas.Result.{err_from_is_err_and}
use Rattle.page_epoch.specs.declared.instants.Instant.{Instant}
use Rattle.page_epoch.specs.declared.planned_set.PlannedSet.{PlannedSet}
use Rattle.page_epoch.specs.declared.epoch_state.EpochWalk.{EpochWalk}
use Rattle.page_epoch.specs.EpochWalks.{version_behind}
use Rattle.page_epoch.specs.Private.RecordedInstants.{AreRecordedInstants}
use Rattle.page_epoch.proofs.PageVersions.{small_versions}
use Rattle.page_epoch.proofs.PlanLaws.{HavePlanned, ready_on}
use Rattle.page_epoch.proofs.PlanSteps.{set_behind, place_within, small_at, layout_at, made_from, unheld_made, cause_of, HavePlanned-more}
use Rattle.page_epoch.proofs.plan.plan_sets.Goals as goal
use Rattle.page_epoch.proofs.plan.plan_sets.Goals.{then-is_entry_state, else-is_entry_state}

no_instant : Instant
no_instant = record { tick = 0; row = 0; named = false }

pub next_page_version-requires : goal.next_page_version-requires
next_page_version-requires c =
    subst (λ (sets : List PlannedSet). All (λ (set : PlannedSet). set.page_version < 16) sets)
    (sym c.as_slice.ensures.value)
    (small_versions c.args.epochs.now c.args.refresh c.loop-instant.sets.items c.loop-instant.invariant.each)

pub bounds-epochs-walk : goal.bounds-epochs-walk
unfolding no_instant
bounds-epochs-walk c =
    let epochs = c.args.epochs.now in
    let instants = c.deref-instant-items.result.now in
    let steps =
    subst (λ (xs : List Instant). AreRecordedInstants epochs c.args.refresh xs)
    (sym c.deref-instant-items.ensures.value) c.in_ok-instants.ensures in
    let i = c.loop-instant.instant-index in
    let instant = get_or instants i no_instant in
    let short : i < length instants = omega arith in
    let read = get_or_default instants i no_instant instant short in
    let ready =
    ready_on epochs c.args.refresh c.args.profile.now instants i c.loop-instant.sets.items instant
    c.loop-instant.walk c.in_ok-walk-2.walk c.loop-instant.last_entry c.requires steps c.loop-instant.invariant
    short read c.in_ok-walk-2.ensures in
    place_within ready

pub advance-requires-clause-few : goal.advance-requires-clause-few
unfolding no_instant
advance-requires-clause-few c =
    let epochs = c.args.epochs.now in
    let instants = c.deref-instant-items.result.now in
    let steps =
    subst (λ (xs : List Instant). AreRecordedInstants epochs c.args.refresh xs)
    (sym c.deref-instant-items.ensures.value) c.in_ok-instants.ensures in
    let i = c.loop-instant.instant-index in
    let instant = get_or instants i no_instant in
    let short : i < length instants = omega arith in
    let read = get_or_default instants i no_instant instant short in
    let ready =
    ready_on epochs c.args.refresh c.args.profile.now instants i c.loop-instant.sets.items instant
    c.loop-instant.walk c.in_ok-walk-2.walk c.loop-instant.last_entry c.requires steps c.loop-instant.invariant
    short read c.in_ok-walk-2.ensures in
    small_at ready c.index-epochs-walk.result c.requires c.index-epochs-walk.is

pub advance-requires-clause-layout : goal.advance-requires-clause-layout
unfolding no_instant
advance-requires-clause-layout c =
    let epochs = c.args.epochs.now in
    let instants = c.deref-instant-items.result.now in
    let steps =
    subst (λ (xs : List Instant). AreRecordedInstants epochs c.args.refresh xs)
    (sym c.deref-instant-items.ensures.value) c.in_ok-instants.ensures in
    let i = c.loop-instant.instant-index in
    let instant = get_or instants i no_instant in
    let short : i < length instants = omega arith in
    let read = get_or_default instants i no_instant instant short in
    let ready =
    ready_on epochs c.args.refresh c.args.profile.now instants i c.loop-instant.sets.items instant
    c.loop-instant.walk c.in_ok-walk-2.walk c.loop-instant.last_entry c.requires steps c.loop-instant.invariant
    short read c.in_ok-walk-2.ensures in
    layout_at ready c.index-epochs-walk.result c.index-epochs-walk.is

pub loop-instant-preserved : goal.loop-instant-preserved
unfolding no_instant
loop-instant-preserved c =
    let epochs = c.args.epochs.now in
    let instants = c.deref-instant-items.result.now in
    let steps =
    subst (λ (xs : List Instant). AreRecordedInstants epochs c.args.refresh xs)
    (sym c.deref-instant-items.ensures.value) c.in_ok-instants.ensures in
    let i = c.loop-instant.instant-index in
    let instant = get_or instants i no_instant in
    let short : i < length instants = omega arith in
    let read = get_or_default instants i no_instant instant short in
    let ready =
    ready_on epochs c.args.refresh c.args.profile.now instants i c.loop-instant.sets.items instant
    c.loop-instant.walk c.in_ok-walk-2.walk c.loop-instant.last_entry c.requires steps c.loop-instant.invariant
    short read c.in_ok-walk-2.ensures in
    let made =
    made_from ready c.index-epochs-walk.result c.state_of-state.result c.in_ok-step.step c.index-epochs-walk.is
    c.state_of-state.ensures
    (set_behind c.loop-instant.sets.items instant c.in_ok-walk-2.walk c.state_of-state.result
    c.next_page_version.result c.in_ok-step.step.set
    (c.next_page_version.ensures
    ∙ ap (λ (sets : List PlannedSet). version_behind (reverse sets) instant.named) c.as_slice.ensures.value)
    c.in_ok-step.ensures.set) c.in_ok-step.ensures.advanced c.in_ok-step.ensures.safe in
    let pixels = c.in_ok-walk-2.walk.layout.pixels in
    let need = made.ready.stands.layout.pixels in
    let walk : EpochWalk =
    record {
      place = c.in_ok-walk-2.walk.place;
      layout = c.in_ok-walk-2.walk.layout;
      current = c.in_ok-step.step.current;
    } in
    let Have : List PlannedSet
    → Type 0 = λ sets. HavePlanned epochs c.args.refresh c.args.profile.now instants (i + 1) sets walk
    c.if-is_entry_state.last_entry in
    let more =
    HavePlanned-more epochs c.args.refresh c.args.profile.now instants i c.loop-instant.sets.items instant
    c.loop-instant.walk c.in_ok-walk-2.walk c.loop-instant.last_entry c.if-is_entry_state.last_entry
    c.state_of-state.result c.in_ok-step.step pixels in
    subst Have (sym c.in_ok-push.ensures.items)
    (elim c.if-is_entry_state.branch [
      | then-is_entry_state w ↦ more true c.requires steps c.loop-instant.invariant short read c.in_ok-walk-2.ensures
          made need c.in_ok-check_needs.ensures.held.0 c.in_ok-check_needs.ensures.held.1
          (sym c.is_entry_state.ensures ∙ w.if-is_entry_state.true) w.last_entry-is
      | else-is_entry_state w ↦ more false c.requires steps c.loop-instant.invariant short read c.in_ok-walk-2.ensures
          made need c.in_ok-check_needs.ensures.held.0 c.in_ok-check_needs.ensures.held.1
          (sym c.is_entry_state.ensures ∙ w.if-is_entry_state.false) w.last_entry-is
    ])

pub at-requires-clause-there : goal.at-requires-clause-there
at-requires-clause-there c =
    slice_get_within c.args.epochs.now c.loop-instant.walk.place c.loop-instant.invariant.stands.epoch
    c.loop-instant.invariant.stands.found

pub returns-in_err-check_needs-clause-cause : goal.returns-in_err-check_needs-clause-cause
unfolding no_instant
returns-in_err-check_needs-clause-cause c =
    let epochs = c.args.epochs.now in
    let instants = c.deref-instant-items.result.now in
    let steps =
    subst (λ (xs : List Instant). AreRecordedInstants epochs c.args.refresh xs)
    (sym c.deref-instant-items.ensures.value) c.in_ok-instants.ensures in
    let i = c.loop-instant.instant-index in
    let instant = get_or instants i no_instant in
    let short : i < length instants = omega arith in
    let read = get_or_default instants i no_instant instant short in
    let ready =
    ready_on epochs c.args.refresh c.args.profile.now instants i c.loop-instant.sets.items instant
    c.loop-instant.walk c.in_ok-walk-2.walk c.loop-instant.last_entry c.requires steps c.loop-instant.invariant
    short read c.in_ok-walk-2.ensures in
    let made =
    made_from ready c.index-epochs-walk.result c.state_of-state.result c.in_ok-step.step c.index-epochs-walk.is
    c.state_of-state.ensures
    (set_behind c.loop-instant.sets.items instant c.in_ok-walk-2.walk c.state_of-state.result
    c.next_page_version.result c.in_ok-step.step.set
    (c.next_page_version.ensures
    ∙ ap (λ (sets : List PlannedSet). version_behind (reverse sets) instant.named) c.as_slice.ensures.value)
    c.in_ok-step.ensures.set) c.in_ok-step.ensures.advanced c.in_ok-step.ensures.safe in
    let pixels = c.in_ok-walk-2.walk.layout.pixels in
    let need = made.ready.stands.layout.pixels in
    let p =
    err_from_is_err_and c.from_residual-in_err-check_needs.result c.from_residual-in_err-check_needs.ensures.1 in
    rw (p.1, p.2)
    (cause_of epochs c.args.refresh c.args.profile.now instant.row pixels c.in_ok-step.step.nodes
    c.in_err-check_needs.field-0.0
    (unheld_made epochs c.args.refresh c.args.profile.now instants i c.loop-instant.sets.items instant
    c.loop-instant.walk c.in_ok-walk-2.walk c.loop-instant.last_entry c.state_of-state.result c.in_ok-step.step
    pixels steps c.loop-instant.invariant short read made need)
    c.in_err-check_needs.ensures.fault)
