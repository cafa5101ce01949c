use Rattle.std.proofs.Common.{◌∙◌, ℕ, List, Option, Some, ap, drop, subst, sym}
use Rattle.std.specs.Prelude.{slice_get}
use Rattle.page_epoch.specs.declared.planned_set.PlannedSet.{PlannedSet}
use Rattle.schedule.specs.Slots.{Timetable}
use Rattle.dvbsub_cmd.proofs.EnterLaws.{entry_first, entry_shown}
use Rattle.dvbsub_cmd.specs.Private.Entries.{HasEntry}
use Rattle.dvbsub_cmd.specs.Private.Generating.{AreShown}
use Rattle.dvbsub_cmd.specs.declared.gen_text.Entry.{Entry}
use Rattle.dvbsub_cmd.proofs.gen_text.enter.Goals as goal

pub shows_authored-requires-clause-shown : goal.shows_authored-requires-clause-shown
shows_authored-requires-clause-shown g c = λ _ _.
    let made = c.args.generated.now in
    let name = c.args.profile in
    let Has : Timetable → List PlannedSet → Type 0 =
    λ table sets. HasEntry c.args.missed table sets (Some c.in-Some.first) in
    let entry : Has made.sent.table made.sent.sets =
    subst (λ (table : Timetable). Has table made.sent.sets) c.schedule.ensures
    (subst (Has c.schedule.result.now) c.sets.ensures c.in-Some.ensures) in
    let behind = drop c.args.missed c.args.packets.now in
    let ticks = drop c.in-Some.first c.args.times.now in
    let shown : AreShown name made.script behind ticks =
    entry_shown name made c.args.packets.now c.args.times.now c.requires.of c.args.missed c.in-Some.first entry in
    subst (λ (packets : List (List ℕ)). AreShown name made.script packets c.times_from-ticks.result.now)
    (sym c.packets_behind.ensures)
    (subst (AreShown name made.script behind) (sym c.times_from-ticks.ensures) shown)

pub returns : goal.returns
returns g c =
    let made = c.args.generated.now in
    let Has : Timetable → List PlannedSet → Type 0 =
    λ table sets. HasEntry c.args.missed table sets (Some c.in-Some.first) in
    let entry : Has made.sent.table made.sent.sets =
    subst (λ (table : Timetable). Has table made.sent.sets) c.schedule.ensures
    (subst (Has c.schedule.result.now) c.sets.ensures c.in-Some.ensures) in
    let With : Option ℕ → Entry = λ time. record { missed = c.args.missed; time = time } in
    ap With (c.first_time.ensures ∙ ap (λ (ticks : List ℕ). slice_get ticks 0) c.times_from-ticks.ensures
    ∙ entry_first c.args.profile made c.args.packets.now c.args.times.now c.requires.of c.args.missed c.in-Some.first
    entry)
