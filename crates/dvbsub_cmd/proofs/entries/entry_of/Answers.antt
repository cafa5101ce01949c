use Rattle.std.proofs.Common.{◌∙◌, ap, length, refl, sym, arith}
use Rattle.std.proofs.lemmas.Option.{slice_get_read}
use Rattle.shown_stream.proofs.Shown.EnteredTimes.{drop_found}
use Rattle.dvbsub_cmd.specs.Private.Entries.{is_entry}
use Rattle.dvbsub_cmd.proofs.EntryLaws.{entered_here, entered_later, entered_nowhere}
use Rattle.dvbsub_cmd.proofs.entries.entry_of.Goals as goal

pub returns-then-is_entry : goal.returns-then-is_entry
returns-then-is_entry c =
    let set = c.index-sets-number.result in
    let found =
    slice_get_read c.args.sets.now (length c.args.sets.now) c.loop-number.number set refl (omega arith)
    c.index-sets-number.is in (
      set,
      found,
      entered_here c.args.missed c.loop-number.number c.args.schedule.now set c.args.sets.now
          (drop_found c.loop-number.number c.args.sets.now set found) c.loop-number.invariant
          (ap (is_entry c.args.missed set) (sym c.slots_of.ensures) ∙ sym c.is_entry.ensures ∙ c.if-is_entry.true),
    )

pub loop-number-preserved : goal.loop-number-preserved
loop-number-preserved c =
    let set = c.index-sets-number.result in
    let found =
    slice_get_read c.args.sets.now (length c.args.sets.now) c.loop-number.number set refl (omega arith)
    c.index-sets-number.is in
    entered_later c.args.missed c.loop-number.number c.args.schedule.now set c.args.sets.now
    (drop_found c.loop-number.number c.args.sets.now set found) c.loop-number.invariant
    (ap (is_entry c.args.missed set) (sym c.slots_of.ensures) ∙ sym c.is_entry.ensures ∙ c.if-is_entry.false)

pub returns : goal.returns
returns c =
    entered_nowhere c.args.missed c.loop-number.number c.args.schedule.now c.args.sets.now (omega arith)
    c.loop-number.invariant
