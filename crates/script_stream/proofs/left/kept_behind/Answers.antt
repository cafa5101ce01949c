use Rattle.std.proofs.Common.{◌≡◌, ◌∙◌, refl, ap, drop}
use Rattle.std.proofs.lemmas.Result.{IfOk-weaker}
use Rattle.slot_stream.specs.KeptPackets.{SlottedPackets, numbered}
use Rattle.script_stream.proofs.LeftLaws.{behind_cut, behind_many, first_among, kept_are}
use Rattle.script_stream.proofs.SendLaws.{slots_pair}
use Rattle.script_stream.proofs.UnitLaws.{cut_many}
use Rattle.script_stream.specs.Private.Timing.{AreKeptOf}
use Rattle.script_stream.proofs.left.kept_behind.Goals as goal

pub split_at-requires : goal.split_at-requires
split_at-requires c =
    let timed = c.args.timed.now in
    (first_among c.args.script.now timed.plan.sets c.as_slice.result.now timed.loads.items timed.schedule.slots
    timed.schedule.slots c.args.first.sets c.args.first.packets c.requires.ready.asked c.requires.first
    c.requires.ready.slotted.packets c.as_slice.ensures refl).0

pub split_at-requires-3 : goal.split_at-requires-3
split_at-requires-3 c =
    let timed = c.args.timed.now in
    (first_among c.args.script.now timed.plan.sets timed.plan.sets timed.loads.items timed.schedule.slots
    c.all_slots.result.now c.args.first.sets c.args.first.packets c.requires.ready.asked c.requires.first
    c.requires.ready.slotted.packets refl c.all_slots.ensures).1

pub pieces_of-requires-clause-many : goal.pieces_of-requires-clause-many
pieces_of-requires-clause-many c =
    let timed = c.args.timed.now in
    let f = c.args.first.sets in
    let own =
    behind_cut c.args.script.now c.args.page f timed.plan.sets c.split_at.result.1.now timed.loads.items
    c.split_at-2.result.1.now c.in_ok-written.written.items c.as_slice-3.result.now c.requires.ready.asked
    (c.split_at.ensures.back ∙ ap (drop f) c.as_slice.ensures)
    (c.split_at-2.ensures.back ∙ ap (drop f) c.as_slice-2.ensures.value) c.as_slice-3.ensures.value
    c.in_ok-written.ensures in
    (cut_many c.split_at-2.result.1.now c.as_slice-3.result.now own.0 own.2).0

pub pieces_of-requires-clause-cut : goal.pieces_of-requires-clause-cut
pieces_of-requires-clause-cut c =
    let timed = c.args.timed.now in
    let f = c.args.first.sets in
    let own =
    behind_cut c.args.script.now c.args.page f timed.plan.sets c.split_at.result.1.now timed.loads.items
    c.split_at-2.result.1.now c.in_ok-written.written.items c.as_slice-3.result.now c.requires.ready.asked
    (c.split_at.ensures.back ∙ ap (drop f) c.as_slice.ensures)
    (c.split_at-2.ensures.back ∙ ap (drop f) c.as_slice-2.ensures.value) c.as_slice-3.ensures.value
    c.in_ok-written.ensures in
    (own.0, own.2)

pub of_pieces-requires-clause-pairs : goal.of_pieces-requires-clause-pairs
of_pieces-requires-clause-pairs c =
    let timed = c.args.timed.now in
    let f = c.args.first.sets in
    let n = c.args.first.packets in
    let lent = c.split_at-2.result.1.now in
    let lent_is : lent ≡ drop f timed.loads.items =
    c.split_at-2.ensures.back ∙ ap (drop f) c.as_slice-2.ensures.value in
    let own =
    behind_cut c.args.script.now c.args.page f timed.plan.sets c.split_at.result.1.now timed.loads.items lent
    c.in_ok-written.written.items c.as_slice-3.result.now c.requires.ready.asked
    (c.split_at.ensures.back ∙ ap (drop f) c.as_slice.ensures) lent_is c.as_slice-3.ensures.value
    c.in_ok-written.ensures in
    slots_pair lent c.as_slice-3.result.now own.0 (drop n timed.schedule.slots) c.split_at-3.result.1.now
    c.in_ok-pieces.pieces.items c.as_slice-4.result.now
    (c.split_at-3.ensures.back ∙ ap (drop n) c.all_slots.ensures) c.as_slice-4.ensures.value
    (behind_many timed.loads.items lent timed.schedule.slots f n lent_is c.requires.first
    c.requires.ready.slotted.packets) own.2 (c.in_ok-pieces.ensures.pieces own.0 own.2)

pub returns : goal.returns
returns c =
    let timed = c.args.timed.now in
    let script = c.args.script.now in
    let f = c.args.first.sets in
    let n = c.args.first.packets in
    let given = c.split_at-3.result.1.now in
    let own =
    behind_cut script c.args.page f timed.plan.sets c.split_at.result.1.now timed.loads.items
    c.split_at-2.result.1.now c.in_ok-written.written.items c.as_slice-3.result.now c.requires.ready.asked
    (c.split_at.ensures.back ∙ ap (drop f) c.as_slice.ensures)
    (c.split_at-2.ensures.back ∙ ap (drop f) c.as_slice-2.ensures.value) c.as_slice-3.ensures.value
    c.in_ok-written.ensures in
    let is_given : given ≡ drop n timed.schedule.slots =
    c.split_at-3.ensures.back ∙ ap (drop n) c.all_slots.ensures in
    IfOk-weaker c.of_pieces.result
    (λ (kept : SlottedPackets). kept
    ≡ record { slots = given; packets = numbered c.args.pid n c.as_slice-4.result.now })
    (AreKeptOf script c.args.pid c.args.page n (drop f timed.plan.sets) (drop n timed.schedule.slots))
    (λ kept is. kept_are script c.args.pid c.args.page n (drop f timed.plan.sets) own.0 (drop n timed.schedule.slots)
    given c.in_ok-pieces.pieces.items c.as_slice-4.result.now kept own.1 is_given c.as_slice-4.ensures.value
    (c.in_ok-pieces.ensures.pieces own.0 own.2) is)
    c.of_pieces.ensures
