use Rattle.std.proofs.Common.{ℕ, List, subst}
use Rattle.std.proofs.lemmas.Result.{IfErr-weaker}
use Rattle.sub_base.specs.Endpoints.{AppendsPrefix}
use Rattle.splice.proofs.JoinedLaws.{cut_many}
use Rattle.splice.proofs.SentPackets.{lent_bytes, lent_cut, slot_count-small, slots_pair}
use Rattle.splice.proofs.sent.write_sets.Goals as goal

pub pieces_of-requires-clause-many : goal.pieces_of-requires-clause-many
pieces_of-requires-clause-many g c =
    let joined = c.args.joined.now in
    let cut = c.requires.cut in
    (cut_many c.as_slice.result.now c.as_slice-2.result.now cut.0
    (lent_cut joined.loads.items c.as_slice.result.now joined.written.items c.as_slice-2.result.now cut.0
    c.as_slice.ensures.value c.as_slice-2.ensures.value cut.1)).0

pub write_stream-requires-clause-pairs : goal.write_stream-requires-clause-pairs
write_stream-requires-clause-pairs g c =
    let joined = c.args.joined.now in
    let cut = c.requires.cut in
    let lent =
    lent_cut joined.loads.items c.as_slice.result.now joined.written.items c.as_slice-2.result.now cut.0
    c.as_slice.ensures.value c.as_slice-2.ensures.value cut.1 in
    slots_pair joined.loads.items cut.0 c.args.schedule.now c.all_slots.result.now c.in-Ok.pieces.items
    c.as_slice-3.result.now c.all_slots.ensures c.as_slice-3.ensures.value c.requires.slots cut.1.sized
    (c.in-Ok.ensures.pieces cut.0 lent)

pub write_stream-requires-clause-short : goal.write_stream-requires-clause-short
write_stream-requires-clause-short g c =
    slot_count-small c.args.schedule.now.slots c.all_slots.result.now c.all_slots.ensures c.requires.slots.small

pub returns-clause-front : goal.returns-clause-front
returns-clause-front g c =
    let joined = c.args.joined.now in
    IfErr-weaker c.write_stream.result _ _
    (λ one front is units cut. subst
    (λ (bytes : List ℕ). AppendsPrefix (g.K.Sink.received c.args.out.now).written
    (g.K.Sink.received c.write_stream.new.sink).written bytes)
    (lent_bytes c.args.pid units c.args.schedule.now.slots c.all_slots.result.now c.in-Ok.pieces.items
    c.as_slice-3.result.now
    (c.in-Ok.ensures.pieces units
    (lent_cut joined.loads.items c.as_slice.result.now joined.written.items c.as_slice-2.result.now units
    c.as_slice.ensures.value c.as_slice-2.ensures.value cut)) c.as_slice-3.ensures.value c.all_slots.ensures)
    (front is))
    c.write_stream.ensures.front
