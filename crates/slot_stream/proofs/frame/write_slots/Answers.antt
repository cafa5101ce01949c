use Rattle.std.proofs.Common.{◌≡◌, ◌∙◌, ◌+◌, ℕ, take, length, subst, arith}
use Rattle.std.proofs.lemmas.List.{length-take-le}
use Rattle.sub_base.proofs.TransferSteps.{OnErr-of}
use Rattle.sub_base.specs.Endpoints.{Wrote, WrotePrefix}
use Rattle.slot_stream.specs.Private.Frames.{packets_at}
use Rattle.slot_stream.specs.SlotWalk.{IsNextPlace}
use Rattle.slot_stream.proofs.FrameLaws.{many_left, nulls_stay, room_for_many, room_stays, written_front, written_more}
use Rattle.slot_stream.proofs.frame.write_slots.Goals as goal

pub returns-in_err-next-clause-front : goal.returns-in_err-next-clause-front
returns-in_err-next-clause-front g c =
    let many = c.min-many.result in
    let room = c.loop-slot.room in
    let slot = c.loop-slot.slot in
    let long : length (take many room) ≡ many =
    length-take-le many room (room_for_many many c.args.count slot (length room) c.min-many.ensures) in
    let old = g.K.Sink.received c.loop-slot.sink in
    let new = g.K.Sink.received c.write_frame.new.sink in
    let front = subst
    (λ (n : ℕ). WrotePrefix old new (packets_at c.args.packetiser.pid c.args.pieces.now c.args.slots.now slot n)) long
    (subst
    (λ (pid : ℕ). WrotePrefix old new
    (packets_at pid c.args.pieces.now c.args.slots.now slot (length (take many room)))) c.loop-slot.invariant.pid
    c.in_err-next.ensures.front) in
    OnErr-of c.from_residual.result _ (written_front c.args.packetiser.pid c.args.pieces.now c.args.slots.now slot
    many c.args.count (g.K.Sink.received c.args.sink.now).written old.written new.written
    (many_left many c.args.count slot (length room) c.min-many.ensures c.loop-slot-test.true)
    c.loop-slot.invariant.written front)

pub loop-slot-preserved : goal.loop-slot-preserved
loop-slot-preserved g c =
    let many = c.min-many.result in
    let room = c.loop-slot.room in
    let slot = c.loop-slot.slot in
    let long : length (take many room) ≡ many =
    length-take-le many room (room_for_many many c.args.count slot (length room) c.min-many.ensures) in
    let old = g.K.Sink.received c.loop-slot.sink in
    let new = g.K.Sink.received c.write_frame.new.sink in
    let more = subst
    (λ (n : ℕ). Wrote old new (packets_at c.args.packetiser.pid c.args.pieces.now c.args.slots.now slot n)) long
    (subst
    (λ (pid : ℕ). Wrote old new
    (packets_at pid c.args.pieces.now c.args.slots.now slot (length (take many room)))) c.loop-slot.invariant.pid
    c.in_ok-next.ensures.all) in
    record {
      next =
          subst (λ (n : ℕ). IsNextPlace c.args.slots.now c.in_ok-next.next (slot + n)) long c.in_ok-next.ensures.next;
      pid = c.in_ok-next.ensures.pid ∙ c.loop-slot.invariant.pid;
      counter = c.in_ok-next.ensures.counter;
      within = many_left many c.args.count slot (length room) c.min-many.ensures c.loop-slot-test.true;
      room = room_stays many room c.write_frame.new.frame c.in_ok-next.ensures.length c.loop-slot.invariant.room;
      null = nulls_stay many room c.write_frame.new.frame c.in_ok-next.ensures.null c.loop-slot.invariant.null;
      written = written_more c.args.packetiser.pid c.args.pieces.now c.args.slots.now slot many
          (g.K.Sink.received c.args.sink.now).written old.written new.written c.loop-slot.invariant.written more;
      kept = omega (arith, c.loop-slot.invariant.kept, c.in_ok-next.ensures.kept);
    }
