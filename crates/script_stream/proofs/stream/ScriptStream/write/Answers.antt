use Rattle.std.proofs.Common.{◌≡◌, ◌∙◌, ℕ, List, ap, subst}
use Rattle.std.specs.Prelude.{IfErr, OnOk}
use Rattle.std.specs.Io.KnownBytes.{Appends}
use Rattle.slot_stream.specs.declared.stream.StreamFault.TheVariants as fault
use Rattle.sub_base.specs.Endpoints.{AppendsPrefix}
use Rattle.script_stream.proofs.SendLaws.{lent_bytes, lent_cut, slot_count-small, slots_pair}
use Rattle.script_stream.proofs.UnitLaws.{cut_many}
use Rattle.script_stream.specs.SentScripts.{SentScript, stream_bytes, units_in}
use Rattle.script_stream.proofs.stream.ScriptStream.write.Goals as goal

pub pieces_of-requires-clause-many : goal.pieces_of-requires-clause-many
pieces_of-requires-clause-many g c =
    let loads = c.self.inside.loads.items in
    let written = c.self.inside.written.items in
    (cut_many c.as_slice.result.now c.as_slice-2.result.now (units_in loads written)
    (lent_cut loads c.as_slice.result.now written c.as_slice-2.result.now c.as_slice.ensures.value
    c.as_slice-2.ensures.value c.self.invariant.cut)).0

pub write_stream-requires-clause-pairs : goal.write_stream-requires-clause-pairs
write_stream-requires-clause-pairs g c =
    let loads = c.self.inside.loads.items in
    let written = c.self.inside.written.items in
    let units = units_in loads written in
    let cut =
    lent_cut loads c.as_slice.result.now written c.as_slice-2.result.now c.as_slice.ensures.value
    c.as_slice-2.ensures.value c.self.invariant.cut in
    slots_pair loads written units c.self.inside.schedule.slots c.all_slots.result.now c.in-Ok.pieces.items
    c.as_slice-3.result.now c.all_slots.ensures c.as_slice-3.ensures.value c.self.invariant.packets
    c.self.invariant.cut (c.in-Ok.ensures.pieces units cut)

pub write_stream-requires-clause-short : goal.write_stream-requires-clause-short
write_stream-requires-clause-short g c =
    slot_count-small c.self.inside.schedule.slots c.all_slots.result.now c.all_slots.ensures c.self.invariant.small

pub returns-clause-all : goal.returns-clause-all
returns-clause-all g c =
    let loads = c.self.inside.loads.items in
    let written = c.self.inside.written.items in
    let cut =
    lent_cut loads c.as_slice.result.now written c.as_slice-2.result.now c.as_slice.ensures.value
    c.as_slice-2.ensures.value c.self.invariant.cut in
    let sent : SentScript = record {
      pid = c.self.inside.pid;
      sets = c.self.inside.plan.sets;
      loads = loads;
      units = units_in loads written;
      table = c.self.inside.schedule;
    } in
    let same =
    lent_bytes sent c.in-Ok.pieces.items c.as_slice-3.result.now c.all_slots.result.now
    (c.in-Ok.ensures.pieces (units_in loads written) cut) c.as_slice-3.ensures.value c.all_slots.ensures
    ∙ ap stream_bytes c.self.view_is in
    subst (λ (bytes : List ℕ). OnOk c.write_stream.result (Appends (g.K.Sink.received c.args.out.now).written
    (g.K.Sink.received c.write_stream.new.sink).written bytes)) same c.write_stream.ensures.all

pub returns-clause-front : goal.returns-clause-front
returns-clause-front g c =
    let loads = c.self.inside.loads.items in
    let written = c.self.inside.written.items in
    let cut =
    lent_cut loads c.as_slice.result.now written c.as_slice-2.result.now c.as_slice.ensures.value
    c.as_slice-2.ensures.value c.self.invariant.cut in
    let sent : SentScript = record {
      pid = c.self.inside.pid;
      sets = c.self.inside.plan.sets;
      loads = loads;
      units = units_in loads written;
      table = c.self.inside.schedule;
    } in
    let same =
    lent_bytes sent c.in-Ok.pieces.items c.as_slice-3.result.now c.all_slots.result.now
    (c.in-Ok.ensures.pieces (units_in loads written) cut) c.as_slice-3.ensures.value c.all_slots.ensures
    ∙ ap stream_bytes c.self.view_is in
    subst (λ (bytes : List ℕ). IfErr c.write_stream.result (λ one. one ≡ fault.Write
    → AppendsPrefix (g.K.Sink.received c.args.out.now).written
    (g.K.Sink.received c.write_stream.new.sink).written bytes)) same c.write_stream.ensures.front
