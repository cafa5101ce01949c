use Rattle.std.proofs.Common.{◌≡◌, ◌∙◌, ℕ, List, ap, subst}
use Rattle.std.specs.Prelude.{IfErr, OnOk}
use Rattle.std.specs.Io.KnownBytes.{Appends}
use Rattle.script_stream.proofs.SendLaws.{slot_count-small}
use Rattle.slot_stream.specs.declared.stream.StreamFault.TheVariants as fault
use Rattle.sub_base.specs.Endpoints.{AppendsPrefix}
use Rattle.page_pair.proofs.SendingLaws.{lent_bytes}
use Rattle.page_pair.specs.Private.Sending.{SentPair, pair_bytes}
use Rattle.page_pair.proofs.pair_stream.PairStream.write.Goals as goal

pub write_stream-requires-clause-short : goal.write_stream-requires-clause-short
write_stream-requires-clause-short g c =
    slot_count-small c.self.inside.schedule.slots c.all_slots.result.now c.all_slots.ensures c.self.invariant.small

pub returns-clause-all : goal.returns-clause-all
returns-clause-all g c =
    let sent : SentPair =
    record { pid = c.self.inside.pid; units = c.self.inside.written.items; table = c.self.inside.schedule } in
    let same =
    lent_bytes sent c.as_slice.result.now c.in-Ok.pieces.items c.as_slice-2.result.now c.all_slots.result.now
    c.as_slice.ensures.value c.in-Ok.ensures.pieces c.as_slice-2.ensures.value c.all_slots.ensures
    ∙ ap pair_bytes c.self.view_is in
    subst (λ (bytes : List ℕ). OnOk c.write_stream.result (Appends (g.K.Sink.received c.args.out.now).written
    (g.K.Sink.received c.write_stream.new.sink).written bytes)) same c.write_stream.ensures.all

pub returns-clause-front : goal.returns-clause-front
returns-clause-front g c =
    let sent : SentPair =
    record { pid = c.self.inside.pid; units = c.self.inside.written.items; table = c.self.inside.schedule } in
    let same =
    lent_bytes sent c.as_slice.result.now c.in-Ok.pieces.items c.as_slice-2.result.now c.all_slots.result.now
    c.as_slice.ensures.value c.in-Ok.ensures.pieces c.as_slice-2.ensures.value c.all_slots.ensures
    ∙ ap pair_bytes c.self.view_is in
    subst (λ (bytes : List ℕ). IfErr c.write_stream.result (λ one. one ≡ fault.Write
    → AppendsPrefix (g.K.Sink.received c.args.out.now).written
    (g.K.Sink.received c.write_stream.new.sink).written bytes)) same c.write_stream.ensures.front
