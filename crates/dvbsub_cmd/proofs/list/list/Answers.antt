use Rattle.std.proofs.Common.{ℕ, subst}
use Rattle.packet_walk.proofs.EndLaws.{end_told}
use Rattle.list_text.specs.Listing.{IsListed, lists}
use Rattle.list_text.specs.ListText.{IsListText}
use Rattle.dvbsub_cmd.specs.StreamOutcome.{IsStreamCause}
use Rattle.dvbsub_cmd.proofs.CloseLaws.{closed}
use Rattle.dvbsub_cmd.proofs.list.list.Goals as goal

pub returns : goal.returns
returns g c =
    let made : ℕ = c.in-Ok-make-2.lister.demux.pid in
    let told =
    end_told (IsListed c.walk_packets-end.new.teller.demux) (IsListText made) made _ _ _ _
    c.walk_packets-end.new.buffer c.walk_packets-end.result
    (λ packets text. λ listed. subst (λ (pid : ℕ). IsListText pid packets text) c.walk_packets-end.ensures.pid
    listed.told) c.walk_packets-end.ensures.end in
    subst (λ (pid : ℕ). IsStreamCause (lists pid) pid
    (g.A.Source.supplied c.args.stream.now)
    (g.A.Source.supplied c.walk_packets-end.new.stream)
    (g.K.Sink.received c.args.out.now)
    (g.K.Sink.received c.close.new.out)
    c.close.result) c.in-Ok-make-2.ensures.pid
    (closed (lists made) made _ _ _ _ _ c.walk_packets-end.new.buffer c.walk_packets-end.result c.close.result told
    c.close.ensures)
