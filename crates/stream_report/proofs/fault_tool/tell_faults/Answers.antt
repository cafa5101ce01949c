use Rattle.std.proofs.Common.{◌∙◌, ℕ, ap, subst}
use Rattle.fault_text.specs.Faulting.{faults_tell}
use Rattle.fault_text.proofs.FaultLaws.{tells_as_made}
use Rattle.packet_walk.proofs.CloseLaws.{closed}
use Rattle.packet_walk.proofs.EndLaws.{end_told}
use Rattle.packet_walk.specs.Closing.{is_whole_end}
use Rattle.packet_walk.specs.ToldEnds.{IsToldEnd}
use Rattle.decoder_model.specs.Received.{Reception, for_page}
use Rattle.set_receiver.specs.Receiving.{reception}
use Rattle.stream_report.specs.FaultsOutcome.{tells_faults}
use Rattle.stream_report.proofs.fault_tool.tell_faults.Goals as goal

pub returns : goal.returns
returns g c =
    let made = c.in-Ok-make-2.faults in
    let walked = c.walk_packets-end.new.teller in
    let report = c.args.report in
    let end = c.walk_packets-end.result in
    let pid = (reception made.receiving).pid in
    let same =
    c.walk_packets-end.ensures.same ∙ c.in-Ok-make-2.ensures.made
    ∙ (λ i. record {
      profile = c.of-profile.ensures i;
      pid = report.pid;
      pages = c.only-pages.ensures i;
      anchor = 0;
    }) in
    let ended = c.finish.ensures pid _ _ _ c.walk_packets-end.ensures.end in
    let told =
    end_told (faults_tell walked (is_whole_end end)) (tells_faults report (is_whole_end end)) pid _ _ _ _
    c.finish.new.buffer end
    (λ packets text. tells_as_made (for_page report.profile report.pid report.page 0) walked
    (is_whole_end end) packets text same) ended in
    subst (λ (pid : ℕ). IsToldEnd (tells_faults report) pid (g.A.Source.supplied c.args.stream.now)
    (g.A.Source.supplied c.walk_packets-end.new.stream) (g.K.Sink.received c.args.out.now)
    (g.K.Sink.received c.close_walk.new.out) c.close_walk.result)
    (ap (λ (one : Reception). one.pid) c.in-Ok-make-2.ensures.made)
    (closed (tells_faults report) pid _ _ _ _ _ c.finish.new.buffer end c.close_walk.result told
    c.close_walk.ensures)
