-- What `check` tells, by the end of its walk.
use Rattle.decoder_model.specs.Received.{Reception}
use Rattle.std.proofs.Common.{◌∙◌, ℕ, ap, subst}
use Rattle.packet_walk.proofs.EndLaws.{end_told}
use Rattle.set_receiver.specs.Receiving.{reception}
use Rattle.dvbsub_cmd.specs.Checks.{check_tells, checks}
use Rattle.dvbsub_cmd.specs.Private.Closing.{is_whole_end}
use Rattle.dvbsub_cmd.specs.StreamOutcome.{IsStreamCause}
use Rattle.dvbsub_cmd.proofs.CheckLaws.{tells_as_asked}
use Rattle.dvbsub_cmd.proofs.CloseLaws.{closed}
use Rattle.dvbsub_cmd.proofs.check.check.Goals as goal

pub returns : goal.returns
returns g c =
    let made = c.in-Ok-make-2.check in
    let walked = c.walk_packets-end.new.teller in
    let pid = (reception made.receiving).pid in
    let same =
    c.walk_packets-end.ensures.same ∙ c.in-Ok-make-2.ensures.made
    ∙ (λ i. record {
      profile = c.of-profile.ensures i;
      pid = c.args.pid;
      pages = c.only.ensures i;
      anchor = c.args.origin;
    }) in
    let ended = c.finish.ensures pid _ _ _ c.walk_packets-end.ensures.end in
    let told =
    end_told (check_tells walked (is_whole_end c.walk_packets-end.result))
    (checks c.args.profile c.args.origin c.args.pid c.args.page (is_whole_end c.walk_packets-end.result)) pid _ _ _
    _ c.finish.new.buffer c.walk_packets-end.result
    (λ packets text.
    tells_as_asked c.args.profile c.args.origin c.args.pid c.args.page walked
    (is_whole_end c.walk_packets-end.result) packets text same) ended in
    subst
    (λ (pid : ℕ). IsStreamCause (checks c.args.profile c.args.origin c.args.pid c.args.page) pid
    (g.A.Source.supplied c.args.stream.now) (g.A.Source.supplied c.walk_packets-end.new.stream)
    (g.K.Sink.received c.args.out.now) (g.K.Sink.received c.close.new.out) c.close.result)
    (ap (λ (one : Reception). one.pid) c.in-Ok-make-2.ensures.made)
    (closed (checks c.args.profile c.args.origin c.args.pid c.args.page) pid _ _ _ _ _ c.finish.new.buffer
    c.walk_packets-end.result c.close.result told c.close.ensures)
