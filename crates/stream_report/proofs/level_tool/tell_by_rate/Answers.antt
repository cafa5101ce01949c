-- What `levels` tells at a rate, by the end of its walk.
use Rattle.std.proofs.Common.{◌≡◌, ◌∙◌, ℕ, ap, sym, subst}
use Rattle.level_text.proofs.LevelLaws.{tells_as_made}
use Rattle.level_text.specs.Levelling.{levels_tell}
use Rattle.packet_walk.proofs.CloseLaws.{closed}
use Rattle.packet_walk.proofs.EndLaws.{end_told}
use Rattle.packet_walk.specs.Closing.{is_whole_end}
use Rattle.packet_walk.specs.ToldEnds.{IsToldEnd}
use Rattle.decoder_model.specs.Received.{Reception, for_page}
use Rattle.set_receiver.specs.Receiving.{reception}
use Rattle.sub_base.proofs.ProfileLaws.{every_profile}
use Rattle.sub_base.specs.Profile.{IsProfile}
use Rattle.stream_report.specs.LevelsOutcome.{tells_of}
use Rattle.stream_report.specs.declared.levels_words.Arrival.TheVariants.{Rate}
use Rattle.stream_report.proofs.level_tool.tell_by_rate.Goals as goal

pub make-requires-3-clause-profile : goal.make-requires-3-clause-profile
make-requires-3-clause-profile g c =
    subst IsProfile (sym c.of-profile.ensures) (every_profile c.args.report.profile)

pub returns : goal.returns
returns g c =
    let made = c.in-Ok-make-2.levels in
    let walked = c.walk_packets-end.new.teller in
    let report = c.args.report in
    let asked : Reception = for_page report.profile report.pid report.page 0 in
    let end = c.walk_packets-end.result in
    let pid = (reception made.sets.receiving).pid in
    let same : reception walked.sets.receiving ≡ for_page report.profile report.pid report.page 0 =
    ap (λ (kept : Reception × ℕ). kept.0) c.walk_packets-end.ensures.same ∙ c.in-Ok-make-2.ensures.made
    ∙ (λ i. record {
      profile = c.of-profile.ensures i;
      pid = report.pid;
      pages = c.only-pages.ensures i;
      anchor = 0;
    }) in
    let at_rate : walked.rate ≡ c.args.rate =
    ap (λ (kept : Reception × ℕ). kept.1) c.walk_packets-end.ensures.same ∙ c.in-Ok-make-2.ensures.rate in
    let ended = c.finish.ensures pid _ _ _ c.walk_packets-end.ensures.end in
    let told =
    end_told (levels_tell walked (is_whole_end end)) (tells_of (Rate c.args.rate) asked (is_whole_end end)) pid _ _ _ _
    c.finish.new.buffer end
    (λ packets text. tells_as_made asked c.args.rate walked
    (is_whole_end end) packets text same at_rate) ended in
    subst (λ (pid : ℕ). IsToldEnd (tells_of (Rate c.args.rate) asked) pid (g.A.Source.supplied c.args.stream.now)
    (g.A.Source.supplied c.walk_packets-end.new.stream) (g.K.Sink.received c.args.out.now)
    (g.K.Sink.received c.close_walk.new.out) c.close_walk.result)
    (ap (λ (one : Reception). one.pid) c.in-Ok-make-2.ensures.made)
    (closed (tells_of (Rate c.args.rate) asked) pid _ _ _ _ _ c.finish.new.buffer end c.close_walk.result told
    c.close_walk.ensures)
