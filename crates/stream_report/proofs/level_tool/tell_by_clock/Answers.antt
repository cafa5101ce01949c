-- What `levels` tells by the clock of a programme, by the end of its walk.
use Rattle.std.proofs.Common.{◌≡◌, ◌∙◌, ℕ, Bool, false, true, ap, sym, subst}
use Rattle.decoder_model.specs.Received.{Reception, for_page}
use Rattle.level_text.specs.Following.{HasFollowed}
use Rattle.packet_walk.proofs.CloseLaws.{closed}
use Rattle.packet_walk.specs.Walking.{IsEnd}
use Rattle.sub_base.proofs.ProfileLaws.{every_profile}
use Rattle.sub_base.specs.Profile.{IsProfile}
use Rattle.stream_report.specs.LevelsOutcome.{tells_of}
use Rattle.stream_report.specs.Private.ClockEnds.{FinishesByClock}
use Rattle.stream_report.specs.declared.levels_words.Arrival.TheVariants.{Clock}
use Rattle.stream_report.proofs.ClockEndLaws.{stopped_as_asked, told_as_asked}
use Rattle.stream_report.proofs.EndLaws.{later_end}
use Rattle.stream_report.proofs.level_tool.tell_by_clock.Goals as goal

pub make-requires-3 : goal.make-requires-3
make-requires-3 g c = record {
  profile = subst IsProfile (sym c.of-profile.ensures) (every_profile c.args.report.profile);
}

pub returns-then-finish_by_clock : goal.returns-then-finish_by_clock
returns-then-finish_by_clock g c =
    let report = c.args.report in
    let asked : Reception = for_page report.profile report.pid report.page 0 in
    let made : c.in-Ok-make-2.levels.levels.meter.asked ≡ asked =
    c.in-Ok-make-2.ensures.asked
    ∙ (λ i. record {
      profile = c.of-profile.ensures i;
      pid = report.pid;
      pages = c.only-pages.ensures i;
      anchor = 0;
    }) in
    let same : c.walk_packets-end.new.teller.levels.meter.asked ≡ asked = c.walk_packets-end.ensures.same ∙ made in
    stopped_as_asked c.walk_packets-end.new.teller asked same _ _ c.walk_packets-end.new.buffer
    c.finish_by_clock.new.buffer c.walk_packets-end.result _ _ _
    (subst (λ (wanting : Bool). FinishesByClock c.walk_packets-end.new.teller
    (g.K.Sink.received c.walk_packets-end.new.out) (g.K.Sink.received c.finish_by_clock.new.out)
    c.walk_packets-end.new.buffer c.finish_by_clock.new.buffer c.walk_packets-end.result wanting)
    c.if-finish_by_clock.true c.finish_by_clock.ensures)
    (subst (λ (pid : ℕ). IsEnd (HasFollowed c.walk_packets-end.new.teller) pid
    (g.A.Source.supplied c.args.stream.now) (g.A.Source.supplied c.walk_packets-end.new.stream)
    (g.K.Sink.received c.args.out.now) (g.K.Sink.received c.walk_packets-end.new.out) c.walk_packets-end.new.buffer
    c.walk_packets-end.result) (ap (λ (one : Reception). one.pid) made) c.walk_packets-end.ensures.end)

pub returns : goal.returns
returns g c =
    let report = c.args.report in
    let asked : Reception = for_page report.profile report.pid report.page 0 in
    let made : c.in-Ok-make-2.levels.levels.meter.asked ≡ asked =
    c.in-Ok-make-2.ensures.asked
    ∙ (λ i. record {
      profile = c.of-profile.ensures i;
      pid = report.pid;
      pages = c.only-pages.ensures i;
      anchor = 0;
    }) in
    let same : c.walk_packets-end.new.teller.levels.meter.asked ≡ asked = c.walk_packets-end.ensures.same ∙ made in
    let told =
    told_as_asked c.walk_packets-end.new.teller asked same _ _ c.walk_packets-end.new.buffer
    c.finish_by_clock.new.buffer c.walk_packets-end.result _ _ _
    (subst (λ (wanting : Bool). FinishesByClock c.walk_packets-end.new.teller
    (g.K.Sink.received c.walk_packets-end.new.out) (g.K.Sink.received c.finish_by_clock.new.out)
    c.walk_packets-end.new.buffer c.finish_by_clock.new.buffer c.walk_packets-end.result wanting)
    c.if-finish_by_clock.false c.finish_by_clock.ensures)
    (subst (λ (pid : ℕ). IsEnd (HasFollowed c.walk_packets-end.new.teller) pid
    (g.A.Source.supplied c.args.stream.now) (g.A.Source.supplied c.walk_packets-end.new.stream)
    (g.K.Sink.received c.args.out.now) (g.K.Sink.received c.walk_packets-end.new.out) c.walk_packets-end.new.buffer
    c.walk_packets-end.result) (ap (λ (one : Reception). one.pid) made) c.walk_packets-end.ensures.end) in
    later_end (tells_of Clock asked) report.pid _ _ _ _ c.close_walk.result
    (closed (tells_of Clock asked) report.pid _ _ _ _ _ c.finish_by_clock.new.buffer c.walk_packets-end.result
    c.close_walk.result told c.close_walk.ensures)
