use Rattle.decoder_model.specs.Received.{Reception, for_page}
use Rattle.std.proofs.Common.{◌∙◌, ℕ, ap, subst}
use Rattle.packet_walk.proofs.CloseLaws.{closed}
use Rattle.packet_walk.proofs.EndLaws.{end_told}
use Rattle.packet_walk.specs.Closing.{is_whole_end}
use Rattle.packet_walk.specs.ToldEnds.{IsToldEnd}
use Rattle.receiver.specs.Receiving.{reception}
use Rattle.stream_report.specs.PicturesText.{tells_pictures}
use Rattle.stream_report.specs.Private.Picturing.{pictures_tell}
use Rattle.stream_report.proofs.PictureLaws.{tells_as_made}
use Rattle.stream_report.proofs.picture_tool.tell_pictures.Goals as goal

pub returns : goal.returns
returns g c =
    let made = c.in-Ok-make-2.pictures in
    let walked = c.walk-end.new.self in
    let report = c.args.report in
    let end = c.walk-end.result in
    let pid = (reception made.receiving).pid in
    let same =
    c.walk-end.ensures.same ∙ c.in-Ok-make-2.ensures.made
    ∙ (λ i. record {
      profile = c.of-profile.ensures i;
      pid = report.pid;
      pages = c.only-pages.ensures i;
      anchor = 0;
    }) in
    let ended = c.finish.ensures pid _ _ _ c.walk-end.ensures.end in
    let told =
    end_told (pictures_tell walked (is_whole_end end)) (tells_pictures report (is_whole_end end)) pid _ _ _ _
    c.finish.new.buffer end
    (λ packets text. tells_as_made (for_page report.profile report.pid report.page 0) walked (is_whole_end end)
    packets text same) ended in
    subst (λ (pid : ℕ). IsToldEnd (tells_pictures report) pid (g.A.Source.supplied c.args.stream.now)
    (g.A.Source.supplied c.walk-end.new.stream) (g.K.Sink.received c.args.out.now)
    (g.K.Sink.received c.close_walk.new.out) c.close_walk.result)
    (ap (λ (one : Reception). one.pid) c.in-Ok-make-2.ensures.made)
    (closed (tells_pictures report) pid _ _ _ _ _ c.finish.new.buffer end c.close_walk.result told
    c.close_walk.ensures)
