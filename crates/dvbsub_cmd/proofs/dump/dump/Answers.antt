use Rattle.std.proofs.Common.{◌∙◌, ◌<◌, ℕ, List, None, drop, sym, subst}
use Rattle.std.specs.List.Sorted.{IsStrictlyIncreasing}
use Rattle.command_words.proofs.TickLaws.{rising_ticks}
use Rattle.command_words.specs.Ticks.{asked_ticks}
use Rattle.decoder_model.specs.Frames.{only}
use Rattle.decoder_model.specs.declared.pages.Pages.{Pages}
use Rattle.dump_text.specs.DumpText.{IsDumpText, anchor_of, asked_for}
use Rattle.packet_walk.specs.ToldEnds.{IsToldEnd}
use Rattle.sub_base.specs.declared.profile.Profile.{Profile}
use Rattle.dvbsub_cmd.proofs.CloseLaws.{end_cause}
use Rattle.dvbsub_cmd.proofs.TickLaws.{early_anchor}
use Rattle.dvbsub_cmd.specs.Dumps.{dumps}
use Rattle.dvbsub_cmd.proofs.dump.dump.Goals as goal

pub dump_stream-requires-clause-asked : goal.dump_stream-requires-clause-asked
dump_stream-requires-clause-asked g c = λ _ _. record {
  some = c.requires.some;
  few = c.requires.few;
  rising = subst IsStrictlyIncreasing (sym (c.as_slice.ensures.value ∙ c.in-Ok.ensures))
      (rising_ticks None (drop 7 c.args.words.now) c.requires.rising);
}

pub dump_stream-requires-clause-anchor : goal.dump_stream-requires-clause-anchor
dump_stream-requires-clause-anchor g c = λ _ _.
    subst (λ (ticks : List ℕ). anchor_of ticks < 17179869184)
    (sym (c.as_slice.ensures.value ∙ c.in-Ok.ensures)) (early_anchor (drop 7 c.args.words.now))

pub returns : goal.returns
returns g c =
    let before = g.A.Source.supplied c.args.stream.now in
    let now = g.A.Source.supplied c.dump_stream.new.stream in
    let start = g.K.Sink.received c.args.out.now in
    let next = g.K.Sink.received c.dump_stream.new.out in
    let pid = c.args.pid in
    let lent = c.as_slice.result.now in
    let IsEnd = λ (profile : Profile) (pages : Pages) (ticks : List ℕ).
    IsToldEnd (IsDumpText (asked_for profile pid pages ticks) ticks) pid before now start next c.dump_stream.result in
    let ended =
    subst (λ (profile : Profile). IsEnd profile (only c.args.page) (asked_ticks 7 c.args.words.now))
    c.of-profile.ensures
    (subst (λ (pages : Pages). IsEnd c.of-profile.result pages (asked_ticks 7 c.args.words.now)) c.only.ensures
    (subst (IsEnd c.of-profile.result c.only.result) (c.as_slice.ensures.value ∙ c.in-Ok.ensures)
    c.dump_stream.ensures)) in
    end_cause (dumps c.args.profile pid c.args.page (asked_ticks 7 c.args.words.now)) pid before now start next
    c.dump_stream.result c.status_of_end.result c.status_of_end.ensures ended
