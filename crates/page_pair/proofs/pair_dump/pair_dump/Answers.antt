use Rattle.std.proofs.Common.{◌∙◌, ◌<◌, ℕ, List, None, drop, sym, subst}
use Rattle.std.specs.List.Sorted.{IsStrictlyIncreasing}
use Rattle.command_words.proofs.TickLaws.{rising_ticks}
use Rattle.command_words.specs.Ticks.{asked_ticks}
use Rattle.dump_text.specs.DumpText.{IsDumpText, anchor_of, asked_for}
use Rattle.packet_walk.specs.ToldEnds.{IsToldEnd}
use Rattle.sub_base.specs.declared.profile.Profile.{Profile}
use Rattle.page_pair.proofs.DumpLaws.{dump_cause, dump_told, early_anchor}
use Rattle.page_pair.proofs.pair_dump.pair_dump.Goals as goal

pub dump_stream-requires-clause-asked : goal.dump_stream-requires-clause-asked
dump_stream-requires-clause-asked g c = λ _ _. record {
  some = c.requires.asked.some;
  few = c.requires.asked.few;
  rising = subst IsStrictlyIncreasing (sym (c.as_slice.ensures.value ∙ c.in-Ok.ensures))
      (rising_ticks None (drop 8 c.args.words.now) c.requires.asked.rising);
}

pub dump_stream-requires-clause-anchor : goal.dump_stream-requires-clause-anchor
dump_stream-requires-clause-anchor g c = λ _ _.
    subst (λ (ticks : List ℕ). anchor_of ticks < 17179869184)
    (sym (c.as_slice.ensures.value ∙ c.in-Ok.ensures)) (early_anchor (drop 8 c.args.words.now))

pub returns-clause-told : goal.returns-clause-told
returns-clause-told g c =
    let dump = c.args.dump in
    let before = g.A.Source.supplied c.args.stream.now in
    let now = g.A.Source.supplied c.dump_stream.new.stream in
    let start = g.K.Sink.received c.args.out.now in
    let next = g.K.Sink.received c.dump_stream.new.out in
    let IsEnd = λ (profile : Profile) (ticks : List ℕ).
    IsToldEnd (IsDumpText (asked_for profile dump.pid dump.pages ticks) ticks) dump.pid before now start next
    c.dump_stream.result in
    let ended =
    subst (λ (profile : Profile). IsEnd profile (asked_ticks 8 c.args.words.now)) c.of-profile.ensures
    (subst (IsEnd c.of-profile.result) (c.as_slice.ensures.value ∙ c.in-Ok.ensures) c.dump_stream.ensures) in
    λ second. dump_told dump (asked_ticks 8 c.args.words.now) before now second start next c.dump_stream.result
    c.status_of_end.result c.status_of_end.ensures ended

pub returns-clause-cause : goal.returns-clause-cause
returns-clause-cause g c =
    let dump = c.args.dump in
    let before = g.A.Source.supplied c.args.stream.now in
    let now = g.A.Source.supplied c.dump_stream.new.stream in
    let start = g.K.Sink.received c.args.out.now in
    let next = g.K.Sink.received c.dump_stream.new.out in
    let IsEnd = λ (profile : Profile) (ticks : List ℕ).
    IsToldEnd (IsDumpText (asked_for profile dump.pid dump.pages ticks) ticks) dump.pid before now start next
    c.dump_stream.result in
    let ended =
    subst (λ (profile : Profile). IsEnd profile (asked_ticks 8 c.args.words.now)) c.of-profile.ensures
    (subst (IsEnd c.of-profile.result) (c.as_slice.ensures.value ∙ c.in-Ok.ensures) c.dump_stream.ensures) in
    λ second. dump_cause dump (asked_ticks 8 c.args.words.now) before now second start next c.dump_stream.result
    c.status_of_end.result c.status_of_end.ensures ended
