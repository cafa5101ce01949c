use Rattle.std.proofs.Common.{◌≡◌, ◌∙◌, ℕ, ◌+◌, ◌≤◌, List, [], ◌∷◌, ◌++◌, Some, ap, subst, arith}
use Rattle.cue_records.specs.declared.limits.TheConstants.{LONGEST_SCRIPT}
use Rattle.decoder_model.specs.Frames.{only}
use Rattle.decoder_model.specs.declared.pages.Pages.{Pages}
use Rattle.dump_text.specs.DumpText.{IsDumpText, asked_for}
use Rattle.packet_walk.specs.ToldEnds.{IsToldEnd}
use Rattle.script_stream.specs.SentScripts.{stream_bytes}
use Rattle.sub_base.specs.InMemory.{Store, Supply}
use Rattle.sub_base.specs.declared.profile.Profile.{Profile}
use Rattle.uses.proofs.ToldLaws.{told_picture}
use Rattle.uses.proofs.tell_picture.Goals as goal

pub returns : goal.returns
returns g c = λ done.
    let script = c.args.script.now in
    let tick = c.args.tick in
    let sent = c.in-Ok.field-0 in
    let supply = c.make-source.result in
    let rest = c.dump_stream-end.new.stream in
    let start = g.K.Sink.received c.args.out.now in
    let next = g.K.Sink.received c.dump_stream-end.new.out in
    let end = c.dump_stream-end.result in
    let late : script.origin ≤ tick = omega (arith, c.if-tick-script.false) in
    let early : tick ≤ script.origin + LONGEST_SCRIPT =
    omega (arith, late, c.if-tick-script-gt-LONGEST_SCRIPT.false) in
    let nothing = ap (λ (store : Store). store.written) c.make-stream.ensures in
    let bytes : supply.left ≡ stream_bytes sent =
    ap (λ (one : Supply). one.left) c.make-source.ensures ∙ c.in-Ok-from_slice.ensures.items ∙ c.written.ensures
    ∙ c.in-Ok.ensures.written ∙ ap (λ (before : List ℕ). before ++ stream_bytes sent) nothing in
    let IsEnd =
    λ (profile : Profile) (pages : Pages). IsToldEnd
    (IsDumpText (asked_for profile 256 pages (tick ∷ [])) (tick ∷ [])) 256
    (record { left = Some supply.left; given = supply.given; faults = supply.faults })
    (record { left = Some rest.left; given = rest.given; faults = rest.faults }) start next end in
    let ended =
    subst (λ (profile : Profile). IsEnd profile (only 1)) c.of-profile.ensures
    (subst (IsEnd c.of-profile.result) c.only.ensures c.dump_stream-end.ensures) in
    told_picture script tick sent c.in-Ok.ensures.sent c.in-Ok.ensures.shown late early end supply.left rest.left
    supply.given supply.faults rest.given rest.faults start next (c.is_done.ensures.0 done) bytes ended
