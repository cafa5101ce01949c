use Rattle.std.proofs.Common.{◌≡◌, ◌∙◌, [], ◌∷◌, Some, subst, sym, ap, rules, arith}
use Rattle.stream_syntax.specs.DataField.{broken, frames_of}
use Rattle.stream_syntax.proofs.FrameLaws.{bytes_held, frames_held}
use Rattle.segments.specs.Framing.{IsFirstFrame, TellsFirst, frames_left}
use Rattle.list_text.specs.ListText.{IsSegmentLine}
use Rattle.list_text.proofs.ListLaws.{no_lines, line_more, lines_ended, lines_broken}
use Rattle.list_text.proofs.units.list_segments.Goals as goal

pub loop-head-init : goal.loop-head-init
loop-head-init g c =
    let same : frames_left c.into_iter-head-iterator.result ≡ frames_of c.args.segments.now = search rules in
    record { place = omega (arith, ap bytes_held same, frames_held c.args.segments.now); told = no_lines _ _ _ _ same }

pub returns-in-Err : goal.returns-in-Err
returns-in-Err g c =
    let told : (frames_left c.loop-head.head-iterator ≡ broken c.in-Err.fault ∷ [])
    × (frames_left c.next.new.self ≡ []) =
    subst (λ head. TellsFirst c.loop-head.head-iterator (Some head) c.next.new.self) c.in-Err.is
    c.in-Some.ensures.steps in
    lines_broken _ _ _ _ _ _ c.loop-head.place c.args.segments.now c.as_bytes-in-Err.result.now
    (frames_left c.loop-head.head-iterator) c.in-Err.fault c.loop-head.invariant.told
    told.0 (c.as_bytes-in-Err.ensures ∙ c.fault_line-line.ensures.line) c.put-in-Err.ensures

pub loop-head-preserved : goal.loop-head-preserved
loop-head-preserved g c =
    let told : IsFirstFrame (frames_left c.loop-head.head-iterator) (frames_left c.next.new.self) c.in-Ok.frame =
    subst (λ head. TellsFirst c.loop-head.head-iterator (Some head) c.next.new.self) c.in-Ok.is c.in-Some.ensures.steps
    in
    let line_is : IsSegmentLine c.loop-head.place told.bytes c.as_bytes.result.now =
    subst (λ line. IsSegmentLine c.loop-head.place told.bytes line) (sym c.as_bytes.ensures)
    (c.write_framed_line.ensures.line told.bytes told.is_frame told.exact) in
    record {
      place = omega (arith, c.loop-head.invariant.place, ap bytes_held told.first, told.exact);
      told =
          line_more _ _ _ _ _ _ c.loop-head.place _ _ _ c.as_bytes.result.now c.in-Ok.frame c.loop-head.invariant.told
          told line_is c.put.ensures;
    }

pub returns : goal.returns
returns g c =
    lines_ended _ _ _ _ c.loop-head.place c.args.segments.now (frames_left c.loop-head.head-iterator)
    c.loop-head.invariant.told c.in-None.ensures.steps.0
