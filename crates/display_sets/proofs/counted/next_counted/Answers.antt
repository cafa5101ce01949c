use Rattle.std.proofs.Common.{◌∙◌, sym, subst, Some}
use Rattle.segments.specs.Framing.{IsFirstFrame, TellsFirst, frames_left}
use Rattle.display_sets.proofs.CountedLaws.{whole_inside, passed, first_segment}
use Rattle.display_sets.proofs.counted.next_counted.Goals as goal

pub split_at-requires : goal.split_at-requires
split_at-requires c =
    let told : IsFirstFrame (frames_left c.loop-head.head-iterator) (frames_left c.next.new.self) c.in-Ok.frame =
    subst (λ head. TellsFirst c.loop-head.head-iterator (Some head) c.next.new.self) c.in-Ok.is c.in-Some.ensures.steps
    in
    whole_inside c.args.pages c.args.field.now c.loop-head.rest.now _ _ c.in-Ok.frame c.loop-head.invariant told

pub returns-then-is_counted : goal.returns-then-is_counted
returns-then-is_counted c =
    let told : IsFirstFrame (frames_left c.loop-head.head-iterator) (frames_left c.next.new.self) c.in-Ok.frame =
    subst (λ head. TellsFirst c.loop-head.head-iterator (Some head) c.next.new.self) c.in-Ok.is c.in-Some.ensures.steps
    in
    first_segment c.args.pages c.args.field.now c.loop-head.rest.now _ _ c.in-Ok.frame _ c.loop-head.invariant told
    (sym c.is_counted.ensures ∙ c.if-is_counted.true) c.split_at.ensures.front c.split_at.ensures.back

pub loop-head-preserved : goal.loop-head-preserved
loop-head-preserved c =
    let told : IsFirstFrame (frames_left c.loop-head.head-iterator) (frames_left c.next.new.self) c.in-Ok.frame =
    subst (λ head. TellsFirst c.loop-head.head-iterator (Some head) c.next.new.self) c.in-Ok.is c.in-Some.ensures.steps
    in
    passed c.args.pages c.args.field.now c.loop-head.rest.now c.split_at.result.1.now _ _ c.in-Ok.frame
    c.loop-head.invariant told (sym c.is_counted.ensures ∙ c.if-is_counted.false) c.split_at.ensures.back
