use Rattle.std.proofs.Common.{◌≡◌, [], ◌∷◌, ◌++◌, Some, ap, filter_map, rules, subst, sym}
use Rattle.stream_syntax.specs.DataField.{broken, frames_of}
use Rattle.segments.specs.Framing.{IsFirstFrame, TellsFirst, frames_left}
use Rattle.pid_text.specs.PidUnits.{head_in}
use Rattle.pid_text.specs.Private.Listing.{IsListing}
use Rattle.pid_text.proofs.ListingLaws.{listing_noted}
use Rattle.pid_text.proofs.TallyLaws.{all_noted, none_noted, one_noted}
use Rattle.pid_text.proofs.pid_tally.note_field.Goals as goal

pub loop-head-init : goal.loop-head-init
loop-head-init c =
    let same : frames_left c.into_iter-head-iterator.result ≡ frames_of c.args.field.now = search rules in
    none_noted _ _ c.args.pages.now same

pub loop-head-preserved : goal.loop-head-preserved
loop-head-preserved c =
    let told : IsFirstFrame (frames_left c.loop-head.head-iterator) (frames_left c.next.new.self) c.in-Ok.frame =
    subst (λ head. TellsFirst c.loop-head.head-iterator (Some head) c.next.new.self) c.in-Ok.is c.in-Some.ensures.steps
    in
    one_noted _ _ _ c.args.pages.now c.loop-head.pages _ c.in-Ok.frame c.loop-head.invariant told
    (λ units heads listing. subst
    (λ new. IsListing units (heads ++ record { kind = c.in-Ok.frame.kind; page = c.in-Ok.frame.page } ∷ []) new)
    (sym c.note.ensures) (listing_noted units heads _ c.loop-head.pages listing))

pub returns-in-Err : goal.returns-in-Err
returns-in-Err c =
    let told : (frames_left c.loop-head.head-iterator ≡ broken c.in-Err.field-0 ∷ [])
    × (frames_left c.next.new.self ≡ []) =
    subst (λ head. TellsFirst c.loop-head.head-iterator (Some head) c.next.new.self) c.in-Err.is
    c.in-Some.ensures.steps in
    all_noted c.args.field.now _ c.args.pages.now c.loop-head.pages c.loop-head.invariant
    (ap (filter_map head_in) told.0)

pub returns : goal.returns
returns c =
    all_noted c.args.field.now _ c.args.pages.now c.loop-head.pages c.loop-head.invariant
    (ap (filter_map head_in) c.in-None.ensures.steps.0)
