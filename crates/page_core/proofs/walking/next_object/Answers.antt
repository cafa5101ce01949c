-- The next object.
use Rattle.std.proofs.Common.{◌∙◌, ap, sym}
use Rattle.stream_syntax.specs.Segments.{of_object}
use Rattle.segments.specs.Contents.{object_value}
use Rattle.page_core.proofs.Objects.KnownObjects.{known_body}
use Rattle.page_core.proofs.Sets.NextContents.{object_is_segment, next_object_is}
use Rattle.page_core.proofs.walking.next_object.Goals as goal

pub returns-in-Some-clause-next : goal.returns-in-Some-clause-next
returns-in-Some-clause-next c set are =
    let n = c.in_ok-front.ensures.next set are in
    let is = object_is_segment set c.in_ok-front.front n in
    let body = known_body n.segment c.in_ok-front.front.frame.body.now is.0 is.1 n.framed.body_is in
    next_object_is set c.in_ok-front.front (object_value c.in-Some.segment) n
    (ap of_object (c.in-Some.ensures.valid body.0 ∙ body.1) ∙ sym is.2)

pub returns-in-None-clause-next : goal.returns-in-None-clause-next
returns-in-None-clause-next c set are =
    let n = c.in_ok-front.ensures.next set are in
    let is = object_is_segment set c.in_ok-front.front n in
    absurd (c.in-None.ensures.valid
    (known_body n.segment c.in_ok-front.front.frame.body.now is.0 is.1 n.framed.body_is).0)
