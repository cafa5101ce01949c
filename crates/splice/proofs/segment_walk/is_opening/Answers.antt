-- A segment that is read is the reading's, and one that is refused opens nothing.
use Rattle.std.proofs.Common.{◌∙◌}
use Rattle.segments.specs.Contents.{contents}
use Rattle.splice.proofs.WalkLaws.{opens, opens_none}
use Rattle.splice.proofs.segment_walk.is_opening.Goals as goal

pub returns-in-Ok : goal.returns-in-Ok
returns-in-Ok c reading framed is =
    c.is_new_page.ensures
    ∙ opens c.args.segment.now (contents c.in-Ok.read) c.in-Ok.field-0-1 reading framed is
    (λ other n within segment. c.in-Ok.ensures.every_segment other n within segment)
    (λ fault bad. let e = c.in-Ok.ensures.every_fault fault bad in cc)

pub returns-in-Err : goal.returns-in-Err
returns-in-Err c reading framed is =
    opens_none c.args.segment.now reading framed is
    (λ other n within segment. c.in-Err.ensures.every_segment other n within segment)
