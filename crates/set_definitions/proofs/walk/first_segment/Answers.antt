-- The first segment is cut off, or there is none.
use Rattle.set_definitions.proofs.WalkLaws.{first_cut, no_segment}
use Rattle.set_definitions.proofs.walk.first_segment.Goals as goal

pub returns-in_default-clause-none : goal.returns-in_default-clause-none
returns-in_default-clause-none c none segments are =
    no_segment c.args.bytes.now segments c.in_default.field-0 c.in_default.ensures.fault are

pub returns-clause-first : goal.returns-clause-first
returns-clause-first c segments are =
    first_cut c.args.bytes.now c.split_at.result.0.now c.split_at.result.1.now segments c.in-Ok.frame.whole
    c.in-Ok.ensures.fault c.in-Ok.ensures.whole c.split_at.ensures.front c.split_at.ensures.back are
