-- The reading of a frame by what its reader says of all values and faults.
use Rattle.std.proofs.Common.{arith}
use Rattle.segments.proofs.Framing.{body_size}
use Rattle.page_core.proofs.Sets.Fronts.{matches_result, right_result}
use Rattle.page_core.proofs.front.read_one.Goals as goal

pub segment-requires : goal.segment-requires
segment-requires c =
    let bytes = c.requires.0 in
    let framed = c.requires.1 in
    omega (arith, body_size bytes c.args.frame.now framed, framed.each 4, framed.each 5)

pub returns-clause-matches : goal.returns-clause-matches
returns-clause-matches c segment reading framed is_reading =
    matches_result segment c.args.frame.now.whole _ reading (c.segment.ensures.every_segment segment framed)
    (c.segment.ensures.every_fault segment framed) is_reading

pub returns-clause-valid : goal.returns-clause-valid
returns-clause-valid c =
    right_result c.requires.0 c.args.frame.now.whole _ (c.segment.ensures.segment c.requires.0 c.requires.1)
