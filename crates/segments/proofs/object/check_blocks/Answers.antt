use Rattle.stream_syntax.specs.SegmentTests.{in_top, in_bottom}
use Rattle.segments.proofs.object.check_blocks.Goals as goal

pub returns-in-Err-clause-fault : goal.returns-in-Err-clause-fault
returns-in-Err-clause-fault c = in_top c.in-Err.code c.in-Err.ensures.fault c.in_block.ensures

pub returns-in-Err-check_block-clause-fault : goal.returns-in-Err-check_block-clause-fault
returns-in-Err-check_block-clause-fault c =
    in_bottom _ c.in-Err-check_block.code c.in_default.ensures.block c.in-Err-check_block.ensures.fault
    c.in_block-in-Err-check_block.ensures
