use Rattle.set_coder.proofs.BlockLaws.{are_blocks, are_both}
use Rattle.set_coder.proofs.set_objects.fields_of.Goals as goal

pub returns-clause-blocks : goal.returns-clause-blocks
returns-clause-blocks c =
    are_blocks c.args._picture.now c.args._region c.args.blocks.now c.split_at.result.0.now c.split_at.result.1.now
    c.args.top c.requires c.split_at.ensures.front c.split_at.ensures.back

pub returns-clause-fields : goal.returns-clause-fields
returns-clause-fields c =
    (are_both c.args._picture.now c.args._region c.args.blocks.now c.split_at.result.0.now c.split_at.result.1.now
    c.args.top c.requires c.split_at.ensures.front c.split_at.ensures.back).0

pub returns-clause-drawn : goal.returns-clause-drawn
returns-clause-drawn c =
    (are_both c.args._picture.now c.args._region c.args.blocks.now c.split_at.result.0.now c.split_at.result.1.now
    c.args.top c.requires c.split_at.ensures.front c.split_at.ensures.back).1
