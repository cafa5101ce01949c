use Rattle.set_coder.proofs.GrownBlockLaws.{can_go_back, gone_back}
use Rattle.set_coder.proofs.coded_picture.KeptBlocks.grow.Goals as goal

pub returns-in-Ok-clause-back : goal.returns-in-Ok-clause-back
returns-in-Ok-clause-back c = λ pictures more blocks goes_on.
    can_go_back pictures c.args.self.now c.keep_more.new.self c.counts-before.result blocks
    c.keep_more.ensures.grown c.counts-before.ensures.pictures c.counts-before.ensures.blocks

pub returns-in-Err-clause-same : goal.returns-in-Err-clause-same
returns-in-Err-clause-same c = λ pictures blocks.
    gone_back pictures c.keep_more.new.self c.cut.new.self c.counts-before.result
    (can_go_back pictures c.args.self.now c.keep_more.new.self c.counts-before.result blocks
    c.keep_more.ensures.grown c.counts-before.ensures.pictures c.counts-before.ensures.blocks)
    c.cut.ensures.slots c.cut.ensures.coded
