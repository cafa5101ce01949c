use Rattle.cue_list.proofs.CopyLaws.{copied-more}
use Rattle.cue_list.proofs.copies.epochs_copy.Goals as goal

pub loop-epoch-preserved : goal.loop-epoch-preserved
loop-epoch-preserved c =
    copied-more c.args.epochs.now c.loop-epoch.copies.items c.push.new.self.items c.loop-epoch.epoch-index
    c.epoch-item.result c.in_ok-epoch_copy.field-0 c.loop-epoch-test.true c.loop-epoch.invariant c.epoch-item.is
    c.in_ok-push.ensures.items c.in_ok-epoch_copy.ensures
