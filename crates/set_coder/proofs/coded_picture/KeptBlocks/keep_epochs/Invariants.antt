use Rattle.std.proofs.Common.{take, All}
use Rattle.cue_list.specs.declared.epoch.Epoch.{Epoch}
use Rattle.set_coder.specs.KeptBlocks.{IsCueKept}
use Rattle.set_coder.specs.GrownBlocks.{AreBlocksOf}
use Rattle.set_coder.specs.Private.Keeping.{StaysInFront}
use Rattle.set_coder.proofs.coded_picture.KeptBlocks.keep_epochs.Given as goal

abbrev pub invariant-loop-epoch : goal.invariant-loop-epoch
invariant-loop-epoch l = record {
  blocks : AreBlocksOf l.script.pictures l.self;
  kept : All (λ (epoch : Epoch). All (IsCueKept l.script.pictures l.self.coded.items epoch) epoch.cues)
      (take l.epoch-index l.script.epochs);
  front : StaysInFront l.fn.self.coded.items l.self.coded.items;
}
